-- The subdivision of the plane by a graph: cycles with their kinds, faces with their ranks, and where a point lies.
use Rattle.std.specs.Prelude.{ℕ, List, ◌∷◌, ◌++◌, map, Bool, not, ◌||◌, filter, length, Option, Some, None, find}
use Rattle.std.specs.List.{list_any, position_or_len}
use Rattle.exact_plane.specs.Point.{Point}
use Rattle.plane_graphs.specs.Graph.{Edge}
use Rattle.slab_laws.specs.Skeleton.{Skeleton, same_point, inside}
use Rattle.slab_laws.specs.Slabs.{left_cell}
use Rattle.slab_laws.specs.declared.slab_cell.SlabCell.{SlabCell}
use Rattle.slab_laws.specs.declared.cell.Cell.{Cell}
use Rattle.slab_laws.specs.declared.cell.Cell.TheVariants.{Vertex, Edge as OnEdge, Face}
use Rattle.slab_laws.specs.Listed.{distinct}
use Rattle.slab_laws.specs.declared.classes.Label.{Label}
use Rattle.slab_laws.specs.Faces.{face_labels, face_of, same_cell, cells}
use Rattle.slab_laws.specs.Darts.{Dart, darts}
use Rattle.slab_laws.specs.Cycles.{trail, dart_labels, leads, odd, left_of_dart}

-- a boundary cycle: its least dart, its darts in order, whether it is outer, and its face by the least cell (CGAL manual, boundary components)
pub record Cycle : Type 0 where
  pub lead : Dart
  pub darts : List Dart
  pub outer : Bool
  pub face : SlabCell

-- a vertex without darts, and its face
pub record Bare : Type 0 where
  pub point : Point
  pub face : SlabCell

-- the graph, its darts, the labels of cells, cycles, bare vertices, and the faces by rank (Fogel, Halperin and Wein)
pub record Subdivision : Type 0 where
  pub graph : Skeleton
  pub darts : List Dart
  pub labels : List (Label SlabCell)
  pub cycles : List Cycle
  pub bare : List Bare
  pub faces : List SlabCell

-- the cycle of a least dart (CGAL manual)
unfoldable pub cycle : Skeleton → List (Label SlabCell) → List Dart → List (Label Dart) → Dart → Cycle
cycle g ls ds orbits d =
    let c : SlabCell = left_of_dart g d in
    record { lead = d; darts = trail ds (length ds) d d; outer = odd g orbits d c; face = face_of ls c }

-- all cycles by their least darts (CGAL manual)
unfoldable pub cycles : Skeleton → List Dart → List (Label SlabCell) → List Cycle
cycles g ds ls =
    let orbits : List (Label Dart) = dart_labels ds in
    map (cycle g ls ds orbits) (leads ds orbits)

-- the point is an end of an edge (CGAL manual)
unfoldable pub has_dart : Skeleton → Point → Bool
has_dart g p = list_any (λ e. same_point e.low p || same_point e.high p) g.edges

-- the cell far to the left, of the unbounded face (Fogel, Halperin and Wein)
abbrev pub first_cell : SlabCell
first_cell = record { slab = 0; place = 0 }

-- the unbounded face, then the others by the least darts of their outer cycles; every bounded face has one, so the cells add no other face to these
unfoldable pub ranked : Skeleton → List (Label SlabCell) → List Cycle → List SlabCell
ranked g ls cs = distinct same_cell (face_of ls first_cell ∷ (map (λ c. c.face) (filter (λ c. c.outer) cs) ++ map (face_of ls) (cells g)))

-- the subdivision of the plane by a graph (Fogel, Halperin and Wein)
unfoldable pub subdivision : Skeleton → Subdivision
subdivision g =
    let ls : List (Label SlabCell) = face_labels g in
    let ds : List Dart = darts g in
    let cs : List Cycle = cycles g ds ls in
    let bs : List Bare = map (λ p. record { point = p; face = face_of ls (left_cell g p) }) (filter (λ p. not (has_dart g p)) g.vertices) in
    record { graph = g; darts = ds; labels = ls; cycles = cs; bare = bs; faces = ranked g ls cs }

-- the place of a face, by its least cell, among the faces (this project)
unfoldable pub rank : Subdivision → SlabCell → ℕ
rank s f = position_or_len (same_cell f) s.faces

-- a vertex, else an edge, else a face (CGAL manual, point location)
unfoldable pub spot_on : Option Point → Option Edge → ℕ → Cell
spot_on (Some p) e k = Vertex p
spot_on None (Some e) k = OnEdge e.low e.high
spot_on None None k = Face k

-- the vertex that q is, else the edge that q lies inside, else the rank of the face of q's cell
unfoldable pub holds_in : Skeleton → List (Label SlabCell) → List SlabCell → Point → Cell
holds_in g ls fs q = spot_on (find (same_point q) g.vertices) (find (λ e. inside e q) g.edges) (position_or_len (same_cell (face_of ls (left_cell g q))) fs)

-- where q lies (CGAL manual, point location)
abbrev pub holds : Subdivision → Point → Cell
holds s q = holds_in s.graph s.labels s.faces q
