-- Cells, faces and cycles of a plane graph with one more edge: g is without it, h with it, x is either of its darts, and a and b are the darts that x and its twin come after.
use Rattle.std.specs.Prelude.{◌≡◌, ◌≢◌, ◌↔◌, ◌⊎◌, true, false, not, ◌||◌}
use Rattle.std.specs.List.{Contains}
use Rattle.exact_plane.specs.Point.{Point}
use Rattle.plane_graphs.specs.Graph.{Edge}
use Rattle.slab_laws.specs.declared.slab_cell.SlabCell.{SlabCell}
use Rattle.slab_laws.specs.Skeleton.{Skeleton, IsPlaneSkeleton}
use Rattle.slab_laws.specs.Slabs.{left_cell}
use Rattle.slab_laws.specs.Darts.{Dart, darts}
use Rattle.slab_laws.specs.Meets.{SameFace}
use Rattle.slab_laws.specs.Changes.{merged, IsCell}
use Rattle.slab_laws.specs.Cycles.{left_of_dart}
use Rattle.slab_laws.specs.Rotation.{twin}
use Rattle.slab_laws.specs.Rows.{least_dart_of}
use Rattle.slab_laws.specs.Subdivision.{first_cell}
use Rattle.sound_changes.specs.NextLaws.{HasEdgeMore, IsDartOf, IsBareEnd, ComesBetween}
use Rattle.face_changes.specs.Orbits.{IsOrbitSplit, AreOrbitsUnited, AreOrbitsKept}
use Rattle.face_changes.specs.Kinds.{odd_at, is_outer}

-- h is g with the edge e, and both are plane (CGAL manual, `insert_at_vertices`)
pub record IsOneMoreEdge (g h : Skeleton) (e : Edge) : Type 0 where
  pub plane : IsPlaneSkeleton g
  pub plane_more : IsPlaneSkeleton h
  pub more : HasEdgeMore g h e

-- the cell c of h lies in the cell b of g (this project)
pub record LiesIn (g h : Skeleton) (e : Edge) (c b : SlabCell) : Type 0 where
  pub real : IsCell g e c
  pub in' : merged g e c ≡ b

-- the cell beside an old dart, the cell round a vertex, and the first cell lie in those of the graph without the edge; the cells beside the edge lie in some
pub record CellsWithOneMoreEdge : Type 0 where
  pub dart : (g h : Skeleton) (x d : Dart) → IsOneMoreEdge g h x.edge → IsDartOf g d → LiesIn g h x.edge (left_of_dart h d) (left_of_dart g d)
  pub vertex : (g h : Skeleton) (x : Dart) (p : Point) → IsOneMoreEdge g h x.edge → Contains g.vertices p → LiesIn g h x.edge (left_cell h p) (left_cell g p)
  pub first : (g h : Skeleton) (x : Dart) → IsOneMoreEdge g h x.edge → LiesIn g h x.edge first_cell first_cell
  pub new : (g h : Skeleton) (x : Dart) → IsOneMoreEdge g h x.edge → IsCell g x.edge (left_of_dart h x)

-- two cells are in one face of h exactly where their cells in g are in one face of g, and the cycle of x has one parity at both (a discrete Jordan theorem; this project)
abbrev pub FacesWithOneMoreEdge : Type 0
FacesWithOneMoreEdge =
    (g h : Skeleton) (x : Dart) (c d b a : SlabCell) → IsOneMoreEdge g h x.edge → LiesIn g h x.edge c b → LiesIn g h x.edge d a → SameFace h c d ↔ (SameFace g b a × (odd_at h x c ≡ odd_at h x d))

-- where both darts of the edge are on one cycle, the faces are those of g; where they are not, the cycle of x has different parities on both sides of the edge, so these are two faces
pub record SidesOfOneMoreEdge : Type 0 where
  pub one : (g h : Skeleton) (x : Dart) (c d b a : SlabCell) → IsOneMoreEdge g h x.edge → least_dart_of h x ≡ least_dart_of h (twin x) → LiesIn g h x.edge c b → LiesIn g h x.edge d a → SameFace h c d ↔ SameFace g b a
  pub two : (g h : Skeleton) (x : Dart) → IsOneMoreEdge g h x.edge → least_dart_of h x ≢ least_dart_of h (twin x) → odd_at h x (left_of_dart h x) ≡ not (odd_at h x (left_of_dart h (twin x)))

-- ---- cycles
-- the darts of the edge are a cycle of their own, and bound nothing (CGAL manual, `insert_in_face_interior`)
pub record MakesHole (g h : Skeleton) (x : Dart) : Type 0 where
  pub kept : AreOrbitsKept (least_dart_of g) (least_dart_of h) (darts g)
  pub one : least_dart_of h (twin x) ≡ least_dart_of h x
  pub new : (d : Dart) → IsDartOf g d → least_dart_of h d ≢ least_dart_of h x
  pub inner : is_outer h x ≡ false
  pub kinds : (d : Dart) → IsDartOf g d → is_outer h d ≡ is_outer g d

-- they are on the cycle of a (CGAL manual, `insert_from_left_vertex`)
pub record GrowsCycle (g h : Skeleton) (x a : Dart) : Type 0 where
  pub kept : AreOrbitsKept (least_dart_of g) (least_dart_of h) (darts g)
  pub first : least_dart_of h x ≡ least_dart_of h a
  pub second : least_dart_of h (twin x) ≡ least_dart_of h a
  pub kinds : (d : Dart) → IsDartOf g d → is_outer h d ≡ is_outer g d

-- the cycles of a and b have become one, with the darts of the edge; it is outer where one of them was (CGAL manual, `insert_at_vertices`)
pub record JoinsCycles (g h : Skeleton) (x a b : Dart) : Type 0 where
  pub cycles : AreOrbitsUnited (least_dart_of g) (least_dart_of h) (darts g) x (twin x) a b
  pub one_face : SameFace g (left_of_dart g a) (left_of_dart g b)
  pub not_both : is_outer g a ≡ true → is_outer g b ≡ true → ⊥
  pub kind : is_outer h x ≡ (is_outer g a || is_outer g b)
  pub kinds : (d : Dart) → IsDartOf g d → least_dart_of h d ≢ least_dart_of h x → is_outer h d ≡ is_outer g d

-- the cycle of a has become two, with one dart of the edge on each: of an outer one both are outer, of an inner one just one is (CGAL manual, `insert_at_vertices`)
pub record PartsCycle (g h : Skeleton) (x a : Dart) : Type 0 where
  pub cycles : IsOrbitSplit (least_dart_of g) (least_dart_of h) (darts g) x (twin x) a
  pub near : (b : SlabCell) → LiesIn g h x.edge (left_of_dart h x) b → SameFace g b (left_of_dart g a)
  pub near_twin : (b : SlabCell) → LiesIn g h x.edge (left_of_dart h (twin x)) b → SameFace g b (left_of_dart g a)
  pub sides : (c b : SlabCell) → LiesIn g h x.edge c b → SameFace g b (left_of_dart g a) → SameFace h c (left_of_dart h x) ⊎ SameFace h c (left_of_dart h (twin x))
  pub elsewhere : (c d b k : SlabCell) → LiesIn g h x.edge c b → LiesIn g h x.edge d k → ¬ SameFace g b (left_of_dart g a) → SameFace g b k → SameFace h c d
  pub of_outer : is_outer g a ≡ true → (is_outer h x ≡ true) × (is_outer h (twin x) ≡ true)
  pub of_inner : is_outer g a ≡ false → is_outer h (twin x) ≡ not (is_outer h x)
  pub kinds : (d : Dart) → IsDartOf g d → least_dart_of g d ≢ least_dart_of g a → is_outer h d ≡ is_outer g d

-- what becomes of cycles, by what is at both ends of the edge
pub record CyclesWithOneMoreEdge : Type 0 where
  pub new_hole : (g h : Skeleton) (x : Dart) → IsOneMoreEdge g h x.edge → IsBareEnd g x → IsBareEnd g (twin x) → MakesHole g h x
  pub grown : (g h : Skeleton) (x a : Dart) → IsOneMoreEdge g h x.edge → IsDartOf g a → ComesBetween g a x → IsBareEnd g (twin x) → GrowsCycle g h x a
  pub joined : (g h : Skeleton) (x a b : Dart) → IsOneMoreEdge g h x.edge → IsDartOf g a → IsDartOf g b → ComesBetween g a x → ComesBetween g b (twin x) → least_dart_of g a ≢ least_dart_of g b → JoinsCycles g h x a b
  pub parted : (g h : Skeleton) (x a b : Dart) → IsOneMoreEdge g h x.edge → IsDartOf g a → IsDartOf g b → ComesBetween g a x → ComesBetween g b (twin x) → least_dart_of g a ≡ least_dart_of g b → PartsCycle g h x a
