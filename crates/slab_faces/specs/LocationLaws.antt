-- Where a point lies: what location answers is so, and walls tell slabs and their edges as vertices do.
use Rattle.std.specs.Prelude.{◌≡◌, ℕ, ◌<◌, ◌≤◌, Bool, true, false, not, ◌&&◌, length, ◌↔◌}
use Rattle.std.specs.List.{Contains, count_by}
use lib.Dec.{ltb, leb}
use Rattle.exact_plane.specs.Point.{Point}
use Rattle.plane_graphs.specs.Graph.{Edge}
use Rattle.slab_laws.specs.Skeleton.{Skeleton, HasWeight, IsPlaneSkeleton, left_of, on_wall, same_point, inside, below}
use Rattle.slab_laws.specs.Slabs.{slab_left, slab_right, spans, place, left_cell, right_cell}
use Rattle.slab_laws.specs.declared.cell.Cell.TheVariants.{Vertex, Edge as OnEdge, Face}
use Rattle.slab_laws.specs.Faces.{walls}
use Rattle.slab_laws.specs.Subdivision.{subdivision, holds}

-- q is none of the vertices
abbrev pub IsNoVertex : Skeleton → Point → Type 0
IsNoVertex g q = (v : Point) → Contains g.vertices v → same_point q v ≡ false

-- what location answers for q: an equal vertex; else an edge with q inside; else a face, by a rank in the list of faces
pub record IsLocated (g : Skeleton) (q : Point) : Type 0 where
  pub vertex_is_there : (p : Point) → holds (subdivision g) q ≡ Vertex p → (p ≡ q) × Contains g.vertices p
  pub edge_is_there : (a b : Point) → holds (subdivision g) q ≡ OnEdge a b → Contains g.edges (record { low = a; high = b })
  pub edge_has_it_inside : (a b : Point) → holds (subdivision g) q ≡ OnEdge a b → inside (record { low = a; high = b }) q ≡ true
  pub edge_at_no_vertex : (a b : Point) → holds (subdivision g) q ≡ OnEdge a b → IsNoVertex g q
  pub face_at_no_vertex : (k : ℕ) → holds (subdivision g) q ≡ Face k → IsNoVertex g q
  pub face_on_no_edge : (k : ℕ) → holds (subdivision g) q ≡ Face k → (e : Edge) → Contains g.edges e → inside e q ≡ false
  pub face_is_there : (k : ℕ) → holds (subdivision g) q ≡ Face k → k < length (subdivision g).faces

-- of every point of a plane skeleton what location answers is so: it is one vertex, or inside an edge, or in a face
abbrev pub LocationIsOne : Type 0
LocationIsOne = (g : Skeleton) (q : Point) → IsPlaneSkeleton g → HasWeight q → IsLocated g q

-- no two edges have one point inside
abbrev pub OneEdgeAtMost : Type 0
OneEdgeAtMost = (g : Skeleton) (e f : Edge) (q : Point) → IsPlaneSkeleton g → HasWeight q → Contains g.edges e → Contains g.edges f → inside e q ≡ true → inside f q ≡ true → e ≡ f

-- a point off all walls is in one cell
abbrev pub OffWalls : Type 0
OffWalls = (g : Skeleton) (t : Point) → IsPlaneSkeleton g → HasWeight t → ((v : Point) → Contains g.vertices v → on_wall v t ≡ false) → left_cell g t ≡ right_cell g t

-- how many walls lie to the left of t, each told by its lowest vertex
abbrev pub walls_left : Skeleton → Point → ℕ
walls_left g t = count_by (λ v. left_of v t) (walls g)

-- how many walls lie to the left of t or go through it
abbrev pub walls_up_to : Skeleton → Point → ℕ
walls_up_to g t = count_by (λ v. not (left_of t v)) (walls g)

-- i and j are one number exactly where m and n are; i is less than j, or at most j, exactly where m is so to n
pub record IsOrderedAs (i j m n : ℕ) : Type 0 where
  pub same : (i ≡ j) ↔ (m ≡ n)
  pub less : (i < j) ↔ (m < n)
  pub at_most : (i ≤ j) ↔ (m ≤ n)

-- slabs are the same, and in the same order, by the vertices to their left and by the walls to their left: the slabs left of
-- two points, right of two points, left of one and right of the other, right of one and left of the other; and the slab left
-- or right of a point is the first of all by vertices exactly where it is so by walls
pub record WallsTellSlabs : Type 0 where
  pub left_and_left : (g : Skeleton) (t u : Point) → IsPlaneSkeleton g → HasWeight t → HasWeight u → IsOrderedAs (slab_left g t) (slab_left g u) (walls_left g t) (walls_left g u)
  pub right_and_right : (g : Skeleton) (t u : Point) → IsPlaneSkeleton g → HasWeight t → HasWeight u → IsOrderedAs (slab_right g t) (slab_right g u) (walls_up_to g t) (walls_up_to g u)
  pub left_and_right : (g : Skeleton) (t u : Point) → IsPlaneSkeleton g → HasWeight t → HasWeight u → IsOrderedAs (slab_left g t) (slab_right g u) (walls_left g t) (walls_up_to g u)
  pub right_and_left : (g : Skeleton) (t u : Point) → IsPlaneSkeleton g → HasWeight t → HasWeight u → IsOrderedAs (slab_right g t) (slab_left g u) (walls_up_to g t) (walls_left g u)
  pub left_is_first : (g : Skeleton) (t : Point) → IsPlaneSkeleton g → HasWeight t → (slab_left g t ≡ 0) ↔ (walls_left g t ≡ 0)
  pub right_is_first : (g : Skeleton) (t : Point) → IsPlaneSkeleton g → HasWeight t → (slab_right g t ≡ 0) ↔ (walls_up_to g t ≡ 0)

-- the edge reaches from wall to wall of the slab that has i walls to its left
abbrev pub spans_by_walls : (g : Skeleton) (i : ℕ) (e : Edge) → Bool
spans_by_walls g i e = leb (walls_up_to g e.low) i && ltb i (walls_up_to g e.high)

-- how many of that slab's edges are below the edge
abbrev pub place_by_walls : Skeleton → ℕ → Edge → ℕ
place_by_walls g i e = count_by (λ f. spans_by_walls g i f && below f e) g.edges

-- the slab with i vertices to its left is the one with n walls to its left: the same edges span it, each at the same place
pub record IsSlabByWalls (g : Skeleton) (i n : ℕ) : Type 0 where
  pub same_spans : (e : Edge) → Contains g.edges e → spans g i e ≡ spans_by_walls g n e
  pub same_place : (e : Edge) → place g i e ≡ place_by_walls g n e

-- edges span the same slabs, at the same places, by vertices and by walls: in the slab left of a point, in the one right of
-- it, and in the first of all
pub record WallsTellEdges : Type 0 where
  pub in_left : (g : Skeleton) (t : Point) → IsPlaneSkeleton g → HasWeight t → IsSlabByWalls g (slab_left g t) (walls_left g t)
  pub in_right : (g : Skeleton) (t : Point) → IsPlaneSkeleton g → HasWeight t → IsSlabByWalls g (slab_right g t) (walls_up_to g t)
  pub in_first : (g : Skeleton) → IsPlaneSkeleton g → IsSlabByWalls g 0 0
