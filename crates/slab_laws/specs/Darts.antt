-- Darts (halfedges), the cells on their left, and the turn round a vertex.
use Rattle.std.specs.Prelude.{◌≡◌, ℕ, ◌<◌, Bool, true, false, not, List, ◌++◌, map}
use Rattle.std.specs.List.{Contains}
use Rattle.exact_plane.specs.Point.{Point}
use Rattle.plane_graphs.specs.Graph.{Edge}
use Rattle.slab_laws.specs.declared.slab_cell.SlabCell.{SlabCell}
use Rattle.slab_laws.specs.Skeleton.{Skeleton, left_of, below}
use Rattle.slab_laws.specs.Slabs.{left_cell, right_cell, forward_cell, backward_cell}

-- ---- darts (an edge, and whether it is gone forward), and the turn round a vertex

-- where an edge begins, gone forward or backward (CGAL manual, source)
abbrev pub start : Edge → Bool → Point
start e true = e.low
start e false = e.high

-- an edge, and whether it is gone from its lower end to its upper
pub record Dart : Type 0 where
  pub edge : Edge
  pub forward : Bool

-- where a dart begins (CGAL manual)
abbrev pub source : Dart → Point
source d = start d.edge d.forward

-- where it ends (CGAL manual)
abbrev pub target : Dart → Point
target d = start d.edge (not d.forward)

-- the way from the lower end to the upper
abbrev pub ahead : Edge → Dart
ahead e = record { edge = e; forward = true }

-- the way from the upper end to the lower
abbrev pub back : Edge → Dart
back e = record { edge = e; forward = false }

-- both darts of each edge
abbrev pub darts : Skeleton → List Dart
darts g = map ahead g.edges ++ map back g.edges

-- clockwise from straight down: to the left, up, to the right, down
abbrev pub kind : Bool → Bool → ℕ
kind true false = 0
kind false true = 1
kind true true = 2
kind false false = 3

-- in which of the four ways an edge goes out (this project)
abbrev pub class : Edge → Bool → ℕ
class e f = kind (left_of e.low e.high) f

-- the cell on the left of a dart; the first argument says that its edge isn't vertical
abbrev pub cell_by : Skeleton → Edge → Bool → Bool → SlabCell
cell_by g e true true = forward_cell g e
cell_by g e true false = backward_cell g e
cell_by g e false true = left_cell g e.low
cell_by g e false false = right_cell g e.low

-- the cell on the left of a dart: above a forward one, below a backward one; left of a vertical one that goes up, right of one that goes down (CGAL manual, incident face)
abbrev pub cell_of : Skeleton → Edge → Bool → SlabCell
cell_of g e f = cell_by g e (left_of e.low e.high) f

-- of two darts out of one vertex, the first comes earlier on the way round clockwise that begins straight down
pub data Earlier (d e : Edge) (p q : Bool) : Type 0 where
  by_class : class d p < class e q → Earlier d e p q
  on_left : class d p ≡ 0 → class e q ≡ 0 → below d e ≡ true → Earlier d e p q
  on_right : class d p ≡ 2 → class e q ≡ 2 → below e d ≡ true → Earlier d e p q

-- the dart goes out of v (CGAL manual)
pub record IsOut (g : Skeleton) (v : Point) (e : Edge) (f : Bool) : Type 0 where
  pub in' : Contains g.edges e
  pub at : start e f ≡ v

-- the dart (e, q) is the first clockwise after (d, p)
pub data IsTurn (g : Skeleton) (v : Point) (d e : Edge) (p q : Bool) : Type 0 where
  on : Earlier d e p q → ((c : Edge) (r : Bool) → IsOut g v c r → Earlier d c p r → Earlier c e r q → ⊥) → IsTurn g v d e p q
  round : ((c : Edge) (r : Bool) → IsOut g v c r → Earlier d c p r → ⊥) → ((c : Edge) (r : Bool) → IsOut g v c r → Earlier c e r q → ⊥) → IsTurn g v d e p q
