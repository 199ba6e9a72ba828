-- How an edge goes down from the root, from one of its points on: to the leaf in which its part directly after that point lies.
use Rattle.std.specs.Prelude.{◌≡◌, ◌||◌, ℕ, Bool, true, false, not, cond, Option, Some, None}
use Rattle.exact_plane.specs.Point.{Point}
use Rattle.plane_graphs.specs.Graph.{Edge as PlaneEdge}
use Rattle.slab_laws.specs.declared.names.DartId.{DartId}
use Rattle.slab_laws.specs.declared.names.VertexId.{VertexId}
use Rattle.slab_laws.specs.Skeleton.{precedes}
use Rattle.slab_laws.specs.Sound.{edge_in}
use Rattle.slab_laws.specs.View.{View, point_in}
use Rattle.edge_predicates.specs.Above.{is_above}
use Rattle.locate_trapezoid.specs.declared.descent.Descent.{Descent}
use Rattle.locate_trapezoid.specs.declared.node.Slot.{Slot}
use Rattle.locate_trapezoid.specs.declared.node.Slot.TheVariants.{Root, Child}
use Rattle.locate_trapezoid.specs.declared.node.Test.{Test}
use Rattle.locate_trapezoid.specs.declared.node.Test.TheVariants.{Vertex, Edge}
use Rattle.locate_trapezoid.specs.Nodes.{Arena}

-- the least point to which the way is bounded, the edge's upper end where nothing else bounds it (this project)
abbrev pub bound_of : PlaneEdge → Option Point → Point
bound_of e None = e.high
bound_of e (Some p) = p

-- the way of e from c on comes by this place; whether it passed its lower end or a point after it; and the least vertex before which it turned off, up to its upper end (this project)
pub data Descends (v : View) (a : Arena) (e : PlaneEdge) (c : Point) : Slot → Bool → Option Point → Type 0 where
  begins : Descends v a e c Root false None
  bounded : (s : Slot) (l : Bool) (b : Option Point) (i : ℕ) (w : VertexId) → Descends v a e c s l b → a.child s ≡ Some i → a.test i ≡ Vertex w → precedes c (point_in v w) ≡ true → precedes (bound_of e b) (point_in v w) ≡ false → Descends v a e c (Child i false) l (Some (point_in v w))
  beyond : (s : Slot) (l : Bool) (b : Option Point) (i : ℕ) (w : VertexId) → Descends v a e c s l b → a.child s ≡ Some i → a.test i ≡ Vertex w → precedes c (point_in v w) ≡ true → precedes (bound_of e b) (point_in v w) ≡ true → Descends v a e c (Child i false) l b
  after : (s : Slot) (l : Bool) (b : Option Point) (i : ℕ) (w : VertexId) → Descends v a e c s l b → a.child s ≡ Some i → a.test i ≡ Vertex w → precedes c (point_in v w) ≡ false → Descends v a e c (Child i true) (l || not (precedes (point_in v w) e.low)) b
  sided : (s : Slot) (l : Bool) (b : Option Point) (i : ℕ) (d : DartId) → Descends v a e c s l b → a.child s ≡ Some i → a.test i ≡ Edge d → Descends v a e c (Child i (is_above e (edge_in v d))) l b

-- where what is left of an edge begins: at the bound, unless that is at its upper end already (this project)
abbrev pub rest_of : Option Point → Point → Option Point
rest_of None high = None
rest_of (Some p) high = cond (precedes p high) (Some p) None

-- an edge's way down from that point on has come there (this project)
abbrev pub IsDescent : View → Arena → PlaneEdge → Point → Descent → Type 0
IsDescent v a e c d = Descends v a e c d.leaf.slot d.is_lowered d.bound

-- from that place, one at which node i hangs and asks this, to the next (this project)
abbrev pub IsStepDown : View → PlaneEdge → Point → ℕ → Test → Descent → Descent → Type 0
IsStepDown v e c i t last next = (a : Arena) → a.test i ≡ t → a.child last.leaf.slot ≡ Some i → IsDescent v a e c last → IsDescent v a e c next
