-- The way of a point through the search graph, and what the nodes on it tell.
use Rattle.std.specs.Prelude.{◌≡◌, ◌<◌, ℕ, pos, Bool, true, false, Option, Some, None}
use Rattle.std.specs.Ordering.{int_cmp}
use Rattle.std.specs.declared.cmp.Ordering.{Ordering}
use Rattle.std.specs.declared.cmp.Ordering.TheVariants.{Less, Greater}
use Rattle.exact_plane.specs.Point.{Point}
use Rattle.exact_plane.specs.PointOrder.{point_cmp}
use Rattle.plane_graphs.specs.Line.{IsProper}
use Rattle.slab_laws.specs.declared.names.DartId.{DartId}
use Rattle.slab_laws.specs.declared.names.VertexId.{VertexId}
use Rattle.slab_laws.specs.Skeleton.{side, inside}
use Rattle.slab_laws.specs.Sound.{skeleton_of, edge_in}
use Rattle.slab_laws.specs.View.{View, point_in}
use Rattle.edge_predicates.specs.Highest.{IsSpanning}
use Rattle.edge_predicates.specs.Levels.{IsSeen, level}
use Rattle.face_location.specs.Below.{IsSeenOrNone}
use Rattle.walk_laws.specs.Walks.{height}
use Rattle.locate_trapezoid.specs.declared.node.Slot.{Slot}
use Rattle.locate_trapezoid.specs.declared.node.Slot.TheVariants.{Root, Child}
use Rattle.locate_trapezoid.specs.declared.node.Test.{Test}
use Rattle.locate_trapezoid.specs.declared.node.Test.TheVariants.{Vertex, Edge}
use Rattle.locate_trapezoid.specs.Nodes.{Arena}

-- where a node sends a point; `Equal`: the point is there (de Berg and others, trapezoidal map: x-nodes and y-nodes)
abbrev pub outcome : View → Test → Point → Ordering
outcome v (Vertex w) q = point_cmp q (point_in v w)
outcome v (Edge d) q = int_cmp (side (edge_in v d) q) (pos 0)

-- on to the place for points before or below, or to that for those after or above (this project)
abbrev pub way : Bool → Ordering
way false = Less
way true = Greater

-- the last edge that the point was above, after a node that it goes on from (this project)
abbrev pub label : Test → Bool → Option DartId → Option DartId
label (Vertex w) b o = o
label (Edge d) false o = o
label (Edge d) true o = Some d

-- the point's way from the root comes by a place, with this edge as the last one that it was above (this project)
pub data ComesBy (v : View) (a : Arena) (q : Point) : Slot → Option DartId → Type 0 where
  start : (s : Slot) (o : Option DartId) → s ≡ Root → o ≡ None → ComesBy v a q s o
  step : (s : Slot) (o : Option DartId) (t : Slot) (p : Option DartId) (i : ℕ) (b : Bool) → ComesBy v a q t p → a.child t ≡ Some i → outcome v (a.test i) q ≡ way b → s ≡ Child i b → o ≡ label (a.test i) b p → ComesBy v a q s o

-- q is at no counted vertex and inside no counted edge, and the named one is the highest of the counted edges that it sees below it (Fogel, Halperin and Wein: vertical ray shooting)
pub record IsAnswer (v : View) (In : Test → Type 0) (q : Point) (o : Option DartId) : Type 0 where
  pub apart : (w : VertexId) → In (Vertex w) → point_in v w ≡ q → ⊥
  pub off : (d : DartId) → In (Edge d) → inside (edge_in v d) q ≡ false
  pub seen : IsSeenOrNone v q o
  pub top : (d : DartId) → In (Edge d) → IsSeen (skeleton_of v) q (edge_in v d) → level (skeleton_of v) q (edge_in v d) < height v q o

-- at each leaf a point is told what is so of all that counts for it, and only points that an edge spans come by its node (this project)
pub record IsMap (v : View) (a : Arena) (In : Point → Test → Type 0) : Type 0 where
  pub leaf : (q : Point) (s : Slot) (o : Option DartId) → IsProper q → ComesBy v a q s o → a.child s ≡ None → IsAnswer v (In q) q o
  pub spanned : (q : Point) (s : Slot) (o : Option DartId) (i : ℕ) (d : DartId) → IsProper q → ComesBy v a q s o → a.child s ≡ Some i → a.test i ≡ Edge d → In q (Edge d) × IsSpanning (edge_in v d) q
