-- Which of two edges is above the other, where both go on beyond the later of their lower ends.
use Rattle.std.specs.Prelude.{◌≡◌, ◌⊎◌, Bool, true, false, cond, pos, ◌<ℤ◌}
use Rattle.std.specs.List.{Contains}
use Rattle.exact_plane.specs.Point.{Point}
use Rattle.plane_graphs.specs.Graph.{Edge}
use Rattle.slab_laws.specs.Skeleton.{Skeleton, HasWeight, side, over, under, below, precedes, IsPlaneSkeleton}
use Rattle.edge_predicates.specs.Highest.{IsSpanning}

-- by the later of their lower ends; from one lower end by the first's upper end (Fogel, Halperin and Wein: status order of the sweep)
unfoldable pub is_above : Edge → Edge → Bool
is_above e f = cond (precedes f.low e.low) (under f e.low) (cond (precedes e.low f.low) (over e f.low) (under f e.high))

-- two edges of a plane graph, and a point that f spans and that isn't on it, and which is from end to end of e, ends included (this project)
pub record IsBeside (g : Skeleton) (e f : Edge) (q : Point) : Type 0 where
  pub plane : IsPlaneSkeleton g
  pub E : Contains g.edges e
  pub F : Contains g.edges f
  pub Q : HasWeight q
  pub spanning : IsSpanning f q
  pub from : precedes q e.low ≡ false
  pub to : precedes e.high q ≡ false
  pub off : side f q ≡ pos 0 → ⊥

-- where e is above f, what is below f is below e, and where it isn't, what is above f is above e; where it is, and the point sees both below it, f is below e in the order of the slab (this project)
pub record EdgesKeepSides : Type 0 where
  pub below_both : (g : Skeleton) (e f : Edge) (q : Point) → IsBeside g e f q → is_above e f ≡ true → side f q <ℤ pos 0 → side e q <ℤ pos 0
  pub above_both : (g : Skeleton) (e f : Edge) (q : Point) → IsBeside g e f q → is_above e f ≡ false → pos 0 <ℤ side f q → (pos 0 <ℤ side e q) × ((e ≡ f) ⊎ (below e f ≡ true))
  pub stacked : (g : Skeleton) (e f : Edge) (q : Point) → IsBeside g e f q → is_above e f ≡ true → IsSpanning e q → under e q ≡ true → below f e ≡ true
