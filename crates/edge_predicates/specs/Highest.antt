-- The highest of some edges directly below a point.
-- The point sees along the vertical line through it, leant by less than any number: an edge is met where the point is between its ends in point order, so that a vertical edge is no special case.
use Rattle.std.specs.Prelude.{◌≡◌, ◌⊎◌, true, false, Option, Some, None}
use Rattle.exact_plane.specs.Point.{Point}
use Rattle.plane_graphs.specs.Graph.{Edge}
use Rattle.slab_laws.specs.Skeleton.{under, below, precedes}

-- the point is between the edge's ends, in point order (this project: the leant vertical meets the edge)
pub record IsSpanning (e : Edge) (q : Point) : Type 0 where
  pub from : precedes e.low q ≡ true
  pub to : precedes q e.high ≡ true

-- no edge spans q below it, or the named one is the highest of those that do (Fogel, Halperin and Wein: vertical ray shooting)
pub data IsHighestBelow (In : Edge → Type 0) (q : Point) : Option Edge → Type 0 where
  none_below : ((f : Edge) → In f → IsSpanning f q → under f q ≡ false) → IsHighestBelow In q None
  highest : (e : Edge) → In e → IsSpanning e q → under e q ≡ true → ((f : Edge) → In f → IsSpanning f q → under f q ≡ true → (f ≡ e) ⊎ (below f e ≡ true)) → IsHighestBelow In q (Some e)
