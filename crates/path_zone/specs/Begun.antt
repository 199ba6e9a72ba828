-- The sides of a path with their starts, in the order in which they begin.
use Rattle.std.specs.Prelude.{◌≡◌, ◌≤◌, ◌+◌, ⊤, ℕ, suc, false, List, [], ◌∷◌, map}
use Rattle.std.specs.List.Sorted.{IsPermutation, IsSorted}
use Rattle.std.specs.Ordering.{ordering_then}
use Rattle.std.specs.declared.cmp.Ordering.{Ordering}
use Rattle.exact_plane.specs.PointOrder.{point_cmp}
use Rattle.exact_plane.specs.Segment.{Segment}
use Rattle.plane_graphs.specs.Ascending.{Member}
use Rattle.slab_laws.specs.View.{View, Faces}
use Rattle.face_location.specs.Spots.{IsSpotOf}
use Rattle.zone_walk.specs.Zone.{meeting_points, CoversVisits}
use Rattle.path_zone.specs.declared.order.BegunSide.{BegunSide}
use Rattle.path_zone.specs.PathZone.{is_begun, looks_along}

-- sides go by their lower ends, and those from one point by their upper ends, the last one first (this project)
abbrev pub begin_cmp : BegunSide → BegunSide → Ordering
begin_cmp a b = ordering_then (point_cmp a.side.lower b.side.lower) (point_cmp b.side.upper a.side.upper)

abbrev pub sides_of : List BegunSide → List Segment
sides_of bs = map (λ b. b.side) bs

-- each one's place is its own, counted from a number
abbrev pub ArePlaced : ℕ → List BegunSide → Type 0
ArePlaced j [] = ⊤
ArePlaced j (b ∷ bs) = (b.place ≡ j) × ArePlaced (suc j) bs

-- the sides with their places, and with starts where one is needed (this project)
pub record AreBegun (v : View) (f : Faces) (ss : List Segment) (bs : List BegunSide) : Type 0 where
  pub sides : sides_of bs ≡ ss
  pub places : ArePlaced 0 bs
  pub starts : (b : BegunSide) → Member b bs → is_begun ss b.side ≡ false → IsSpotOf v f b.side.lower b.start

-- the same in the order in which they begin (this project)
pub record AreInSweepOrder (v : View) (f : Faces) (ss : List Segment) (bs : List BegunSide) : Type 0 where
  pub unsorted : List BegunSide
  pub begun : AreBegun v f ss unsorted
  pub moved : IsPermutation unsorted bs
  pub sorted : IsSorted begin_cmp bs

-- the number of a side is no less than the looks that its zone takes at most (this project)
pub record Fits (v : View) (f : Faces) (g : BegunSide → ℕ) (b : BegunSide) : Type 0 where
  pub visits : ℕ
  pub covers : CoversVisits v f b.side (meeting_points v b.side) visits
  pub enough : visits + looks_along v b.side ≤ g b
