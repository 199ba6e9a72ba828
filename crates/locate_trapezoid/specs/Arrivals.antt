-- Where a point's way down from the root ends.
use Rattle.std.specs.Prelude.{◌≡◌, ℕ, Option, Some}
use Rattle.std.specs.declared.cmp.Ordering.TheVariants.{Equal}
use Rattle.exact_plane.specs.Point.{Point}
use Rattle.slab_laws.specs.declared.names.DartId.{DartId}
use Rattle.slab_laws.specs.View.{View}
use Rattle.locate_trapezoid.specs.declared.arrival.Arrival.{Arrival}
use Rattle.locate_trapezoid.specs.declared.arrival.Arrival.TheVariants.{Met, Open}
use Rattle.locate_trapezoid.specs.declared.node.Slot.{Slot}
use Rattle.locate_trapezoid.specs.declared.node.Test.{Test}
use Rattle.locate_trapezoid.specs.Nodes.{Arena, IsLeaf}
use Rattle.locate_trapezoid.specs.Ways.{outcome, ComesBy}

-- the point comes by a node that asks this, and is there (this project)
pub record IsMeeting (v : View) (a : Arena) (q : Point) (t : Test) : Type 0 where
  pub slot : Slot
  pub told : Option DartId
  pub number : ℕ
  pub at : ComesBy v a q slot told
  pub there : a.child slot ≡ Some number
  pub asks : a.test number ≡ t
  pub met : outcome v t q ≡ Equal

-- at such a node, or at a leaf with the last edge that it was above (this project)
abbrev pub IsArrival : View → Arena → Point → Arrival → Type 0
IsArrival v a q (Met t) = IsMeeting v a q t
IsArrival v a q (Open l o) = IsLeaf a l × ComesBy v a q l.slot o
