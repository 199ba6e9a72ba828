-- A line is in one direction with itself.
use Rattle.std.proofs.Common.{◌≡◌, ℤ, pos, [], ◌∷◌, true, false, Bool, subst}
use Rattle.std.specs.Prelude.{◌+ℤ◌, ◌*ℤ◌, ◌<ℤ◌, neg_ℤ}
use Rattle.integers.proofs.Reify.{ring, sides}
use Rattle.exact_plane.specs.Direction.{IsOneDirection, along, turn}
use Rattle.exact_plane.specs.Line.{Line}
use Rattle.exact_plane.specs.Plane.{RunsForward}
use Rattle.plane_graphs.specs.Line.{IsProperLine}
use Rattle.rotation_order.specs.Directions.{dart_direction}
use Rattle.zone_walk.proofs.Aheads.{some_length}

no_turn : (l : Line) (f : Bool) → turn (dart_direction l f) (dart_direction l f) ≡ pos 0
no_turn l true = ring (l.a ∷ l.b ∷ []) (search sides depth 40 fits 20000) tt
no_turn l false = ring (l.a ∷ l.b ∷ []) (search sides depth 40 fits 20000) tt

turned_length : (a b : ℤ) → b *ℤ b +ℤ neg_ℤ a *ℤ neg_ℤ a ≡ neg_ℤ b *ℤ neg_ℤ b +ℤ neg_ℤ (neg_ℤ a) *ℤ neg_ℤ (neg_ℤ a)
turned_length a b = ring (a ∷ b ∷ []) (search sides depth 40 fits 20000) tt

some_way : (l : Line) (f : Bool) → RunsForward l.a l.b → pos 0 <ℤ along (dart_direction l f) (dart_direction l f)
some_way l true r = some_length l.a l.b r
some_way l false r = subst (λ z. pos 0 <ℤ z) (turned_length l.a l.b) (some_length l.a l.b r)

pub own_way : (l : Line) (f : Bool) → IsProperLine l → IsOneDirection (dart_direction l f) (dart_direction l f)
own_way l f L = record { straight = no_turn l f; forward = some_way l f L.runs }
