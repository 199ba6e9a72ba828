-- What is added for two sides: their crossing, where the zone of the first has it strictly within an open part.
use Rattle.std.proofs.Common.{◌≡◌, ◌⊎◌, List, [], ◌∷◌, ◌++◌, Some, refl, sym, subst, inl, inr}
use Rattle.exact_plane.specs.Meet.{IsOnlyCommon}
use Rattle.exact_plane.specs.Point.{Point}
use Rattle.exact_plane.specs.Segment.{Segment, AreEnds}
use Rattle.exact_plane.specs.Span.{IsSpan, span_of_segment}
use Rattle.plane_graphs.specs.Ascending.{Member}
use Rattle.plane_graphs.proofs.Lines.{point_is_proper}
use Rattle.plane_graphs.proofs.Lists.{in_map, in_right}
use Rattle.slab_laws.specs.View.{View, Faces}
use Rattle.dcel_records.specs.declared.spot.Spot.{Spot}
use Rattle.zone_walk.specs.declared.plan.Meeting.{Meeting}
use Rattle.zone_walk.specs.declared.plan.ZonePlan.{ZonePlan}
use Rattle.zone_walk.specs.Zone.{IsZoneOf}
use Rattle.path_zone.specs.Gathered.{HasMore, HasPoint, IsOnZoned, IsPathMeeting, IsSpotWithin}
use Rattle.path_zone.specs.PathZone.{IsCrossing}
use Rattle.path_zone.proofs.Crossings.{crosses, span_on}
use Rattle.path_zone.proofs.Gathering.{more_many}
use Rattle.path_zone.proofs.Within.{strictly}

abbrev pub meeting_at : Point → Spot → Meeting
meeting_at x spot = record { point = x; spot = spot }

module _ (s t : Segment) (z : ZonePlan) (first : IsSpan (span_of_segment s) × AreEnds s) (second : IsSpan (span_of_segment t) × AreEnds t) (x : Point) (k : IsOnlyCommon (span_of_segment s) (span_of_segment t) x) where
  pub on_zoned : (v : View) (f : Faces) → IsZoneOf v f s z → IsOnZoned v f s z x
  on_zoned v f h = record { zone = h; ends = first.1; proper = point_is_proper x k.point; on = span_on s x k.on_first }

  module _ (spot : Spot) (within : (v : View) (f : Faces) (r : Segment) → IsOnZoned v f r z x → IsSpotWithin v f z x (Some spot)) (old new : List Meeting) (items : new ≡ old ++ (meeting_at x spot ∷ [])) where
    added : (v : View) (f : Faces) → IsZoneOf v f s z → IsPathMeeting v f (s ∷ t ∷ []) (meeting_at x spot)
    added v f h =
        let w = within v f s (on_zoned v f h) in
        let b = strictly v f s z x (on_zoned v f h) w.1 in
        record { spot = w.0; place = inr (record { one = s; other = t; one_in = inl refl; other_in = inr (inl refl); crossing = crosses s t first.0 second.0 first.1 second.1 x k b.0 b.1 }) }

    pub more_added : (v : View) (f : Faces) → IsZoneOf v f s z → HasMore v f (s ∷ t ∷ []) old new
    more_added v f h = more_many v f (s ∷ t ∷ []) old (meeting_at x spot ∷ []) new items one
      where
        one : (m : Meeting) → Member m (meeting_at x spot ∷ []) → IsPathMeeting v f (s ∷ t ∷ []) m
        one m (inl e) = subst (IsPathMeeting v f (s ∷ t ∷ [])) (sym e) (added v f h)
        one m (inr e) = absurd e

    there_added : HasPoint new x
    there_added = in_map (λ (m : Meeting). m.point) (meeting_at x spot) new (subst (Member (meeting_at x spot)) (sym items) (in_right (meeting_at x spot) old (meeting_at x spot ∷ []) (inl refl)))

    pub all_added : ((y : Point) → IsCrossing s t y → Some x ≡ Some y) → (y : Point) → IsCrossing s t y → HasPoint new y ⊎ HasPoint z.vertices y
    all_added all y c = inl (subst (HasPoint new) (one_point x y (all y c)) there_added)
      where
        one_point : (a b : Point) → Some a ≡ Some b → a ≡ b
        one_point a b e = cc
