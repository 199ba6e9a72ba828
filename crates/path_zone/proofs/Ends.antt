-- The ends of a side that lies along one with a zone: where they lie, and that they are added.
use Rattle.std.proofs.Common.{◌≡◌, ◌⊎◌, List, [], ◌∷◌, ◌++◌, Option, Some, None, true, refl, sym, subst, inl, inr, ⊎_elim}
use Rattle.exact_plane.specs.Point.{Point}
use Rattle.exact_plane.specs.PointOrderLaws.{and_true}
use Rattle.exact_plane.specs.Segment.{Segment, AreEnds}
use Rattle.plane_graphs.specs.Ascending.{Member}
use Rattle.plane_graphs.proofs.Lists.{in_map, in_right}
use Rattle.slab_laws.specs.View.{View, Faces}
use Rattle.dcel_records.specs.declared.spot.Spot.{Spot}
use Rattle.zone_walk.specs.declared.plan.Meeting.{Meeting}
use Rattle.zone_walk.specs.declared.plan.ZonePlan.{ZonePlan}
use Rattle.zone_walk.specs.Zone.{is_on_segment, meeting_points}
use Rattle.zone_walk.proofs.Courses.{course}
use Rattle.path_zone.specs.declared.zoned.ZonedSide.{ZonedSide}
use Rattle.path_zone.specs.Gathered.{HasMore, HasPoint, IsOnZoned, IsPathMeeting, IsSpotWithin}
use Rattle.path_zone.specs.Zoned.{added_at, is_over, HasAdded, HasEnds, IsZonedSide}
use Rattle.path_zone.proofs.Along.{ends_meet}
use Rattle.path_zone.proofs.Gathering.{has_more, more_many, more_then}

module _ (v : View) (f : Faces) (z : ZonedSide) (s : Segment) (h : IsZonedSide v f z) (ends : AreEnds s) (over : is_over z s ≡ true) where
  both : (is_on_segment z.side s.lower ≡ true) × (is_on_segment z.side s.upper ≡ true)
  both = and_true (is_on_segment z.side s.lower) (is_on_segment z.side s.upper) over

  pub lower_zoned : IsOnZoned v f z.side z.plan s.lower
  lower_zoned = record { zone = h.zone; ends = h.ends; proper = (course s ends).lower; on = both.0 }

  pub upper_zoned : IsOnZoned v f z.side z.plan s.upper
  upper_zoned = record { zone = h.zone; ends = h.ends; proper = (course s ends).upper; on = both.1 }

module _ (v : View) (f : Faces) (z : ZonePlan) (s : Segment) (x : Point) (meets : Member x (meeting_points v s)) (old new : List Meeting) (a : HasAdded v f z x old new) where
  one : (o : Option Spot) → IsSpotWithin v f z x o → (m : Meeting) → Member m (added_at x o) → IsPathMeeting v f (s ∷ []) m
  one None w m i = absurd i
  one (Some spot) w m (inl e) = subst (IsPathMeeting v f (s ∷ [])) (sym e) (record { spot = w.0; place = inl (record { side = s; side_in = inl refl; meets = meets }) })
  one (Some spot) w m (inr i) = absurd i

  more_added : HasMore v f (s ∷ []) old new
  more_added = more_many v f (s ∷ []) old (added_at x a.spot) new a.items (one a.spot a.within)

  there_by : (o : Option Spot) → IsSpotWithin v f z x o → new ≡ old ++ added_at x o → HasPoint new x ⊎ HasPoint z.vertices x
  there_by None w e = inr w
  there_by (Some spot) w e = inl (in_map (λ (m : Meeting). m.point) (record { point = x; spot = spot }) new (subst (Member (record { point = x; spot = spot })) (sym e) (in_right (record { point = x; spot = spot }) old (added_at x (Some spot)) (inl refl))))

  there_added : HasPoint new x ⊎ HasPoint z.vertices x
  there_added = there_by a.spot a.within a.items

pub ends_added : (v : View) (f : Faces) (z : ZonedSide) (s : Segment) (old mid new : List Meeting) → AreEnds s → HasAdded v f z.plan s.lower old mid → HasAdded v f z.plan s.upper mid new → HasEnds v f z s old new
ends_added v f z s old mid new ends a b =
    let m = ends_meet v s in
    let second = more_added v f z.plan s s.upper m.1 mid new b in
    record {
      ends = ends;
      more = more_then v f (s ∷ []) old mid new (more_added v f z.plan s s.lower m.0 old mid a) second;
      lower = ⊎_elim (λ k. inl (has_more mid new s.lower second.kept k)) (λ k. inr k) (there_added v f z.plan s s.lower m.0 old mid a);
      upper = there_added v f z.plan s s.upper m.1 mid new b;
    }
