-- A side with both ends on another one lies on it, and what it meets is met there, but for its ends.
use Rattle.std.proofs.Common.{◌≡◌, ◌⊎◌, ◌∷◌, ◌++◌, List, true, false, refl, sym, ap, ◌∙◌, subst, inl, inr, ⊎_elim}
use Rattle.std.specs.List.{filter, flat_map}
use Rattle.exact_plane.specs.Line.{Line, IsOn}
use Rattle.exact_plane.specs.Point.{Point}
use Rattle.exact_plane.specs.PointOrder.{point_cmp}
use Rattle.exact_plane.specs.PointOrderLaws.{point_cmp_total, same_point as point_cmp_exact}
use Rattle.exact_plane.specs.Segment.{Segment, line_of_segment, AreEnds}
use Rattle.plane_graphs.specs.Ascending.{Member}
use Rattle.plane_graphs.specs.Line.{are_parallel, crossing}
use Rattle.plane_graphs.proofs.Lists.{in_ascending, of_ascending, in_either, in_filter, in_flat_map, in_left, in_right, of_filter, of_flat_map}
use Rattle.plane_graphs.proofs.Marks.{le_trans}
use Rattle.slab_laws.specs.View.{View, dart_id, line_in}
use Rattle.slab_laws.specs.Sound.{points_of}
use Rattle.slab_laws.specs.declared.names.DartId.{DartId}
use Rattle.zone_walk.specs.Zone.{is_on_segment, meeting_points, passes}
use Rattle.zone_walk.proofs.Courses.{course, lies_in, lies_out, lower_lies, one_by_two, upper_lies}
use Rattle.zone_walk.proofs.MeetingPoints.{passes_one, passes_out}
use Rattle.path_zone.specs.PathZone.{IsCrossing}

-- both ends are on it
pub record LiesAlong (s t : Segment) : Type 0 where
  pub ends : AreEnds s
  pub other_ends : AreEnds t
  pub lower : is_on_segment t s.lower ≡ true
  pub upper : is_on_segment t s.upper ≡ true

pub along_itself : (s : Segment) → AreEnds s → LiesAlong s s
along_itself s e = record { ends = e; other_ends = e; lower = lies_in s s.lower (lower_lies s (course s e)); upper = lies_in s s.upper (upper_lies s (course s e)) }

-- the ends are meeting points
pub ends_meet : (v : View) (s : Segment) → Member s.lower (meeting_points v s) × Member s.upper (meeting_points v s)
unfolding meeting_points
ends_meet v s = (in_ascending point_cmp point_cmp_total point_cmp_exact s.lower _ (inl refl), in_ascending point_cmp point_cmp_total point_cmp_exact s.upper _ (inr (inl refl)))

module _ (s t : Segment) (h : LiesAlong s t) where
  line_along : line_of_segment s ≡ line_of_segment t
  line_along =
      let c = course s h.ends in
      let d = course t h.other_ends in
      one_by_two (line_of_segment s) (line_of_segment t) s.lower s.upper c.line d.line c.lower c.upper c.ahead c.lower_on (lies_out t s.lower h.lower).on c.upper_on (lies_out t s.upper h.upper).on

  pub on_along : (x : Point) → is_on_segment s x ≡ true → is_on_segment t x ≡ true
  on_along x i =
      let l = lies_out s x i in
      lies_in t x (record {
        on = subst (λ (k : Line). IsOn k x) line_along l.on;
        from = le_trans (lies_out t s.lower h.lower).from l.from;
        upto = le_trans l.upto (lies_out t s.upper h.upper).upto;
      })

  passes_along : (v : View) (d : DartId) (x : Point) → Member x (passes v s d) → Member x (passes v t d)
  passes_along v d x m =
      let p = passes_out v s d x m in
      subst (Member x) (sym (passes_one v t d x (record {
        crosses = subst (λ (k : Line). are_parallel k (line_in v d) ≡ false) line_along p.crosses;
        crossing = p.crossing ∙ ap (λ (k : Line). crossing k (line_in v d)) line_along;
        on_segment = on_along x p.on_segment;
        inner = p.inner;
      }))) (inl refl)

  module _ (v : View) (x : Point) where
    abbrev there : List Point
    there = t.lower ∷ t.upper ∷ (filter (is_on_segment t) (points_of v) ++ flat_map (λ r. passes v t (dart_id r.0)) v.darts)

    vertex : Member x (filter (is_on_segment s) (points_of v)) → Member x there
    vertex k =
        let p = of_filter (is_on_segment s) x (points_of v) k in
        inr (inr (in_left x (filter (is_on_segment t) (points_of v)) (flat_map (λ r. passes v t (dart_id r.0)) v.darts) (in_filter (is_on_segment t) x (points_of v) p.0 (on_along x p.1))))

    passed : Member x (flat_map (λ r. passes v s (dart_id r.0)) v.darts) → Member x there
    passed k =
        let r = of_flat_map (λ r. passes v s (dart_id r.0)) x v.darts k in
        inr (inr (in_right x (filter (is_on_segment t) (points_of v)) (flat_map (λ r. passes v t (dart_id r.0)) v.darts) (in_flat_map (λ r. passes v t (dart_id r.0)) r.0 x v.darts r.1 (passes_along v (dart_id r.0.0) x r.2))))

    met : Member x there → Member x (meeting_points v t)
    unfolding meeting_points
    met k = in_ascending point_cmp point_cmp_total point_cmp_exact x there k

    listed : Member x (s.lower ∷ s.upper ∷ (filter (is_on_segment s) (points_of v) ++ flat_map (λ r. passes v s (dart_id r.0)) v.darts)) → (x ≡ s.lower) ⊎ ((x ≡ s.upper) ⊎ Member x (meeting_points v t))
    listed (inl e) = inl e
    listed (inr (inl e)) = inr (inl e)
    listed (inr (inr k)) = inr (inr (met (⊎_elim vertex passed (in_either x (filter (is_on_segment s) (points_of v)) (flat_map (λ r. passes v s (dart_id r.0)) v.darts) k))))

    pub met_along : Member x (meeting_points v s) → (x ≡ s.lower) ⊎ ((x ≡ s.upper) ⊎ Member x (meeting_points v t))
    unfolding meeting_points
    met_along m = listed (of_ascending point_cmp point_cmp_total point_cmp_exact x _ m)

-- where two sides cross, those along which they lie cross
pub crossing_along : (s t a b : Segment) → LiesAlong s a → LiesAlong t b → (x : Point) → IsCrossing s t x → IsCrossing a b x
crossing_along s t a b h k x c = record {
  apart = subst (λ (l : Line). are_parallel l (line_of_segment b) ≡ false) (line_along s a h) (subst (λ (l : Line). are_parallel (line_of_segment s) l ≡ false) (line_along t b k) c.apart);
  point = c.point ∙ ap (λ (l : Line). crossing l (line_of_segment t)) (line_along s a h) ∙ ap (λ (l : Line). crossing (line_of_segment a) l) (line_along t b k);
  on_first = on_along s a h x c.on_first;
  on_second = on_along t b k x c.on_second;
}
