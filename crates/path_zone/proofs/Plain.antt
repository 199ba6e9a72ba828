-- Where two sides have an end in common, or one is beyond one side of the other's box, they cross nowhere but at a vertex of the zone.
use Rattle.std.proofs.Common.{◌≡◌, ◌⊎◌, ◌||◌, true, false, ℤ, refl, sym, ap, ◌∙◌, subst, inl, inr, ⊎_elim, arith}
use Rattle.std.proofs.lemmas.Int.{ints, int_max_is, int_min_is}
use Rattle.std.specs.Prelude.{int_lt}
use Rattle.std.specs.Int.{int_min, int_max}
use Rattle.integers.proofs.Tests.{not_true}
use Rattle.integers.proofs.Decisions.{both, lt_in, lt_out, or_out}
use Rattle.exact_plane.specs.Line.{Line, IsOn}
use Rattle.exact_plane.specs.Point.{Point, point_eq}
use Rattle.exact_plane.specs.Segment.{Segment, line_of_segment, AreEnds}
use Rattle.exact_plane.specs.Span.{Span, span_of_segment}
use Rattle.exact_plane.specs.WholeParts.{are_beyond, are_greater, are_less, bounding_box, excludes, excludes_across, excludes_along, whole_parts}
use Rattle.exact_plane.specs.declared.whole_parts.BoundingBox.{BoundingBox}
use Rattle.exact_plane.proofs.Orders.{at_most_itself}
use Rattle.exact_plane.proofs.WholeOrders.{IsAlong, boxed}
use Rattle.plane_graphs.specs.Ascending.{Member}
use Rattle.plane_graphs.proofs.Lists.{and_in, or_right}
use Rattle.plane_graphs.specs.Line.{IsProper}
use Rattle.slab_laws.specs.View.{View, Faces}
use Rattle.zone_walk.specs.Zone.{is_on_segment, meeting_points}
use Rattle.zone_walk.proofs.Courses.{course, IsCourse}
use Rattle.zone_walk.proofs.LineCrossings.{crossing_proper, is_crossing}
use Rattle.path_zone.specs.declared.zoned.ZonedSide.{ZonedSide}
use Rattle.path_zone.specs.Gathered.{HasPoint}
use Rattle.path_zone.specs.PathZone.{IsCrossing}
use Rattle.path_zone.specs.Zoned.{has_common_end, IsZonedSide}
use Rattle.path_zone.proofs.Along.{ends_meet}
use Rattle.path_zone.proofs.Crossings.{on_span}
use Rattle.exact_plane.specs.PointOrderLaws.{one_point}

-- an end of both
record IsCorner (s t : Segment) (p : Point) : Type 0 where
  of_first : (p ≡ s.lower) ⊎ (p ≡ s.upper)
  of_second : (p ≡ t.lower) ⊎ (p ≡ t.upper)

corner : (s t : Segment) → has_common_end s t ≡ true → (p : Point) × IsCorner s t p
corner s t e =
    ⊎_elim
    (λ h. (t.lower, record { of_first = first t.lower h; of_second = inl refl }))
    (λ h. (t.upper, record { of_first = first t.upper h; of_second = inr refl }))
    (or_out (point_eq s.lower t.lower || point_eq s.upper t.lower) (point_eq s.lower t.upper || point_eq s.upper t.upper) e)
  where
    first : (p : Point) → (point_eq s.lower p || point_eq s.upper p) ≡ true → (p ≡ s.lower) ⊎ (p ≡ s.upper)
    first p h = ⊎_elim (λ k. inl (sym (one_point s.lower p k))) (λ k. inr (sym (one_point s.upper p k))) (or_out (point_eq s.lower p) (point_eq s.upper p) h)

-- what is beyond one end of a range lies there with all that is no greater, or no less
both_beyond : (a b least greatest : ℤ) → are_beyond (int_min a b) (int_max a b) least greatest ≡ true → are_beyond a b least greatest ≡ true
both_beyond a b least greatest e = ⊎_elim below above (or_out (are_less (int_min a b) (int_max a b) least) (are_greater (int_min a b) (int_max a b) greatest) e)
  where
    below : are_less (int_min a b) (int_max a b) least ≡ true → are_beyond a b least greatest ≡ true
    below h =
        let m = lt_out (int_max a b) least (both (int_lt (int_min a b) least) (int_lt (int_max a b) least) h).1 in
        ap (λ z. z || are_greater a b greatest) (and_in (lt_in a least (omega (arith, ints, int_max_is a b, m))) (lt_in b least (omega (arith, ints, int_max_is a b, m))))

    above : are_greater (int_min a b) (int_max a b) greatest ≡ true → are_beyond a b least greatest ≡ true
    above h =
        let m = lt_out greatest (int_min a b) (both (int_lt greatest (int_min a b)) (int_lt greatest (int_max a b)) h).0 in
        or_right (are_less a b least) (are_greater a b greatest) (and_in (lt_in greatest a (omega (arith, ints, int_min_is a b, m))) (lt_in greatest b (omega (arith, ints, int_min_is a b, m))))

-- where the box of a span is beyond one side of a box, both its ends are
ends_beyond : (k : BoundingBox) (s : Span) → excludes k (bounding_box s).least (bounding_box s).greatest ≡ true → excludes k (whole_parts s.lower) (whole_parts s.upper) ≡ true
ends_beyond k s e =
    let a = whole_parts s.lower in
    let b = whole_parts s.upper in
    ⊎_elim
    (λ h. ap (λ z. z || excludes_along k a b) h)
    (λ h. or_right (excludes_across k a b) (excludes_along k a b) (both_beyond a.y b.y k.least.y k.greatest.y h))
    (or_out (excludes_across k a b) (excludes_along k (bounding_box s).least (bounding_box s).greatest) e)

-- a point of a side is one of the part of its line
along_side : (g : Segment) → IsCourse g → (x : Point) → IsProper x → is_on_segment g x ≡ true → IsAlong (line_of_segment g) g.lower g.upper x
along_side g c x proper o =
    let l = on_span g x o in
    record {
      runs = c.line.runs;
      low_is = c.lower.positive;
      high_is = c.upper.positive;
      is = proper.positive;
      low_on = c.lower_on;
      high_on = c.upper_on;
      on = l.on;
      from = l.from;
      upto = l.upto;
    }

-- and the part of the line that is the point alone
alone : (l : Line) (a b x : Point) → IsAlong l a b x → IsAlong l x x x
alone l a b x k = record { runs = k.runs; low_is = k.is; high_is = k.is; is = k.is; low_on = k.on; high_on = k.on; on = k.on; from = at_most_itself x; upto = at_most_itself x }

-- a point beyond one side of the box of a side isn't on the side
pub outside : (z : ZonedSide) (v : View) (f : Faces) → IsZonedSide v f z → (x : Point) → IsProper x → excludes z.bounds (whole_parts x) (whole_parts x) ≡ true → is_on_segment z.side x ≡ false
outside z v f a x proper o =
    not_true (is_on_segment z.side x)
    (λ h.
    let k = along_side z.side (course z.side a.ends) x proper h in
    boxed (span_of_segment z.side) (line_of_segment z.side) x x x k (alone (line_of_segment z.side) z.side.lower z.side.upper x k) (subst (λ (b : BoundingBox). excludes b (whole_parts x) (whole_parts x) ≡ true) a.bounds o))

module _ (s t : Segment) (S : AreEnds s) (T : AreEnds t) (x : Point) (h : IsCrossing s t x) where
  abbrev first : IsCourse s
  first = course s S

  abbrev second : IsCourse t
  second = course t T

  -- sides cross at most once
  at_corner : (p : Point) → IsCorner s t p → x ≡ p
  at_corner p c =
      h.point ∙ sym (is_crossing (line_of_segment s) (line_of_segment t) h.apart p
      (⊎_elim (λ e. subst IsProper (sym e) first.lower) (λ e. subst IsProper (sym e) first.upper) c.of_first)
      (⊎_elim (λ e. subst (IsOn (line_of_segment s)) (sym e) first.lower_on) (λ e. subst (IsOn (line_of_segment s)) (sym e) first.upper_on) c.of_first)
      (⊎_elim (λ e. subst (IsOn (line_of_segment t)) (sym e) second.lower_on) (λ e. subst (IsOn (line_of_segment t)) (sym e) second.upper_on) c.of_second))

  along : (g : Segment) → IsCourse g → is_on_segment g x ≡ true → IsAlong (line_of_segment g) g.lower g.upper x
  along g c o = along_side g c x (subst IsProper (sym h.point) (crossing_proper (line_of_segment s) (line_of_segment t) h.apart)) o

  never_apart : excludes (bounding_box (span_of_segment s)) (bounding_box (span_of_segment t)).least (bounding_box (span_of_segment t)).greatest ≡ true → ⊥
  never_apart e = boxed (span_of_segment s) (line_of_segment t) t.lower t.upper x (along s first h.on_first) (along t second h.on_second) (ends_beyond (bounding_box (span_of_segment s)) (span_of_segment t) e)

module _ (z y : ZonedSide) (v : View) (f : Faces) (a : IsZonedSide v f z) (b : IsZonedSide v f y) (x : Point) (h : IsCrossing z.side y.side x) where
  there : (p : Point) → IsCorner z.side y.side p → HasPoint z.plan.vertices x
  there p c =
      let e = at_corner z.side y.side a.ends b.ends x h p c in
      let m = ends_meet v z.side in
      subst (Member x) (sym a.zone.points) (⊎_elim (λ k. subst (λ q. Member q (meeting_points v z.side)) (sym (e ∙ k)) m.0) (λ k. subst (λ q. Member q (meeting_points v z.side)) (sym (e ∙ k)) m.1) c.of_first)

  pub not_apart : excludes z.bounds y.bounds.least y.bounds.greatest ≡ true → ⊥
  not_apart o =
      never_apart z.side y.side a.ends b.ends x h
      (subst (λ (k : BoundingBox). excludes k (bounding_box (span_of_segment y.side)).least (bounding_box (span_of_segment y.side)).greatest ≡ true) a.bounds
      (subst (λ (k : BoundingBox). excludes z.bounds k.least k.greatest ≡ true) b.bounds o))

  pub at_end : has_common_end z.side y.side ≡ true → HasPoint z.plan.vertices x
  at_end e = let c = corner z.side y.side e in there c.0 c.1
