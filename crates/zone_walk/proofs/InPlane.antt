-- A point inside an edge and on another line has the edge's ends on different sides of that line; so it is a point of the plane within its bounds, since it is between two that are.
use Rattle.std.proofs.Common.{◌≡◌, [], ◌∷◌, ℤ, pos, ◌<ℤ◌, ◌≤ℤ◌, neg_ℤ, false, refl, sym, ap, ◌∙◌, subst, arith, Ordering, Less, Equal, Greater}
use Rattle.std.specs.Ordering.{int_cmp}
use Rattle.std.proofs.lemmas.Int.{ints}
use Rattle.integers.proofs.Compare.{less_out, equal_out, greater_out}
use Rattle.integers.proofs.Reify.{ring, sides}
use Rattle.integers.proofs.Signs.{neg_above}
use Rattle.exact_plane.specs.Line.{Line, side_of, IsOn}
use Rattle.exact_plane.specs.Plane.{RunsForward}
use Rattle.exact_plane.specs.Point.{Point, IsPoint}
use Rattle.exact_plane.specs.Span.{Span, IsSpan}
use Rattle.exact_plane.proofs.Along.{mean_between}
use Rattle.exact_plane.proofs.Between.{Mean, mean_left}
use Rattle.exact_plane.proofs.Meetings.{runs}
use Rattle.exact_plane.proofs.PlaneLaws.{Crossing, crosses_to_right, crosses_to_left}
use Rattle.plane_graphs.specs.Line.{IsProper, are_parallel}
use Rattle.plane_graphs.proofs.Lines.{point_is_proper, before_of}
use Rattle.plane_graphs.proofs.Order.{Lt, lt_never}
use Rattle.zone_walk.proofs.LineCrossings.{is_crossing}

-- ---- where a point between two others is on another line too, these two are on different sides of it, or on it
module _ (l m : Line) (runs_on : RunsForward l.a l.b) (low high x : Point) (low_proper : IsProper low) (high_proper : IsProper high) (proper : IsProper x) (low_on : IsOn l low) (high_on : IsOn l high) (on : IsOn l x) (after : Lt low x) (before : Lt x high) where
  mean : Mean low.x low.y low.w x.x x.y x.w high.x high.y high.w
  mean =
      mean_between l.a l.b l.c low.x low.y low.w x.x x.y x.w high.x high.y high.w runs_on low_proper.positive proper.positive high_proper.positive
      low_on on high_on (before_of low x low_proper proper after) (before_of x high proper high_proper before)

  -- where the lower end is on the left of the other line, the upper end is on its right
  pub falls : IsOn m x → pos 0 <ℤ side_of m low → side_of m high <ℤ pos 0
  falls on_m h = by (int_cmp (side_of m high) (pos 0)) refl
    where
      never : pos 0 ≤ℤ side_of m high → ⊥
      never k = let p : pos 0 <ℤ side_of m x = mean_left m.a m.b m.c low.x low.y low.w x.x x.y x.w high.x high.y high.w mean h k in omega (arith, ints)

      by : (o : Ordering) → int_cmp (side_of m high) (pos 0) ≡ o → side_of m high <ℤ pos 0
      by Less e = less_out (side_of m high) (pos 0) e
      by Equal e = absurd (never (let f = equal_out (side_of m high) (pos 0) e in omega (arith, ints)))
      by Greater e = absurd (never (let f = greater_out (side_of m high) (pos 0) e in omega (arith, ints)))

-- the line the other way round
abbrev reversed : Line → Line
reversed m = record { a = neg_ℤ m.a; b = neg_ℤ m.b; c = neg_ℤ m.c }

reversed_side : (m : Line) (t : Point) → side_of (reversed m) t ≡ neg_ℤ (side_of m t)
reversed_side m t = ring (m.a ∷ m.b ∷ m.c ∷ t.x ∷ t.y ∷ t.w ∷ []) (search sides depth 40 fits 20000) tt

above_by : (z : ℤ) → neg_ℤ z <ℤ pos 0 → pos 0 <ℤ z
above_by z k = omega (arith, ints)

module _ (l m : Line) (runs_on : RunsForward l.a l.b) (low high x : Point) (low_proper : IsProper low) (high_proper : IsProper high) (proper : IsProper x) (low_on : IsOn l low) (high_on : IsOn l high) (on : IsOn l x) (after : Lt low x) (before : Lt x high) (on_m : IsOn m x) where
  -- and the other way round
  pub rises : side_of m low <ℤ pos 0 → pos 0 <ℤ side_of m high
  rises h =
      above_by (side_of m high)
      (subst (λ z. z <ℤ pos 0) (reversed_side m high)
      (falls l (reversed m) runs_on low high x low_proper high_proper proper low_on high_on on after before (reversed_side m x ∙ ap neg_ℤ on_m)
      (subst (λ z. pos 0 <ℤ z) (sym (reversed_side m low)) (neg_above (side_of m low) h))))

module _ (s t : Span) (hs : IsSpan s) (ht : IsSpan t) (x : Point) (proper : IsProper x) (low : Lt s.lower x) (high : Lt x s.upper) (on_s : IsOn s.line x) (on_t : IsOn t.line x) (crosses : are_parallel t.line s.line ≡ false) where
  one : (y : Point) → IsPoint y → IsOn s.line y → IsOn t.line y → x ≡ y
  one y hy a b = is_crossing t.line s.line crosses x proper on_t on_s ∙ sym (is_crossing t.line s.line crosses y (point_is_proper y hy) b a)

  from_crossing : Crossing s.line t.line s.lower s.upper → IsPoint x
  from_crossing c = subst IsPoint (sym (one c.place c.is.point c.is.on_first c.is.on_second)) c.is.point

  own : RunsForward s.line.a s.line.b
  own = runs s.line.a s.line.b hs.line.runs

  low_is : IsProper s.lower
  low_is = point_is_proper s.lower hs.lower

  high_is : IsProper s.upper
  high_is = point_is_proper s.upper hs.upper

  pub in_plane : IsPoint x
  in_plane = by (int_cmp (side_of t.line s.lower) (pos 0)) refl
    where
      by : (o : Ordering) → int_cmp (side_of t.line s.lower) (pos 0) ≡ o → IsPoint x
      by Less e =
          let h = less_out (side_of t.line s.lower) (pos 0) e in
          from_crossing (crosses_to_left s.line t.line hs.line ht.line s.lower s.upper hs.lower hs.upper hs.way.lower_on hs.way.upper_on hs.way.ascending h (rises s.line t.line own s.lower s.upper x low_is high_is proper hs.way.lower_on hs.way.upper_on on_s low high on_t h))
      by Equal e = absurd (lt_never (subst (λ (y : Point). Lt y x) (sym (one s.lower hs.lower hs.way.lower_on (equal_out (side_of t.line s.lower) (pos 0) e))) low))
      by Greater e =
          let h = greater_out (side_of t.line s.lower) (pos 0) e in
          from_crossing (crosses_to_right s.line t.line hs.line ht.line s.lower s.upper hs.lower hs.upper hs.way.lower_on hs.way.upper_on hs.way.ascending h (falls s.line t.line own s.lower s.upper x low_is high_is proper hs.way.lower_on hs.way.upper_on on_s low high on_t h))
