-- Laws of the plane, over points, lines and spans.
use Rattle.std.proofs.Common.{◌≡◌, ◌*◌, ◌≤◌, ◌<◌, [], ◌∷◌, ℤ, pos, ◌+ℤ◌, ◌*ℤ◌, ◌<ℤ◌, ◌≤ℤ◌, neg_ℤ, unsigned_abs, refl, ap, ap₂, sym, ◌∙◌, subst, arith, inl, inr, Ordering, Less, Equal, Greater}
use Rattle.std.specs.Ordering.{int_cmp, ordering_then}
use Rattle.std.specs.Cmp.{tied_itself}
use Rattle.std.proofs.lemmas.Int.{ints}
use Rattle.integers.specs.Ratio.{ratio_cmp}
use Rattle.integers.proofs.Compare.{less_out, equal_out, greater_out, same_cmp}
use Rattle.integers.proofs.Reify.{ring, sides}
use Rattle.integers.proofs.Signs.{mul_pos, sum_pos, diff_nonneg, mul_nonneg, sum_nonneg, at_most_by, weak}
use Rattle.integers.proofs.Sizes.{size_in, size_out}
use Rattle.exact_plane.specs.declared.bounds.TheConstants.{MAX_COORDINATE, WEIGHT_LIMIT}
use Rattle.exact_plane.specs.declared.meets.Meet.{Meet}
use Rattle.exact_plane.specs.declared.meets.Meet.TheVariants.{Apart, At, Along}
use Rattle.exact_plane.specs.Line.{Line, side_of, IsOn, IsLine}
use Rattle.exact_plane.specs.Meet.{IsMeeting, IsCommonPart}
use Rattle.exact_plane.specs.MeetOf.{weight_of, crossing, place_cmp}
use Rattle.exact_plane.specs.Plane.{Before}
use Rattle.exact_plane.specs.Point.{Point, reduced, IsInRange, IsPoint}
use Rattle.exact_plane.specs.PointOrder.{point_cmp}
use Rattle.exact_plane.specs.PointOrderLaws.{point_cmp_total}
use Rattle.exact_plane.specs.Span.{Span, LiesOn, IsSpan}
use Rattle.exact_plane.proofs.Geometry.{cross_on_1, cross_on_2, cross_only}
use Rattle.exact_plane.proofs.Lowest.{reduced_point, same_place}
use Rattle.exact_plane.proofs.Meetings.{line_weight, parallel_one, weight_turned}
use Rattle.exact_plane.proofs.Orders.{at_most_itself, at_most_both, less_at_most}
use Rattle.exact_plane.proofs.Places.{two_decide}
use Rattle.exact_plane.proofs.SamePlaces.{IsSamePlace, place_cmp-right, place_cmp-left, x_within, y_within, on_same_place, one_at_place}

-- ---- the order of points
pub before_of : (p q : Point) → IsPoint p → IsPoint q → point_cmp p q ≡ Less → Before p.x p.y p.w q.x q.y q.w
before_of p q hp hq e = at (ratio_cmp p.x p.w q.x q.w) (ratio_cmp p.y p.w q.y q.w) refl refl (two_decide p q hp hq ∙ e)
  where
    at : (o u : Ordering) → ratio_cmp p.x p.w q.x q.w ≡ o → ratio_cmp p.y p.w q.y q.w ≡ u → ordering_then o u ≡ Less → Before p.x p.y p.w q.x q.y q.w
    at Less u f g h = inl (less_out (p.x *ℤ q.w) (q.x *ℤ p.w) f)
    at Equal Less f g h = inr (equal_out (p.x *ℤ q.w) (q.x *ℤ p.w) f, less_out (p.y *ℤ q.w) (q.y *ℤ p.w) g)
    at Equal Equal f g h = cc
    at Equal Greater f g h = cc
    at Greater u f g h = cc

-- points that compare as less are two
pub differ : (p q : Point) → point_cmp p q ≡ Less → p ≡ q → ⊥
differ p q h e = clash (point_cmp p q) h (ap (λ (t : Point). point_cmp p t) (sym e) ∙ tied_itself point_cmp_total p)
  where
    clash : (o : Ordering) → o ≡ Less → o ≡ Equal → ⊥
    clash Less f g = cc
    clash Equal f g = cc
    clash Greater f g = cc

-- ---- sides along a line

-- ---- crossings
-- two lines that aren't parallel have at most one point in common
pub one_crossing : (l m : Line) (p q : Point) → (weight_of l m ≡ pos 0 → ⊥) → IsPoint p → IsPoint q → IsOn l p → IsOn m p → IsOn l q → IsOn m q → p ≡ q
one_crossing l m p q cross hp hq lp mp lq mq = at (int_cmp (weight_of l m) (pos 0)) refl
  where
    at : (o : Ordering) → int_cmp (weight_of l m) (pos 0) ≡ o → p ≡ q
    at Less e =
        one_at_place (crossing m l) p q (weight_turned l m (less_out _ _ e)) hp hq (cross_only m.a m.b m.c l.a l.b l.c p.x p.y p.w mp lp) (cross_only m.a m.b m.c l.a l.b l.c q.x q.y q.w mq lq)
    at Equal e = absurd (cross (equal_out _ _ e))
    at Greater e =
        one_at_place (crossing l m) p q (greater_out _ _ e) hp hq (cross_only l.a l.b l.c m.a m.b m.c p.x p.y p.w lp mp) (cross_only l.a l.b l.c m.a m.b m.c q.x q.y q.w lq mq)

-- through two points there is one line
pub one_line : (l m : Line) (p q : Point) → IsLine l → IsLine m → IsPoint p → IsPoint q → point_cmp p q ≡ Less → IsOn l p → IsOn m p → IsOn l q → IsOn m q → l ≡ m
one_line l m p q hl hm hp hq pq lp mp lq mq = at (int_cmp (weight_of l m) (pos 0)) refl
  where
    at : (o : Ordering) → int_cmp (weight_of l m) (pos 0) ≡ o → l ≡ m
    at Less e = absurd (differ p q pq (one_crossing l m p q (not_zero e) hp hq lp mp lq mq))
      where
        not_zero : int_cmp (weight_of l m) (pos 0) ≡ Less → weight_of l m ≡ pos 0 → ⊥
        not_zero e z = let h = less_out (weight_of l m) (pos 0) e in omega (arith, ints)
    at Equal e = parallel_one l m p hl hm hp.range.positive (equal_out _ _ e) lp mp
    at Greater e = absurd (differ p q pq (one_crossing l m p q (not_zero e) hp hq lp mp lq mq))
      where
        not_zero : int_cmp (weight_of l m) (pos 0) ≡ Greater → weight_of l m ≡ pos 0 → ⊥
        not_zero e z = let h = greater_out (weight_of l m) (pos 0) e in omega (arith, ints)

-- a point of two lines strictly between two others
pub record IsCrossing (l m : Line) (p q r : Point) : Type 0 where
  pub point : IsPoint r
  pub on_first : IsOn l r
  pub on_second : IsOn m r
  pub after : point_cmp p r ≡ Less
  pub before : point_cmp r q ≡ Less

pub record Crossing (l m : Line) (p q : Point) : Type 0 where
  pub place : Point
  pub is : IsCrossing l m p q place

bound : (N a w b z u v : ℤ) → pos 0 <ℤ u → pos 0 <ℤ v → a ≤ℤ (N *ℤ w) → b ≤ℤ (N *ℤ z) → (a *ℤ v +ℤ b *ℤ u) ≤ℤ (N *ℤ (w *ℤ v +ℤ z *ℤ u))
bound N a w b z u v hu hv h k =
    at_most_by {k = pos 1} (omega (arith, ints)) (sum_nonneg (mul_nonneg (diff_nonneg h) (weak hv)) (mul_nonneg (diff_nonneg k) (weak hu)))
    (ring (N ∷ a ∷ w ∷ b ∷ z ∷ u ∷ v ∷ []) (search sides depth 40 fits 20000) tt)

mean_size : (a w b z u v : ℤ) → pos 0 <ℤ u → pos 0 <ℤ v → pos 0 <ℤ w → pos 0 <ℤ z → pos 0 <ℤ (w *ℤ v +ℤ z *ℤ u) → unsigned_abs a ≤ MAX_COORDINATE * unsigned_abs w → unsigned_abs b ≤ MAX_COORDINATE * unsigned_abs z →
    unsigned_abs (a *ℤ v +ℤ b *ℤ u) ≤ MAX_COORDINATE * unsigned_abs (w *ℤ v +ℤ z *ℤ u)
mean_size a w b z u v hu hv hw hz hr h k =
    let p = size_out a w MAX_COORDINATE hw h in
    let q = size_out b z MAX_COORDINATE hz k in
    size_in (a *ℤ v +ℤ b *ℤ u) (w *ℤ v +ℤ z *ℤ u) MAX_COORDINATE hr
    (bound (pos MAX_COORDINATE) a w b z u v hu hv p.0 q.0)
    (subst (λ y. y ≤ℤ (pos MAX_COORDINATE *ℤ (w *ℤ v +ℤ z *ℤ u))) (ring (a ∷ b ∷ u ∷ v ∷ []) (search sides depth 40 fits 20000) tt) (bound (pos MAX_COORDINATE) (neg_ℤ a) w (neg_ℤ b) z u v hu hv p.1 q.1))

module _ (l m : Line) (hl : IsLine l) (hm : IsLine m) (p q : Point) (hp : IsPoint p) (hq : IsPoint q) (on_p : IsOn l p) (on_q : IsOn l q) (pq : point_cmp p q ≡ Less)
    (u v : ℤ) (hu : pos 0 <ℤ u) (hv : pos 0 <ℤ v) (balance : side_of m p *ℤ v +ℤ side_of m q *ℤ u ≡ pos 0) (off : side_of m p ≡ pos 0 → ⊥) where
  abbrev mean : Point
  mean = record { x = p.x *ℤ v +ℤ q.x *ℤ u; y = p.y *ℤ v +ℤ q.y *ℤ u; w = p.w *ℤ v +ℤ q.w *ℤ u }

  mean_w : pos 0 <ℤ mean.w
  mean_w = sum_pos (mul_pos hp.range.positive hv) (mul_pos hq.range.positive hu)

  side_of_mean : (k : Line) → side_of k mean ≡ side_of k p *ℤ v +ℤ side_of k q *ℤ u
  side_of_mean k = ring (k.a ∷ k.b ∷ k.c ∷ p.x ∷ p.y ∷ p.w ∷ q.x ∷ q.y ∷ q.w ∷ u ∷ v ∷ []) (search sides depth 40 fits 20000) tt

  mean_first : IsOn l mean
  mean_first = side_of_mean l ∙ (λ i. on_p i *ℤ v +ℤ on_q i *ℤ u) ∙ ring (u ∷ v ∷ []) (search sides depth 40 fits 20000) tt

  mean_second : IsOn m mean
  mean_second = side_of_mean m ∙ balance

  ratio_after : (a w b z : ℤ) → ratio_cmp a w (a *ℤ v +ℤ b *ℤ u) (w *ℤ v +ℤ z *ℤ u) ≡ ratio_cmp a w b z
  ratio_after a w b z = same_cmp (a *ℤ (w *ℤ v +ℤ z *ℤ u)) ((a *ℤ v +ℤ b *ℤ u) *ℤ w) (a *ℤ z) (b *ℤ w) {k = pos 1} {m = u} (omega (arith, ints)) hu (ring (a ∷ w ∷ b ∷ z ∷ u ∷ v ∷ []) (search sides depth 40 fits 20000) tt)

  ratio_before : (a w b z : ℤ) → ratio_cmp (a *ℤ v +ℤ b *ℤ u) (w *ℤ v +ℤ z *ℤ u) b z ≡ ratio_cmp a w b z
  ratio_before a w b z = same_cmp ((a *ℤ v +ℤ b *ℤ u) *ℤ z) (b *ℤ (w *ℤ v +ℤ z *ℤ u)) (a *ℤ z) (b *ℤ w) {k = pos 1} {m = v} (omega (arith, ints)) hv (ring (a ∷ w ∷ b ∷ z ∷ u ∷ v ∷ []) (search sides depth 40 fits 20000) tt)

  mean_after : place_cmp p mean ≡ place_cmp p q
  mean_after = ap₂ ordering_then (ratio_after p.x p.w q.x q.w) (ratio_after p.y p.w q.y q.w)

  mean_before : place_cmp mean q ≡ place_cmp p q
  mean_before = ap₂ ordering_then (ratio_before p.x p.w q.x q.w) (ratio_before p.y p.w q.y q.w)

  -- at the crossing c of the two lines
  module _ (c : Point) (hc : pos 0 <ℤ c.w) (small : unsigned_abs c.w < WEIGHT_LIMIT) (same : IsSamePlace c mean) (first : IsOn l c) (second : IsOn m c) where
    in_plane : IsInRange c.x c.y c.w
    in_plane = record {
      positive = hc;
      small = small;
      x_within = x_within c mean hc mean_w same MAX_COORDINATE (mean_size p.x p.w q.x q.w u v hu hv hp.range.positive hq.range.positive mean_w hp.range.x_within hq.range.x_within);
      y_within = y_within c mean hc mean_w same MAX_COORDINATE (mean_size p.y p.w q.y q.w u v hu hv hp.range.positive hq.range.positive mean_w hp.range.y_within hq.range.y_within);
    }

    at_place : Crossing l m p q
    at_place =
        let r : Point = reduced c.x c.y c.w in
        let hr : IsPoint r = reduced_point c.x c.y c.w in_plane in
        let there : IsSamePlace c r = same_place c.x c.y c.w in_plane r refl in
        record {
          place = r;
          is = record {
            point = hr;
            on_first = on_same_place c r hc hr.range.positive there l first;
            on_second = on_same_place c r hc hr.range.positive there m second;
            after = sym (two_decide p r hp hr) ∙ sym (place_cmp-right c r hc hr.range.positive there p) ∙ place_cmp-right c mean hc mean_w same p ∙ mean_after ∙ two_decide p q hp hq ∙ pq;
            before = sym (two_decide r q hr hq) ∙ sym (place_cmp-left c r hc hr.range.positive there q) ∙ place_cmp-left c mean hc mean_w same q ∙ mean_before ∙ two_decide p q hp hq ∙ pq;
          };
        }

  crosses_by : (o : Ordering) → int_cmp (weight_of l m) (pos 0) ≡ o → Crossing l m p q
  crosses_by Less e =
      at_place (crossing m l) (weight_turned l m (less_out _ _ e)) (line_weight m l hm hl)
      (cross_only m.a m.b m.c l.a l.b l.c mean.x mean.y mean.w mean_second mean_first) (cross_on_2 m.a m.b m.c l.a l.b l.c) (cross_on_1 m.a m.b m.c l.a l.b l.c)
  crosses_by Equal e =
      absurd (off (subst (λ (k : Line). IsOn k p) (parallel_one l m mean hl hm mean_w (equal_out _ _ e) mean_first mean_second) on_p))
  crosses_by Greater e =
      at_place (crossing l m) (greater_out _ _ e) (line_weight l m hl hm)
      (cross_only l.a l.b l.c m.a m.b m.c mean.x mean.y mean.w mean_first mean_second) (cross_on_1 l.a l.b l.c m.a m.b m.c) (cross_on_2 l.a l.b l.c m.a m.b m.c)

  crosses : Crossing l m p q
  crosses = crosses_by (int_cmp (weight_of l m) (pos 0)) refl

-- a line that has two points of another on either side meets it between them, by `one_crossing` once
module _ (l m : Line) (hl : IsLine l) (hm : IsLine m) (p q : Point) (hp : IsPoint p) (hq : IsPoint q) (on_p : IsOn l p) (on_q : IsOn l q) (pq : point_cmp p q ≡ Less) where
  pub crosses_to_right : pos 0 <ℤ side_of m p → side_of m q <ℤ pos 0 → Crossing l m p q
  crosses_to_right h k =
      crosses l m hl hm p q hp hq on_p on_q pq (side_of m p) (neg_ℤ (side_of m q)) h (turned k) (balanced (side_of m p) (side_of m q)) (λ e. off e h)
    where
      turned : {z : ℤ} → z <ℤ pos 0 → pos 0 <ℤ neg_ℤ z
      turned {z} h = omega (arith, ints)

      balanced : (a b : ℤ) → a *ℤ neg_ℤ b +ℤ b *ℤ a ≡ pos 0
      balanced a b = ring (a ∷ b ∷ []) (search sides depth 40 fits 20000) tt

      off : {z : ℤ} → z ≡ pos 0 → pos 0 <ℤ z → ⊥
      off {z} e h = omega (arith, ints)

  pub crosses_to_left : side_of m p <ℤ pos 0 → pos 0 <ℤ side_of m q → Crossing l m p q
  crosses_to_left h k =
      crosses l m hl hm p q hp hq on_p on_q pq (neg_ℤ (side_of m p)) (side_of m q) (turned h) k (balanced (side_of m p) (side_of m q)) (λ e. off e h)
    where
      turned : {z : ℤ} → z <ℤ pos 0 → pos 0 <ℤ neg_ℤ z
      turned {z} h = omega (arith, ints)

      balanced : (a b : ℤ) → a *ℤ b +ℤ b *ℤ neg_ℤ a ≡ pos 0
      balanced a b = ring (a ∷ b ∷ []) (search sides depth 40 fits 20000) tt

      off : {z : ℤ} → z ≡ pos 0 → z <ℤ pos 0 → ⊥
      off {z} e h = omega (arith, ints)

-- ---- meetings
first_end : (s : Span) → IsSpan s → LiesOn s s.lower
first_end s h = record { on = h.way.lower_on; from = at_most_itself s.lower; upto = less_at_most s.lower s.upper h.way.ascending }

last_end : (s : Span) → IsSpan s → LiesOn s s.upper
last_end s h = record { on = h.way.upper_on; from = less_at_most s.lower s.upper h.way.ascending; upto = at_most_itself s.upper }

module _ (s t : Span) where
  low_common : (p q : Point) → IsCommonPart s t p q → LiesOn s p × LiesOn t p
  low_common p q h = (h.common p h.part.lower).1 (first_end (record { lower = p; upper = q; line = s.line }) h.part)

  high_common : (p q : Point) → IsCommonPart s t p q → LiesOn s q × LiesOn t q
  high_common p q h = (h.common q h.part.upper).1 (last_end (record { lower = p; upper = q; line = s.line }) h.part)

  one_or_two : (r p q : Point) → IsMeeting s t (At r) → IsMeeting s t (Along p q) → ⊥
  one_or_two r p q h k =
      let low = low_common p q k in
      let high = high_common p q k in
      differ p q k.part.way.ascending (h.only p k.part.lower low.0 low.1 ∙ sym (h.only q k.part.upper high.0 high.1))

  one_part : (p q p' q' : Point) → IsCommonPart s t p q → IsCommonPart s t p' q' → (p ≡ p') × (q ≡ q')
  one_part p q p' q' h k =
      let a = (k.common p h.part.lower).0 (low_common p q h) in
      let b = (h.common p' k.part.lower).0 (low_common p' q' k) in
      let c = (k.common q h.part.upper).0 (high_common p q h) in
      let d = (h.common q' k.part.upper).0 (high_common p' q' k) in
      (at_most_both p p' b.from a.from, at_most_both q q' c.upto d.upto)

  -- only one thing is right of two spans
  pub meeting_only : (m n : Meet) → IsMeeting s t m → IsMeeting s t n → m ≡ n
  meeting_only Apart Apart h k = refl
  meeting_only Apart (At q) h k = absurd (h q k.point k.on_first k.on_second)
  meeting_only Apart (Along p q) h k = let c = low_common p q k in absurd (h p k.part.lower c.0 c.1)
  meeting_only (At p) Apart h k = absurd (k p h.point h.on_first h.on_second)
  meeting_only (At p) (At q) h k = ap (λ (r : Point). At r) (k.only p h.point h.on_first h.on_second)
  meeting_only (At r) (Along p q) h k = absurd (one_or_two r p q h k)
  meeting_only (Along p q) Apart h k = let c = low_common p q h in absurd (k p h.part.lower c.0 c.1)
  meeting_only (Along p q) (At r) h k = absurd (one_or_two r p q k h)
  meeting_only (Along p q) (Along p' q') h k = let e = one_part p q p' q' h k in λ i. Along (e.0 i) (e.1 i)
