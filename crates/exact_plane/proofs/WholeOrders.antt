-- What whole parts tell of the order of points, and of two spans.
use Rattle.std.proofs.Common.{◌≡◌, true, false, ◌||◌, [], ◌∷◌, ℤ, pos, ◌+ℤ◌, ◌-ℤ◌, ◌*ℤ◌, ◌<ℤ◌, ◌≤ℤ◌, neg_ℤ, refl, ap, sym, ◌∙◌, subst, arith, ◌⊎◌, inl, inr, Bool, Ordering, Less, Equal, Greater}
use Rattle.std.proofs.lemmas.Int.{ints, int_max_is, int_min_is}
use Rattle.std.specs.Int.{int_min, int_max}
use Rattle.std.specs.Ordering.{int_cmp, is_le, ordering_then, then_cmp, on}
use Rattle.integers.specs.Ratio.{ratio_cmp}
use Rattle.integers.proofs.Compare.{less_in, less_out, equal_out, greater_out}
use Rattle.integers.proofs.Decisions.{lt_out, both, or_out}
use Rattle.integers.proofs.Reify.{ring, sides}
use Rattle.integers.proofs.Signs.{at_most_by, same_by, mul_nonneg, diff_nonneg, neg_above}
use Rattle.exact_plane.specs.Line.{Line, IsOn}
use Rattle.exact_plane.specs.Place.{whole_part, rest_part}
use Rattle.exact_plane.specs.PlaceParts.{is_rest, parts_are}
use Rattle.exact_plane.specs.Plane.{side, RunsForward}
use Rattle.exact_plane.specs.Point.{Point}
use Rattle.exact_plane.specs.PointOrder.{by_y, point_cmp}
use Rattle.exact_plane.specs.Span.{Span, IsAtMost}
use Rattle.exact_plane.specs.WholeParts.{whole_parts, are_less, are_greater, are_beyond, is_left_or_right_of, excludes_across, excludes_along, excludes, bounding_box}
use Rattle.exact_plane.proofs.Floors.{less_by_whole}
use Rattle.exact_plane.proofs.Places.{ratio_cmp-is}

-- ---- whole parts and ratios
-- the lesser whole part is of the lesser ratio
pub less_ratio : (y w z v : ℤ) → pos 0 <ℤ w → pos 0 <ℤ v → whole_part y w <ℤ whole_part z v → (y *ℤ v) <ℤ (z *ℤ w)
less_ratio y w z v W V l =
    let h = less_out _ _ (sym (less_by_whole (whole_part y w) (whole_part z v) (rest_part y w) w (rest_part z v) v (is_rest y w W) (is_rest z v V) (less_in _ _ l))) in
    subst (λ t. (y *ℤ v) <ℤ (t *ℤ w)) (parts_are z v) (subst (λ t. (t *ℤ v) <ℤ ((whole_part z v *ℤ v +ℤ rest_part z v) *ℤ w)) (parts_are y w) h)

less_le : (a b : ℤ) → a <ℤ b → a ≤ℤ b
less_le a b h = omega (arith, ints)

same_le : (b a : ℤ) → b ≡ a → a ≤ℤ b
same_le b a e = omega (arith, ints)

not_less : (a b : ℤ) → a ≡ b → a <ℤ b → ⊥
not_less a b e h = absurd (omega (arith, ints))

-- the whole part of a ratio that is no greater is no greater
whole_at_most : (y w z v : ℤ) → pos 0 <ℤ w → pos 0 <ℤ v → (y *ℤ v) ≤ℤ (z *ℤ w) → whole_part y w ≤ℤ whole_part z v
whole_at_most y w z v W V le = at (int_cmp (whole_part z v) (whole_part y w)) refl
  where
    at : (o : Ordering) → int_cmp (whole_part z v) (whole_part y w) ≡ o → whole_part y w ≤ℤ whole_part z v
    at Less e = absurd (no (y *ℤ v) (z *ℤ w) (less_ratio z v y w V W (less_out (whole_part z v) (whole_part y w) e)) le)
      where
        no : (a b : ℤ) → b <ℤ a → a ≤ℤ b → ⊥
        no a b h k = absurd (omega (arith, ints))
    at Equal e = same_le (whole_part z v) (whole_part y w) (equal_out (whole_part z v) (whole_part y w) e)
    at Greater e = less_le (whole_part y w) (whole_part z v) (greater_out (whole_part z v) (whole_part y w) e)

-- ---- the order of points
-- the lesser whole part of the abscissa comes first, whatever the ordinates and the weights
pub before_by_whole : (p q : Point) → pos 0 <ℤ p.w → pos 0 <ℤ q.w → (whole_parts p).x <ℤ (whole_parts q).x → point_cmp p q ≡ Less
before_by_whole p q P Q l =
    ap (λ o. ordering_then o (then_cmp by_y (on (λ (r : Point). r.w) int_cmp) p q)) (sym (ratio_cmp-is p.x p.w q.x q.w P Q) ∙ less_in _ _ (less_ratio p.x p.w q.x q.w P Q l))

both_less : (a b l : ℤ) → are_less a b l ≡ true → (a <ℤ l) × (b <ℤ l)
both_less a b l h = let k = both _ _ h in (lt_out _ _ k.0, lt_out _ _ k.1)

both_greater : (a b l : ℤ) → are_greater a b l ≡ true → (l <ℤ a) × (l <ℤ b)
both_greater a b l h = let k = both _ _ h in (lt_out _ _ k.0, lt_out _ _ k.1)

-- what is to the left of p by whole parts comes before it, what is to the right comes after it
pub beside_order : (p s t : Point) → pos 0 <ℤ p.w → pos 0 <ℤ s.w → pos 0 <ℤ t.w → is_left_or_right_of (whole_parts p) (whole_parts s) (whole_parts t) ≡ true →
    ((point_cmp s p ≡ Less) × (point_cmp t p ≡ Less)) ⊎ ((point_cmp p s ≡ Less) × (point_cmp p t ≡ Less))
beside_order p s t P S T e = at (or_out _ _ e)
  where
    at : (are_less (whole_parts s).x (whole_parts t).x (whole_parts p).x ≡ true) ⊎ (are_greater (whole_parts s).x (whole_parts t).x (whole_parts p).x ≡ true) →
        ((point_cmp s p ≡ Less) × (point_cmp t p ≡ Less)) ⊎ ((point_cmp p s ≡ Less) × (point_cmp p t ≡ Less))
    at (inl h) = let k = both_less _ _ _ h in inl (before_by_whole s p S P k.0, before_by_whole t p T P k.1)
    at (inr h) = let k = both_greater _ _ _ h in inr (before_by_whole p s P S k.0, before_by_whole p t P T k.1)

-- ---- the points of a span
module _ (p q : Point) (P : pos 0 <ℤ p.w) (Q : pos 0 <ℤ q.w) (le : IsAtMost p q) where
  abbrev rest : Ordering
  rest = int_cmp p.w q.w

  decided : is_le (ordering_then (ratio_cmp p.x p.w q.x q.w) (ordering_then (ratio_cmp p.y p.w q.y q.w) rest)) ≡ true
  decided = (λ i. is_le (ordering_then (ratio_cmp-is p.x p.w q.x q.w P Q i) (ordering_then (ratio_cmp-is p.y p.w q.y q.w P Q i) rest))) ∙ le

  x_at_most : (p.x *ℤ q.w) ≤ℤ (q.x *ℤ p.w)
  x_at_most = at (ratio_cmp p.x p.w q.x q.w) refl decided
    where
      at : (o : Ordering) → ratio_cmp p.x p.w q.x q.w ≡ o → is_le (ordering_then o (ordering_then (ratio_cmp p.y p.w q.y q.w) rest)) ≡ true → (p.x *ℤ q.w) ≤ℤ (q.x *ℤ p.w)
      at Less e h = less_le (p.x *ℤ q.w) (q.x *ℤ p.w) (less_out (p.x *ℤ q.w) (q.x *ℤ p.w) e)
      at Equal e h = same_le (q.x *ℤ p.w) (p.x *ℤ q.w) (sym (equal_out (p.x *ℤ q.w) (q.x *ℤ p.w) e))
      at Greater e h = cc

  y_at_most : p.x *ℤ q.w ≡ q.x *ℤ p.w → (p.y *ℤ q.w) ≤ℤ (q.y *ℤ p.w)
  y_at_most same = at (ratio_cmp p.x p.w q.x q.w) (ratio_cmp p.y p.w q.y q.w) refl refl decided
    where
      at : (o u : Ordering) → ratio_cmp p.x p.w q.x q.w ≡ o → ratio_cmp p.y p.w q.y q.w ≡ u → is_le (ordering_then o (ordering_then u rest)) ≡ true → (p.y *ℤ q.w) ≤ℤ (q.y *ℤ p.w)
      at Less u e f h = absurd (not_less (p.x *ℤ q.w) (q.x *ℤ p.w) same (less_out (p.x *ℤ q.w) (q.x *ℤ p.w) e))
      at Equal Less e f h = less_le (p.y *ℤ q.w) (q.y *ℤ p.w) (less_out (p.y *ℤ q.w) (q.y *ℤ p.w) f)
      at Equal Equal e f h = same_le (q.y *ℤ p.w) (p.y *ℤ q.w) (sym (equal_out (p.y *ℤ q.w) (q.y *ℤ p.w) f))
      at Equal Greater e f h = cc
      at Greater u e f h = cc

-- two points of a line: what is between their ordinates is by its slope
module _ (a b c px py pw qx qy qw : ℤ) (sp : side a b c px py pw ≡ pos 0) (sq : side a b c qx qy qw ≡ pos 0) where
  rise : (qy *ℤ pw -ℤ py *ℤ qw) *ℤ b ≡ neg_ℤ a *ℤ (qx *ℤ pw -ℤ px *ℤ qw)
  rise =
      ring (a ∷ b ∷ c ∷ px ∷ py ∷ pw ∷ qx ∷ qy ∷ qw ∷ []) (search sides depth 40 fits 20000) tt
      ∙ (λ i. neg_ℤ a *ℤ (qx *ℤ pw -ℤ px *ℤ qw) +ℤ (sq i *ℤ pw -ℤ sp i *ℤ qw))
      ∙ ring (a ∷ px ∷ pw ∷ qx ∷ qw ∷ []) (search sides depth 40 fits 20000) tt

  fall : (py *ℤ qw -ℤ qy *ℤ pw) *ℤ b ≡ a *ℤ (qx *ℤ pw -ℤ px *ℤ qw)
  fall =
      ring (a ∷ b ∷ c ∷ px ∷ py ∷ pw ∷ qx ∷ qy ∷ qw ∷ []) (search sides depth 40 fits 20000) tt
      ∙ (λ i. a *ℤ (qx *ℤ pw -ℤ px *ℤ qw) +ℤ (sp i *ℤ qw -ℤ sq i *ℤ pw))
      ∙ ring (a ∷ px ∷ pw ∷ qx ∷ qw ∷ []) (search sides depth 40 fits 20000) tt

  rises : pos 0 <ℤ b → a ≤ℤ pos 0 → (px *ℤ qw) ≤ℤ (qx *ℤ pw) → (py *ℤ qw) ≤ℤ (qy *ℤ pw)
  rises hb ha le = at_most_by hb (mul_nonneg (opposite a ha) (diff_nonneg le)) rise
    where
      opposite : (a : ℤ) → a ≤ℤ pos 0 → pos 0 ≤ℤ neg_ℤ a
      opposite a h = omega (arith, ints)

  falls : pos 0 <ℤ b → pos 0 ≤ℤ a → (px *ℤ qw) ≤ℤ (qx *ℤ pw) → (qy *ℤ pw) ≤ℤ (py *ℤ qw)
  falls hb ha le = at_most_by hb (mul_nonneg ha (diff_nonneg le)) fall

  upright : b ≡ pos 0 → a <ℤ pos 0 → px *ℤ qw ≡ qx *ℤ pw
  upright e ha = same_by (neg_above a ha) none (swap (qx *ℤ pw -ℤ px *ℤ qw) a ∙ sym rise)
    where
      swap : (d a : ℤ) → d *ℤ neg_ℤ a ≡ neg_ℤ a *ℤ d
      swap d a = ring (d ∷ a ∷ []) (search sides depth 40 fits 20000) tt

      none : (qy *ℤ pw -ℤ py *ℤ qw) *ℤ b ≡ pos 0
      none = ap (λ t. (qy *ℤ pw -ℤ py *ℤ qw) *ℤ t) e ∙ ring (py ∷ pw ∷ qy ∷ qw ∷ []) (search sides depth 40 fits 20000) tt

-- q is between l and u, in one order or the other
abbrev IsMid : ℤ → ℤ → ℤ → Type 0
IsMid l q u = ((l ≤ℤ q) × (q ≤ℤ u)) ⊎ ((u ≤ℤ q) × (q ≤ℤ l))

mid_swapped : (l q u : ℤ) → IsMid l q u → IsMid u q l
mid_swapped l q u (inl h) = inr h
mid_swapped l q u (inr h) = inl h

low : (a b c : ℤ) → a ≤ℤ b → b <ℤ c → a <ℤ c
low a b c h k = omega (arith, ints)

high : (a b c : ℤ) → a <ℤ b → b ≤ℤ c → a <ℤ c
high a b c h k = omega (arith, ints)

-- so what is between two numbers beyond one end of a range is beyond it
mid_beyond : (l q u least greatest : ℤ) → IsMid l q u → are_beyond l u least greatest ≡ true → (q <ℤ least) ⊎ (greatest <ℤ q)
mid_beyond l q u least greatest m e = at (or_out _ _ e) m
  where
    at : (are_less l u least ≡ true) ⊎ (are_greater l u greatest ≡ true) → IsMid l q u → (q <ℤ least) ⊎ (greatest <ℤ q)
    at (inl h) (inl m) = let k = both_less l u least h in inl (low q u least m.1 k.1)
    at (inl h) (inr m) = let k = both_less l u least h in inl (low q l least m.1 k.0)
    at (inr h) (inl m) = let k = both_greater l u greatest h in inr (high greatest l q k.0 m.0)
    at (inr h) (inr m) = let k = both_greater l u greatest h in inr (high greatest u q k.1 m.0)

-- a part of a line that runs forward, between two of its points, and a point of it
pub record IsAlong (l : Line) (low high q : Point) : Type 0 where
  pub runs : RunsForward l.a l.b
  pub low_is : pos 0 <ℤ low.w
  pub high_is : pos 0 <ℤ high.w
  pub is : pos 0 <ℤ q.w
  pub low_on : IsOn l low
  pub high_on : IsOn l high
  pub on : IsOn l q
  pub from : IsAtMost low q
  pub upto : IsAtMost q high

module _ (l : Line) (low high q : Point) (h : IsAlong l low high q) where
  before : (low.x *ℤ q.w) ≤ℤ (q.x *ℤ low.w)
  before = x_at_most low q h.low_is h.is h.from

  after : (q.x *ℤ high.w) ≤ℤ (high.x *ℤ q.w)
  after = x_at_most q high h.is h.high_is h.upto

  from_left : (whole_parts low).x ≤ℤ (whole_parts q).x
  from_left = whole_at_most low.x low.w q.x q.w h.low_is h.is before

  to_right : (whole_parts q).x ≤ℤ (whole_parts high).x
  to_right = whole_at_most q.x q.w high.x high.w h.is h.high_is after

  up : (p r : Point) → pos 0 <ℤ p.w → pos 0 <ℤ r.w → (p.y *ℤ r.w) ≤ℤ (r.y *ℤ p.w) → (whole_parts p).y ≤ℤ (whole_parts r).y
  up p r P R = whole_at_most p.y p.w r.y r.w P R

  rising : pos 0 <ℤ l.b → l.a ≤ℤ pos 0 → IsMid (whole_parts low).y (whole_parts q).y (whole_parts high).y
  rising b a =
      inl (
        up low q h.low_is h.is (rises l.a l.b l.c low.x low.y low.w q.x q.y q.w h.low_on h.on b a before),
        up q high h.is h.high_is (rises l.a l.b l.c q.x q.y q.w high.x high.y high.w h.on h.high_on b a after),
      )

  falling : pos 0 <ℤ l.b → pos 0 ≤ℤ l.a → IsMid (whole_parts low).y (whole_parts q).y (whole_parts high).y
  falling b a =
      inr (
        up high q h.high_is h.is (falls l.a l.b l.c q.x q.y q.w high.x high.y high.w h.on h.high_on b a after),
        up q low h.is h.low_is (falls l.a l.b l.c low.x low.y low.w q.x q.y q.w h.low_on h.on b a before),
      )

  sloped : pos 0 <ℤ l.b → IsMid (whole_parts low).y (whole_parts q).y (whole_parts high).y
  sloped b = at (int_cmp l.a (pos 0)) refl
    where
      at : (o : Ordering) → int_cmp l.a (pos 0) ≡ o → IsMid (whole_parts low).y (whole_parts q).y (whole_parts high).y
      at Less e = rising b (less_le l.a (pos 0) (less_out l.a (pos 0) e))
      at Equal e = rising b (same_le (pos 0) l.a (sym (equal_out l.a (pos 0) e)))
      at Greater e = falling b (less_le (pos 0) l.a (greater_out l.a (pos 0) e))

  mid_along : IsMid (whole_parts low).y (whole_parts q).y (whole_parts high).y
  mid_along = by h.runs
    where
      by : RunsForward l.a l.b → IsMid (whole_parts low).y (whole_parts q).y (whole_parts high).y
      by (inl b) = sloped b
      by (inr v) =
          inl (
            up low q h.low_is h.is (y_at_most low q h.low_is h.is h.from (upright l.a l.b l.c low.x low.y low.w q.x q.y q.w h.low_on h.on v.0 v.1)),
            up q high h.is h.high_is (y_at_most q high h.is h.high_is h.upto (upright l.a l.b l.c q.x q.y q.w high.x high.y high.w h.on h.high_on v.0 v.1)),
          )

  mid_across : IsMid (whole_parts low).x (whole_parts q).x (whole_parts high).x
  mid_across = inl (from_left, to_right)

least_bound : (l q u : ℤ) → IsMid l q u → int_min l u ≤ℤ q
least_bound l q u (inl m) = let h : l ≤ℤ q = m.0 in omega (arith, ints, int_min_is l u)
least_bound l q u (inr m) = let h : u ≤ℤ q = m.0 in omega (arith, ints, int_min_is l u)

greatest_bound : (l q u : ℤ) → IsMid l q u → q ≤ℤ int_max l u
greatest_bound l q u (inl m) = let h : q ≤ℤ u = m.1 in omega (arith, ints, int_max_is l u)
greatest_bound l q u (inr m) = let h : q ≤ℤ l = m.1 in omega (arith, ints, int_max_is l u)

no_side : (q least greatest : ℤ) → (q <ℤ least) ⊎ (greatest <ℤ q) → least ≤ℤ q → q ≤ℤ greatest → ⊥
no_side q least greatest (inl h) l g = absurd (omega (arith, ints))
no_side q least greatest (inr h) l g = absurd (omega (arith, ints))

-- a part of a line that has both ends beyond one side of the box of another has no point in common with it
pub boxed : (s : Span) (m : Line) (c d q : Point) → IsAlong s.line s.lower s.upper q → IsAlong m c d q → excludes (bounding_box s) (whole_parts c) (whole_parts d) ≡ true → ⊥
boxed s m c d q h k e = at (or_out _ _ e)
  where
    at : (excludes_across (bounding_box s) (whole_parts c) (whole_parts d) ≡ true) ⊎ (excludes_along (bounding_box s) (whole_parts c) (whole_parts d) ≡ true) → ⊥
    at (inl z) = no_side _ _ _ (mid_beyond _ _ _ _ _ (mid_across m c d q k) z) (from_left s.line s.lower s.upper q h) (to_right s.line s.lower s.upper q h)
    at (inr z) =
        let y = mid_along s.line s.lower s.upper q h in
        no_side _ _ _ (mid_beyond _ _ _ _ _ (mid_along m c d q k) z) (least_bound _ _ _ y) (greatest_bound _ _ _ y)

-- the same, the ends told the other way round
pub boxed_back : (s : Span) (m : Line) (c d q : Point) → IsAlong s.line s.lower s.upper q → IsAlong m c d q → excludes (bounding_box s) (whole_parts d) (whole_parts c) ≡ true → ⊥
boxed_back s m c d q h k e = at (or_out _ _ e)
  where
    at : (excludes_across (bounding_box s) (whole_parts d) (whole_parts c) ≡ true) ⊎ (excludes_along (bounding_box s) (whole_parts d) (whole_parts c) ≡ true) → ⊥
    at (inl z) = no_side _ _ _ (mid_beyond _ _ _ _ _ (mid_swapped _ _ _ (mid_across m c d q k)) z) (from_left s.line s.lower s.upper q h) (to_right s.line s.lower s.upper q h)
    at (inr z) =
        let y = mid_along s.line s.lower s.upper q h in
        no_side _ _ _ (mid_beyond _ _ _ _ _ (mid_swapped _ _ _ (mid_along m c d q k)) z) (least_bound _ _ _ y) (greatest_bound _ _ _ y)
