-- Two triples of one place compare alike with every other, and are in range and on a line together.
use Rattle.std.proofs.Common.{◌≡◌, ℕ, ◌*◌, ◌≤◌, ◌<◌, [], ◌∷◌, ℤ, pos, ◌+ℤ◌, ◌-ℤ◌, ◌*ℤ◌, ◌<ℤ◌, neg_ℤ, unsigned_abs, ap, ap₂, sym, ◌∙◌, subst, arith}
use Rattle.std.proofs.lemmas.Int.{ints, unsigned_abs-mul}
use Rattle.std.proofs.Math.Nat.{le_of_mul-le-mul_right, mul-le-mul_right}
use Rattle.std.specs.Ordering.{ordering_then}
use Rattle.integers.specs.Ratio.{ratio_cmp}
use Rattle.integers.proofs.Bezout.{lowest_same}
use Rattle.integers.proofs.Compare.{same_cmp}
use Rattle.integers.proofs.Reify.{ring, sides}
use Rattle.integers.proofs.Signs.{cancel_zero, same_by, same_using}
use Rattle.exact_plane.specs.Line.{Line, side_of, IsOn}
use Rattle.exact_plane.specs.MeetOf.{place_cmp}
use Rattle.exact_plane.specs.Point.{Point, IsPoint}

-- the second is at the place of the first
abbrev pub IsSamePlace : Point → Point → Type 0
IsSamePlace c p = (p.x *ℤ c.w ≡ c.x *ℤ p.w) × (p.y *ℤ c.w ≡ c.y *ℤ p.w)

ratio_right : (a v b w d u : ℤ) → pos 0 <ℤ w → pos 0 <ℤ u → d *ℤ w ≡ b *ℤ u → ratio_cmp a v b w ≡ ratio_cmp a v d u
ratio_right a v b w d u hw hu e =
    same_cmp (a *ℤ w) (b *ℤ v) (a *ℤ u) (d *ℤ v) {k = u} {m = w} hu hw
    (same_using _ _ (neg_ℤ v) (d *ℤ w) (b *ℤ u) e (ring (a ∷ v ∷ b ∷ w ∷ d ∷ u ∷ []) (search sides depth 40 fits 20000) tt))

ratio_left : (a v b w d u : ℤ) → pos 0 <ℤ w → pos 0 <ℤ u → d *ℤ w ≡ b *ℤ u → ratio_cmp b w a v ≡ ratio_cmp d u a v
ratio_left a v b w d u hw hu e =
    same_cmp (b *ℤ v) (a *ℤ w) (d *ℤ v) (a *ℤ u) {k = u} {m = w} hu hw
    (same_using _ _ v (d *ℤ w) (b *ℤ u) e (ring (a ∷ v ∷ b ∷ w ∷ d ∷ u ∷ []) (search sides depth 40 fits 20000) tt))

same_size : (x w z v : ℤ) (m : ℕ) → pos 0 <ℤ w → x *ℤ v ≡ z *ℤ w → unsigned_abs x ≤ m * unsigned_abs w → unsigned_abs z ≤ m * unsigned_abs v
same_size x w z v m hw e le =
    at (unsigned_abs x) (unsigned_abs w) (unsigned_abs z) (unsigned_abs v) (omega (arith, ints)) (sym (unsigned_abs-mul x v) ∙ ap unsigned_abs e ∙ unsigned_abs-mul z w) le
  where
    at : (x w z v : ℕ) → 0 < w → x * v ≡ z * w → x ≤ m * w → z ≤ m * v
    at x w z v some e le =
        let k : x * v ≤ m * w * v = mul-le-mul_right v le in
        let f : m * w * v ≡ m * v * w = grind arith in
        le_of_mul-le-mul_right (subst (λ n. n ≤ m * v * w) e (subst (λ n. x * v ≤ n) f k)) some

module _ (c p : Point) (hc : pos 0 <ℤ c.w) (hp : pos 0 <ℤ p.w) (same : IsSamePlace c p) where
  pub place_cmp-right : (q : Point) → place_cmp q c ≡ place_cmp q p
  place_cmp-right q = ap₂ ordering_then (ratio_right q.x q.w c.x c.w p.x p.w hc hp same.0) (ratio_right q.y q.w c.y c.w p.y p.w hc hp same.1)

  pub place_cmp-left : (q : Point) → place_cmp c q ≡ place_cmp p q
  place_cmp-left q = ap₂ ordering_then (ratio_left q.x q.w c.x c.w p.x p.w hc hp same.0) (ratio_left q.y q.w c.y c.w p.y p.w hc hp same.1)

  pub x_within : (m : ℕ) → unsigned_abs p.x ≤ m * unsigned_abs p.w → unsigned_abs c.x ≤ m * unsigned_abs c.w
  x_within m = same_size p.x p.w c.x c.w m hp same.0

  pub y_within : (m : ℕ) → unsigned_abs p.y ≤ m * unsigned_abs p.w → unsigned_abs c.y ≤ m * unsigned_abs c.w
  y_within m = same_size p.y p.w c.y c.w m hp same.1

  -- on one line
  pub on_same_place : (l : Line) → IsOn l c → IsOn l p
  on_same_place l e =
      cancel_zero {x = side_of l p} {k = c.w} hc
      (ring (l.a ∷ l.b ∷ l.c ∷ p.x ∷ p.y ∷ p.w ∷ c.w ∷ []) (search sides depth 40 fits 20000) tt
      ∙ (λ i. l.a *ℤ same.0 i +ℤ l.b *ℤ same.1 i +ℤ l.c *ℤ p.w *ℤ c.w)
      ∙ ring (l.a ∷ l.b ∷ l.c ∷ c.x ∷ c.y ∷ c.w ∷ p.w ∷ []) (search sides depth 40 fits 20000) tt
      ∙ ap (λ z. z *ℤ p.w) e
      ∙ ring (p.w ∷ []) (search sides depth 40 fits 20000) tt)

-- two points at one place are one
same_number : (x w z v t k : ℤ) → pos 0 <ℤ k → x *ℤ k ≡ t *ℤ w → z *ℤ k ≡ t *ℤ v → x *ℤ v ≡ z *ℤ w
same_number x w z v t k hk e f = same_by {a = x *ℤ v} {b = z *ℤ w} {k = k} hk zero (ring (x ∷ w ∷ z ∷ v ∷ t ∷ k ∷ []) (search sides depth 40 fits 20000) tt)
  where
    zero : (z *ℤ k -ℤ t *ℤ v) *ℤ w -ℤ (x *ℤ k -ℤ t *ℤ w) *ℤ v ≡ pos 0
    zero = (λ i. (f i -ℤ t *ℤ v) *ℤ w -ℤ (e i -ℤ t *ℤ w) *ℤ v) ∙ ring (t ∷ v ∷ w ∷ []) (search sides depth 40 fits 20000) tt

pub one_at_place : (c p q : Point) → pos 0 <ℤ c.w → IsPoint p → IsPoint q → IsSamePlace c p → IsSamePlace c q → p ≡ q
one_at_place c p q hc hp hq sp sq =
    let s = lowest_same p.x p.y p.w q.x q.y q.w hp.range.positive hq.range.positive hp.lowest hq.lowest
    (same_number p.x p.w q.x q.w c.x c.w hc sp.0 sq.0) (same_number p.y p.w q.y q.w c.y c.w hc sp.1 sq.1) in
    λ i. record { x = s.0 i; y = s.1 i; w = s.2 i }
