-- `int_cmp` against the order, and the order of ratios by cross products.
use Rattle.std.proofs.Common.{◌≡◌, [], ◌∷◌, ℤ, pos, ◌-ℤ◌, ◌*ℤ◌, ◌<ℤ◌, neg_ℤ, refl, ap, sym, ◌∙◌, arith, Ordering, Less, Equal, Greater}
use Rattle.std.specs.Ordering.{int_cmp}
use Rattle.std.specs.Cmp.{IsTotalOrder}
use Rattle.std.proofs.lemmas.Cmp.{int_ranked, int_cmp_total}
use Rattle.std.proofs.lemmas.Int.{ints}
use Rattle.integers.specs.Ratio.{ratio_cmp}
use Rattle.integers.proofs.Reify.{ring, sides}
use Rattle.integers.proofs.Signs.{same_using, mul_pos, diff_pos, diff_zero, below_by, same_by, sum_pos}

pub less_out : (a b : ℤ) → int_cmp a b ≡ Less → a <ℤ b
less_out a b e = int_ranked a b Less (sym e)

pub equal_out : (a b : ℤ) → int_cmp a b ≡ Equal → a ≡ b
equal_out a b e = int_ranked a b Equal (sym e)

pub greater_out : (a b : ℤ) → int_cmp a b ≡ Greater → b <ℤ a
greater_out a b e = int_ranked a b Greater (sym e)

pub less_in : (a b : ℤ) → a <ℤ b → int_cmp a b ≡ Less
less_in a b h = grind (arith, ints)

pub equal_in : (a b : ℤ) → a ≡ b → int_cmp a b ≡ Equal
equal_in a b h = grind (arith, ints)

pub greater_in : (a b : ℤ) → b <ℤ a → int_cmp a b ≡ Greater
greater_in a b h = grind (arith, ints)

-- equal differences up to positive factors compare alike
by_cmp : (a b c d k m : ℤ) → pos 0 <ℤ k → pos 0 <ℤ m → (b -ℤ a) *ℤ k ≡ (d -ℤ c) *ℤ m → (o : Ordering) → int_cmp c d ≡ o → int_cmp a b ≡ o
by_cmp a b c d k m hk hm e Less f = less_in a b (below_by hk (mul_pos (diff_pos (less_out c d f)) hm) e)
by_cmp a b c d k m hk hm e Equal f = equal_in a b (same_by {a = a} {b = b} hk (ap (λ z. z *ℤ m) (diff_zero {a = c} {b = d} (equal_out c d f)) ∙ omega (arith, ints)) e)
by_cmp a b c d k m hk hm e Greater f =
    greater_in a b (below_by hk (mul_pos (diff_pos (greater_out c d f)) hm)
    (ring (a ∷ b ∷ k ∷ []) (search sides depth 40 fits 20000) tt ∙ ap neg_ℤ e ∙ ring (c ∷ d ∷ m ∷ []) (search sides depth 40 fits 20000) tt))

pub same_cmp : (a b c d : ℤ) {k m : ℤ} → pos 0 <ℤ k → pos 0 <ℤ m → (b -ℤ a) *ℤ k ≡ (d -ℤ c) *ℤ m → int_cmp a b ≡ int_cmp c d
same_cmp a b c d {k} {m} hk hm e = by_cmp a b c d k m hk hm e (int_cmp c d) refl

-- ---- ratios
pub cross_trans : (X1 W1 X2 W2 X3 W3 : ℤ) → pos 0 <ℤ W1 → pos 0 <ℤ W2 → pos 0 <ℤ W3 → (X1 *ℤ W2) <ℤ (X2 *ℤ W1) → (X2 *ℤ W3) <ℤ (X3 *ℤ W2) → (X1 *ℤ W3) <ℤ (X3 *ℤ W1)
cross_trans X1 W1 X2 W2 X3 W3 w1 w2 w3 h k =
    below_by w2 (sum_pos (mul_pos (diff_pos h) w3) (mul_pos (diff_pos k) w1))
    (ring (X1 ∷ W1 ∷ X2 ∷ W2 ∷ X3 ∷ W3 ∷ []) (search sides depth 40 fits 20000) tt)

pub cross_congr : (X1 W1 X2 W2 X3 W3 : ℤ) → pos 0 <ℤ W1 → pos 0 <ℤ W2 → X1 *ℤ W2 ≡ X2 *ℤ W1 → int_cmp (X1 *ℤ W3) (X3 *ℤ W1) ≡ int_cmp (X2 *ℤ W3) (X3 *ℤ W2)
cross_congr X1 W1 X2 W2 X3 W3 w1 w2 e =
    same_cmp (X1 *ℤ W3) (X3 *ℤ W1) (X2 *ℤ W3) (X3 *ℤ W2) w2 w1
    (same_using _ _ (neg_ℤ W3) _ _ e (ring (X1 ∷ W1 ∷ X2 ∷ W2 ∷ X3 ∷ W3 ∷ []) (search sides depth 40 fits 20000) tt))

-- ratios with positive denominators are in a total order
pub ratio_total : {K : Type 0} (numerator denominator : K → ℤ) → ((p : K) → pos 0 <ℤ denominator p) → IsTotalOrder (λ p q. ratio_cmp (numerator p) (denominator p) (numerator q) (denominator q))
ratio_total n d ok = record {
  antisymm = λ p q. int_cmp_total.antisymm (n p *ℤ d q) (n q *ℤ d p);
  trans = λ p q r h k. less_in _ _ (cross_trans (n p) (d p) (n q) (d q) (n r) (d r) (ok p) (ok q) (ok r) (less_out _ _ h) (less_out _ _ k));
  congr = λ p q r h. cross_congr (n p) (d p) (n q) (d q) (n r) (d r) (ok p) (ok q) (equal_out _ _ h);
}
