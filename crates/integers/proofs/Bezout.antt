-- Three numbers with no common divisor make 1 by a linear combination, and so a triple in lowest terms is one of its class alone.
use Rattle.std.proofs.Common.{◌≡◌, ℕ, zero, suc, ◌/◌, ◌%◌, ◌<◌, ◌≤◌, [], ◌∷◌, ℤ, pos, negsuc, ◌+ℤ◌, ◌-ℤ◌, ◌*ℤ◌, ◌<ℤ◌, ◌≤ℤ◌, unsigned_abs, refl, ap, sym, ◌∙◌, subst, arith, mod-lt, zero-lt-suc, le_refl, div-add-mod'}
use Rattle.std.specs.Int.{IsGcd}
use Rattle.std.proofs.lemmas.Int.{ints}
use Rattle.std.proofs.lemmas.Nat.Gcd.{IsGcd-from_zero, IsGcd-from_mod, dvd_trans}
use Rattle.integers.specs.Lowest.{IsLowest}
use Rattle.integers.proofs.Gcd.{divisor_of_lowest}
use Rattle.integers.proofs.Reify.{ring, sides}
use Rattle.integers.proofs.Signs.{mul_nonneg, cancel_pos, same_by, diff_zero, weak}

pub record Bezout (a b : ℕ) : Type 0 where
  pub gcd : ℕ
  pub u : ℤ
  pub v : ℤ
  pub is : IsGcd a b gcd
  pub sum : u *ℤ pos a +ℤ v *ℤ pos b ≡ pos gcd

step : (A B M Q G u v : ℤ) → Q *ℤ B +ℤ M ≡ A → u *ℤ B +ℤ v *ℤ M ≡ G → v *ℤ A +ℤ (u -ℤ v *ℤ Q) *ℤ B ≡ G
step A B M Q G u v e s =
    ap (λ z. v *ℤ z +ℤ (u -ℤ v *ℤ Q) *ℤ B) (sym e) ∙ ring (B ∷ M ∷ Q ∷ u ∷ v ∷ []) (search sides depth 40 fits 20000) tt ∙ s

euclid : (n a b : ℕ) → b ≤ n → Bezout a b
euclid n a zero h = record { gcd = a; u = pos 1; v = pos 0; is = IsGcd-from_zero a 0 refl; sum = omega (arith, ints) }
euclid zero a (suc b) h = absurd (omega arith)
euclid (suc n) a (suc b) h =
    let m : a % suc b < suc b = mod-lt a (zero-lt-suc b) in
    let r = euclid n (suc b) (a % suc b) (omega arith) in
    record {
      gcd = r.gcd;
      u = r.v;
      v = r.u -ℤ r.v *ℤ pos (a / suc b);
      is = IsGcd-from_mod a (suc b) r.gcd r.is;
      sum = step (pos a) (pos (suc b)) (pos (a % suc b)) (pos (a / suc b)) (pos r.gcd) r.u r.v (ap pos (div-add-mod' a (suc b))) r.sum;
    }

pub bezout : (a b : ℕ) → Bezout a b
bezout a b = euclid b a b (le_refl b)

abbrev sign : ℤ → ℤ
sign (pos n) = pos 1
sign (negsuc n) = negsuc 0

abs_is : (z : ℤ) → pos (unsigned_abs z) ≡ sign z *ℤ z
abs_is (pos n) = omega (arith, ints)
abs_is (negsuc n) = omega (arith, ints)

pub record Combined (x y w : ℤ) : Type 0 where
  pub u : ℤ
  pub v : ℤ
  pub t : ℤ
  pub is : u *ℤ x +ℤ v *ℤ y +ℤ t *ℤ w ≡ pos 1

combine : (x y w a b c p q r u v s t g h : ℤ) → a ≡ p *ℤ x → b ≡ q *ℤ y → c ≡ r *ℤ w → u *ℤ a +ℤ v *ℤ b ≡ g → s *ℤ g +ℤ t *ℤ c ≡ h → (s *ℤ u *ℤ p) *ℤ x +ℤ (s *ℤ v *ℤ q) *ℤ y +ℤ (t *ℤ r) *ℤ w ≡ h
combine x y w a b c p q r u v s t g h ea eb ec eg eh =
    ring (x ∷ y ∷ w ∷ p ∷ q ∷ r ∷ u ∷ v ∷ s ∷ t ∷ []) (search sides depth 40 fits 20000) tt
    ∙ (λ i. s *ℤ (u *ℤ sym ea i +ℤ v *ℤ sym eb i) +ℤ t *ℤ sym ec i)
    ∙ ap (λ z. s *ℤ z +ℤ t *ℤ c) eg ∙ eh

pub combined : (x y w : ℤ) → IsLowest x y w → Combined x y w
combined x y w l =
    let b = bezout (unsigned_abs x) (unsigned_abs y) in
    let c = bezout b.gcd (unsigned_abs w) in
    let one : c.gcd ≡ 1 = divisor_of_lowest x y w l c.gcd (dvd_trans c.gcd c.is.0 b.is.0) (dvd_trans c.gcd c.is.0 b.is.1) c.is.1 in
    record {
      u = c.u *ℤ b.u *ℤ sign x;
      v = c.u *ℤ b.v *ℤ sign y;
      t = c.v *ℤ sign w;
      is = combine x y w (pos (unsigned_abs x)) (pos (unsigned_abs y)) (pos (unsigned_abs w)) (sign x) (sign y) (sign w) b.u b.v c.u c.v (pos b.gcd) (pos 1)
          (abs_is x) (abs_is y) (abs_is w) b.sum (c.sum ∙ ap pos one);
    }

at_most_multiple : (m a b : ℤ) → pos 0 <ℤ a → pos 0 <ℤ b → b ≡ m *ℤ a → a ≤ℤ b
at_most_multiple m a b ha hb e =
    let p : pos 0 <ℤ (m *ℤ a) = subst (λ z. pos 0 <ℤ z) e hb in
    let q : pos 0 <ℤ m = cancel_pos {x = m} ha p in
    let q' : pos 0 ≤ℤ (m -ℤ pos 1) = omega (arith, ints) in
    let r : pos 0 ≤ℤ ((m -ℤ pos 1) *ℤ a) = mul_nonneg q' (weak ha) in
    let s : (m -ℤ pos 1) *ℤ a ≡ m *ℤ a -ℤ a = ring (m ∷ a ∷ []) (search sides depth 40 fits 20000) tt in
    omega (arith, ints)

weight : (X1 Y1 W1 X2 Y2 W2 u v t : ℤ) → u *ℤ X1 +ℤ v *ℤ Y1 +ℤ t *ℤ W1 ≡ pos 1 → X1 *ℤ W2 ≡ X2 *ℤ W1 → Y1 *ℤ W2 ≡ Y2 *ℤ W1 → W2 ≡ (u *ℤ X2 +ℤ v *ℤ Y2 +ℤ t *ℤ W2) *ℤ W1
weight X1 Y1 W1 X2 Y2 W2 u v t e ex ey =
    ring (W2 ∷ []) (search sides depth 40 fits 20000) tt
    ∙ ap (λ z. z *ℤ W2) (sym e)
    ∙ ring (X1 ∷ Y1 ∷ W1 ∷ W2 ∷ u ∷ v ∷ t ∷ []) (search sides depth 40 fits 20000) tt
    ∙ (λ i. u *ℤ ex i +ℤ v *ℤ ey i +ℤ t *ℤ W1 *ℤ W2)
    ∙ ring (X2 ∷ Y2 ∷ W1 ∷ W2 ∷ u ∷ v ∷ t ∷ []) (search sides depth 40 fits 20000) tt

same_part : (a b k m : ℤ) → pos 0 <ℤ k → k ≡ m → a *ℤ m ≡ b *ℤ k → a ≡ b
same_part a b k m h e f =
    let g : a *ℤ k ≡ b *ℤ k = ap (λ z. a *ℤ z) e ∙ f in
    same_by {a = a} {b = b} h (diff_zero g) (ring (a ∷ b ∷ k ∷ []) (search sides depth 40 fits 20000) tt)

pub lowest_same : (X1 Y1 W1 X2 Y2 W2 : ℤ) → pos 0 <ℤ W1 → pos 0 <ℤ W2 → IsLowest X1 Y1 W1 → IsLowest X2 Y2 W2 → X1 *ℤ W2 ≡ X2 *ℤ W1 → Y1 *ℤ W2 ≡ Y2 *ℤ W1 → (X1 ≡ X2) × (Y1 ≡ Y2) × (W1 ≡ W2)
lowest_same X1 Y1 W1 X2 Y2 W2 w1 w2 l1 l2 ex ey =
    let c1 = combined X1 Y1 W1 l1 in
    let c2 = combined X2 Y2 W2 l2 in
    let up' = at_most_multiple (c1.u *ℤ X2 +ℤ c1.v *ℤ Y2 +ℤ c1.t *ℤ W2) W1 W2 w1 w2 (weight X1 Y1 W1 X2 Y2 W2 c1.u c1.v c1.t c1.is ex ey) in
    let down' = at_most_multiple (c2.u *ℤ X1 +ℤ c2.v *ℤ Y1 +ℤ c2.t *ℤ W1) W2 W1 w2 w1 (weight X2 Y2 W2 X1 Y1 W1 c2.u c2.v c2.t c2.is (sym ex) (sym ey)) in
    let e : W1 ≡ W2 = omega (arith, ints) in
    (same_part X1 X2 W1 W2 w1 e ex, same_part Y1 Y2 W1 W2 w1 e ey, e)
