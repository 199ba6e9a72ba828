-- The sizes of sums and products.
use Rattle.std.proofs.Common.{ℕ, ◌+◌, ◌*◌, ◌≤◌, ◌<◌, ℤ, pos, negsuc, ◌+ℤ◌, ◌-ℤ◌, ◌*ℤ◌, ◌<ℤ◌, ◌≤ℤ◌, neg_ℤ, unsigned_abs, sym, subst, arith, mul-le-mul}
use Rattle.std.proofs.lemmas.Int.{ints, unsigned_abs-mul}
use Rattle.std.proofs.lemmas.Nat.{mul-lt}

pub size_sum : (a b : ℤ) (m n : ℕ) → unsigned_abs a ≤ m → unsigned_abs b ≤ n → unsigned_abs (a +ℤ b) ≤ m + n
size_sum a b m n h k = omega (arith, ints)

pub size_minus : (a b : ℤ) (m n : ℕ) → unsigned_abs a ≤ m → unsigned_abs b ≤ n → unsigned_abs (a -ℤ b) ≤ m + n
size_minus a b m n h k = omega (arith, ints)

pub size_product : (a b : ℤ) (m n : ℕ) → unsigned_abs a ≤ m → unsigned_abs b ≤ n → unsigned_abs (a *ℤ b) ≤ m * n
size_product a b m n h k = subst (λ z. z ≤ m * n) (sym (unsigned_abs-mul a b)) (mul-le-mul h k)

pub size_product_below : (a b : ℤ) (m n : ℕ) → unsigned_abs a < m → unsigned_abs b < n → unsigned_abs (a *ℤ b) < m * n
size_product_below a b m n h k = subst (λ z. z < m * n) (sym (unsigned_abs-mul a b)) (mul-lt (unsigned_abs a) (unsigned_abs b) m n h k)

-- |x| ≤ m w, where w > 0, as two comparisons and back
pub size_in : (x w : ℤ) (m : ℕ) → pos 0 <ℤ w → x ≤ℤ (pos m *ℤ w) → neg_ℤ x ≤ℤ (pos m *ℤ w) → unsigned_abs x ≤ m * unsigned_abs w
size_in x (pos n) m h p q = omega (arith, ints)
size_in x (negsuc n) m h p q = absurd (omega (arith, ints))

pub size_out : (x w : ℤ) (m : ℕ) → pos 0 <ℤ w → unsigned_abs x ≤ m * unsigned_abs w → (x ≤ℤ (pos m *ℤ w)) × (neg_ℤ x ≤ℤ (pos m *ℤ w))
size_out x (pos n) m h p = (omega (arith, ints), omega (arith, ints))
size_out x (negsuc n) m h p = absurd (omega (arith, ints))
