-- What tests of numbers, and orders, tell.
use Rattle.std.proofs.Common.{◌≡◌, ℕ, ap, nat_cmp, Equal, is_eq, Ordering, Less, Greater, refl, true, is_lt, Bool, false, ◌<◌, arith, eqb, ◌&&◌, inl, inr, ◌≤◌, ℤ, ◌<ℤ◌, ◌≢◌, sym, ◌==◌}
use Rattle.std.specs.Ordering.{ordering_then}
use Rattle.std.specs.Prelude.{not, ◌⊎◌, nat_lt, pos}
use Rattle.std.proofs.lemmas.Bool.Decides.{nat_tests}
use Rattle.std.proofs.lemmas.Int.{ints}
use lib.Signed.{lt_z}

pub nat_exact : (m n : ℕ) → nat_cmp m n ≡ Equal → m ≡ n
nat_exact m n e = grind (arith, nat_tests)

pub nat_tied : (m n : ℕ) → m ≡ n → nat_cmp m n ≡ Equal
nat_tied m n e = grind (arith, nat_tests)

pub nat_more : (m n : ℕ) → n < m → nat_cmp m n ≡ Greater
nat_more m n l = grind (arith, nat_tests)

pub less_then : (r s t : Ordering) → ordering_then r s ≡ Less → ordering_then r (ordering_then s t) ≡ Less
less_then Less s t e = refl
less_then Equal Less t e = refl
less_then Equal Equal t e = cc
less_then Equal Greater t e = cc
less_then Greater s t e = cc

pub is_less : (t : Ordering) → is_lt t ≡ true → t ≡ Less
is_less Less h = refl
is_less Equal h = cc
is_less Greater h = cc

pub then_rest : (s t : Ordering) → ordering_then s t ≡ Equal → t ≡ Equal
then_rest Less t e = cc
then_rest Equal t e = e
then_rest Greater t e = cc

pub not_true : (a : Bool) → (a ≡ true → ⊥) → a ≡ false
not_true true h = absurd (h refl)
not_true false h = refl

pub is_equal : (t : Ordering) → is_eq t ≡ true → t ≡ Equal
is_equal Less h = cc
is_equal Equal h = refl
is_equal Greater h = cc

pub not_not : (b : Bool) → not (not b) ≡ b
not_not true = refl
not_not false = refl

pub nat_less : (m n : ℕ) → m < n → nat_cmp m n ≡ Less
nat_less m n l = grind (arith, nat_tests)

pub less_nat : (m n : ℕ) → nat_cmp m n ≡ Less → m < n
less_nat m n h = grind (arith, nat_tests)

pub not_tied : (m n : ℕ) → m < n → nat_cmp m n ≡ Equal → ⊥
not_tied m n l e = grind (arith, nat_tests)

pub number_ties : (m n : ℕ) → eqb m n ≡ is_eq (nat_cmp m n)
number_ties m n = grind (arith, nat_tests)

-- keys are equal where their order does not tell them apart
pub both_equal : (a b : Ordering) → is_eq a && is_eq b ≡ is_eq (ordering_then a b)
both_equal Less b = refl
both_equal Equal b = refl
both_equal Greater b = refl

-- what decides comes first
pub first_less : (o u : Ordering) → ordering_then o u ≡ Less → (o ≡ Less) ⊎ (o ≡ Equal)
first_less Less u h = inl refl
first_less Equal u h = inr refl
first_less Greater u h = cc

pub nat_lt_yes : (m a : ℕ) → m < a → nat_lt m a ≡ true
nat_lt_yes m a h = grind (arith, nat_tests)

pub nat_lt_no : (m a : ℕ) → a ≤ m → nat_lt m a ≡ false
nat_lt_no m a h = grind (arith, nat_tests)

pub lt_yes : (a b : ℤ) → a <ℤ b → lt_z a b ≡ true
lt_yes a b h = let e : true ≡ lt_z a b = omega (arith, ints) in sym e

pub lt_no : (a b : ℤ) → (a <ℤ b → ⊥) → lt_z a b ≡ false
lt_no a b f = not_true (lt_z a b) (λ e. f (omega (arith, ints)))

pub lt_is : (a b : ℤ) → lt_z a b ≡ true → a <ℤ b
lt_is a b e = omega (arith, ints)

pub zero_below : (z : ℤ) → z ≡ pos 0 → lt_z z (pos 0) ≡ false
zero_below z e = ap (λ x. lt_z x (pos 0)) e

pub zero_above : (z : ℤ) → z ≡ pos 0 → lt_z (pos 0) z ≡ false
zero_above z e = ap (λ x. lt_z (pos 0) x) e

pub other_number : (m n : ℕ) → m ≢ n → (m == n) ≡ false
other_number m n h = grind (arith, nat_tests)

pub same_number : (n : ℕ) → (n == n) ≡ true
same_number n = grind (arith, nat_tests)

-- a number told from another one either way round
pub turned_test : (m n : ℕ) → (m == n) ≡ (n == m)
turned_test m n = grind (arith, nat_tests)
