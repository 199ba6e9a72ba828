-- What tests of whole numbers say, and tests joined by `&&`.
use Rattle.std.proofs.Common.{◌≡◌, Bool, true, false, ◌&&◌, ◌||◌, ◌⊎◌, inl, inr, ℤ, ◌<ℤ◌, ◌≤ℤ◌, refl, ap, ◌∙◌, arith}
use Rattle.std.specs.Prelude.{int_lt}
use Rattle.std.specs.Ordering.{int_eq}
use Rattle.std.proofs.lemmas.Int.{ints}

pub lt_out : (a b : ℤ) → int_lt a b ≡ true → a <ℤ b
lt_out a b h = grind (arith, ints)

pub ge_out : (a b : ℤ) → int_lt a b ≡ false → b ≤ℤ a
ge_out a b h = grind (arith, ints)

pub lt_in : (a b : ℤ) → a <ℤ b → int_lt a b ≡ true
lt_in a b h = grind (arith, ints)

pub ge_in : (a b : ℤ) → b ≤ℤ a → int_lt a b ≡ false
ge_in a b h = grind (arith, ints)

pub eq_out : (a b : ℤ) → int_eq a b ≡ true → a ≡ b
eq_out a b h = grind (arith, ints)

pub ne_out : (a b : ℤ) → int_eq a b ≡ false → a ≡ b → ⊥
ne_out a b h e = grind (arith, ints)

pub eq_in : (a b : ℤ) → a ≡ b → int_eq a b ≡ true
eq_in a b h = grind (arith, ints)

pub both : (a b : Bool) → (a && b) ≡ true → (a ≡ true) × (b ≡ true)
both true b h = (refl, h)
both false b h = absurd cc

pub both_in : (a b : Bool) → a ≡ true → b ≡ true → (a && b) ≡ true
both_in a b h k = ap (λ x. x && b) h ∙ k

pub or_out : (a b : Bool) → a || b ≡ true → (a ≡ true) ⊎ (b ≡ true)
or_out true b h = inl refl
or_out false b h = inr h

-- no test is passed and failed
pub clash : (b : Bool) → b ≡ true → b ≡ false → ⊥
clash true g h = cc
clash false g h = cc
