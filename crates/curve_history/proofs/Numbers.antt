-- The number of the next curve.
use Rattle.std.proofs.Common.{◌≡◌, ◌<◌, ◌≤◌, ◌^◌, nat_lt, ℕ, Bool, true, false, not, Option, Some, None, IfSome, is_some, arith, refl, sym, Fits, w32}
use Rattle.std.proofs.lemmas.Bool.Decides.{nat_tests}
use Rattle.curve_history.specs.declared.history.TheConstants.{LAST_CURVE}
use Rattle.curve_history.specs.HistoryInMemory.{number_of}

not_past : (n : ℕ) → n < 2 ^ 32 → nat_lt LAST_CURVE n ≡ false
not_past n h = grind (arith, nat_tests)

pub spent_is : (next : Option ℕ) (b : Bool) → IfSome next (λ n. (1 ≤ n) × (n < 2 ^ 32)) → is_some next ≡ not b → b ≡ nat_lt LAST_CURVE (number_of next)
spent_is None true h e = refl
spent_is None false h e = absurd cc
spent_is (Some n) true h e = absurd cc
spent_is (Some n) false h e = sym (not_past n h.1)

pub fits : (n : ℕ) → n < 2 ^ 32 → Fits w32 n
fits n h = omega arith
