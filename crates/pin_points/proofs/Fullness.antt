-- What it says of as many pins that the limit is met, or isn't.
use Rattle.std.proofs.Common.{◌≡◌, ℕ, ◌<◌, ◌≤◌, true, false, arith}
use Rattle.std.proofs.lemmas.Bool.Decides.{nat_tests}
use Rattle.std.specs.Prelude.{nat_le}

pub full_out : (limit all pins : ℕ) → nat_le limit all ≡ true → pins ≡ all → limit ≤ pins
full_out limit all pins t e = grind (arith, nat_tests)

pub not_full_out : (limit all pins : ℕ) → nat_le limit all ≡ false → pins ≡ all → pins < limit
not_full_out limit all pins t e = grind (arith, nat_tests)
