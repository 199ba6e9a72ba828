use Rattle.std.proofs.Common.{ℕ}
use Rattle.std.specs.Int.{IsGcd}
use Rattle.integers.proofs.divisor.greatest_common_divisor.Given as goal

-- a greatest common divisor of what is left is one of the two numbers
abbrev pub invariant-steps : goal.invariant-steps
invariant-steps l = (g : ℕ) → IsGcd l.x l.y g → IsGcd l.fn.a l.fn.b g

abbrev pub decreases-steps : goal.decreases-steps
decreases-steps l = l.y
