-- Signs of whole numbers.
use Rattle.std.specs.Prelude.{ℤ, pos}
use Rattle.std.specs.Ordering.{int_cmp}
use Rattle.std.specs.declared.cmp.Ordering.{Ordering}
use Rattle.std.specs.declared.cmp.Ordering.TheVariants.{Less, Equal, Greater}
use Rattle.exact_plane.specs.declared.sides.Sign.{Sign}
use Rattle.exact_plane.specs.declared.sides.Sign.TheVariants.{Minus, Zero, Plus}

-- the sign of what compares so with 0
abbrev pub sign_by : Ordering → Sign
sign_by Less = Minus
sign_by Equal = Zero
sign_by Greater = Plus

-- the sign of a number
abbrev pub sign_of : ℤ → Sign
sign_of z = sign_by (int_cmp z (pos 0))
