-- Ratios with positive denominators, in order.
use Rattle.std.specs.Prelude.{ℤ, ◌*ℤ◌}
use Rattle.std.specs.Ordering.{int_cmp}
use Rattle.std.specs.declared.cmp.Ordering.{Ordering}

-- the order of a / v and b / w
abbrev pub ratio_cmp : ℤ → ℤ → ℤ → ℤ → Ordering
ratio_cmp a v b w = int_cmp (a *ℤ w) (b *ℤ v)
