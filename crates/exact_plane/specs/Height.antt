-- The heights of lines at the abscissa of a point.
use Rattle.std.specs.Prelude.{ℤ, ◌+ℤ◌, ◌*ℤ◌, neg_ℤ}
use Rattle.std.specs.declared.cmp.Ordering.{Ordering}
use Rattle.integers.specs.Ratio.{ratio_cmp}
use Rattle.exact_plane.specs.Line.{Line}
use Rattle.exact_plane.specs.Point.{Point}

-- the height of a line that isn't vertical, at the abscissa of a point, is height_over / height_under
abbrev pub height_over : Line → Point → ℤ
height_over l p = neg_ℤ (l.a *ℤ p.x +ℤ l.c *ℤ p.w)

abbrev pub height_under : Line → Point → ℤ
height_under l p = l.b *ℤ p.w

-- the order of the heights of two lines, neither vertical, at the abscissa of a point
abbrev pub height_cmp : Line → Line → Point → Ordering
height_cmp l m p = ratio_cmp (height_over l p) (height_under l p) (height_over m p) (height_under m p)
