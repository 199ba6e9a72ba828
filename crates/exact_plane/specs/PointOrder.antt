-- Points are ordered by x, then by y.
use Rattle.std.specs.Prelude.{zero, suc, ℤ, pos, negsuc}
use Rattle.std.specs.Ordering.{int_cmp, on, then_cmp}
use Rattle.std.specs.declared.cmp.Ordering.{Ordering}
use Rattle.integers.specs.Ratio.{ratio_cmp}
use Rattle.exact_plane.specs.Point.{Point}

-- a weight; in a triple that is no point's it may be another number, which counts as 1
abbrev pub weight : ℤ → ℤ
weight (pos zero) = pos 1
weight (pos (suc n)) = pos (suc n)
weight (negsuc n) = pos 1

abbrev pub by_x : Point → Point → Ordering
by_x p q = ratio_cmp p.x (weight p.w) q.x (weight q.w)

abbrev pub by_y : Point → Point → Ordering
by_y p q = ratio_cmp p.y (weight p.w) q.y (weight q.w)

-- the weight comes last, for triples that aren't in lowest terms: only then do different weights have one place
abbrev pub point_cmp : Point → Point → Ordering
point_cmp = then_cmp by_x (then_cmp by_y (on (λ p. p.w) int_cmp))
