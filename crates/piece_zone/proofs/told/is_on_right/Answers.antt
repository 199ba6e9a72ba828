use Rattle.std.proofs.Common.{pos, sym, ◌∙◌}
use Rattle.std.specs.Prelude.{ℤ}
use Rattle.integers.proofs.Tests.{lt_is}
use Rattle.exact_plane.specs.Line.{side_of}
use Rattle.edge_predicates.proofs.Sides.{below_zero}
use Rattle.piece_zone.proofs.told.is_on_right.Goals as goal

pub returns-in-Minus : goal.returns-in-Minus
returns-in-Minus c = λ e. let z : ℤ = side_of c.args.line.now c.args.point.now in lt_is z (pos 0) (below_zero z (sym c.side.ensures ∙ c.in-Minus.is))
