use Rattle.std.proofs.Common.{pos, sym, ◌∙◌}
use Rattle.std.specs.Prelude.{ℤ}
use Rattle.integers.proofs.Tests.{lt_is}
use Rattle.exact_plane.specs.Line.{side_of}
use Rattle.edge_predicates.proofs.Sides.{above_zero}
use Rattle.piece_zone.proofs.told.is_on_left.Goals as goal

pub returns-in-Plus : goal.returns-in-Plus
returns-in-Plus c = λ e. let z : ℤ = side_of c.args.line.now c.args.point.now in lt_is (pos 0) z (above_zero z (sym c.side.ensures ∙ c.in-Plus.is))
