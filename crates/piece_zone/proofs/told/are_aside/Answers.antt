use Rattle.std.proofs.Common.{pos, sym, ◌∙◌, inl, inr}
use Rattle.std.specs.Prelude.{ℤ}
use Rattle.integers.proofs.Tests.{lt_is}
use Rattle.exact_plane.specs.Line.{side_of}
use Rattle.edge_predicates.proofs.Sides.{above_zero, below_zero}
use Rattle.piece_zone.proofs.told.are_aside.Goals as goal

pub returns-in-Plus : goal.returns-in-Plus
returns-in-Plus c = λ e. let z : ℤ = side_of c.args.line.now c.args.p.now in inl (lt_is (pos 0) z (above_zero z (sym c.side.ensures ∙ c.in-Plus.is)), c.is_on_left.ensures e)

pub returns-in-Minus : goal.returns-in-Minus
returns-in-Minus c = λ e. let z : ℤ = side_of c.args.line.now c.args.p.now in inr (lt_is z (pos 0) (below_zero z (sym c.side.ensures ∙ c.in-Minus.is)), c.is_on_right.ensures e)
