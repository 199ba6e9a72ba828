use Rattle.std.proofs.Common.{Less, Equal, Greater, sym, ap, ◌∙◌}
use Rattle.std.specs.Ordering.{is_gt}
use Rattle.piece_location.proofs.OnLines.{leant_told}
use Rattle.piece_location.proofs.heights.is_higher.Goals as goal

pub returns-in-Less : goal.returns-in-Less
returns-in-Less c = sym (ap is_gt (leant_told c.args.point.now c.args.first.now c.args.second.now Less c.laws.ensures.range.positive c.requires.first_not_vertical c.requires.second_not_vertical (sym c.in-Less.is ∙ c.above_at.ensures.value)))

pub returns-in-Equal : goal.returns-in-Equal
returns-in-Equal c =
    c.is_gt.ensures ∙ ap is_gt (c.slope_order.ensures.slopes c.requires.first_not_vertical c.requires.second_not_vertical)
    ∙ sym (ap is_gt (leant_told c.args.point.now c.args.first.now c.args.second.now Equal c.laws.ensures.range.positive c.requires.first_not_vertical c.requires.second_not_vertical (sym c.in-Equal.is ∙ c.above_at.ensures.value)))

pub returns-in-Greater : goal.returns-in-Greater
returns-in-Greater c = sym (ap is_gt (leant_told c.args.point.now c.args.first.now c.args.second.now Greater c.laws.ensures.range.positive c.requires.first_not_vertical c.requires.second_not_vertical (sym c.in-Greater.is ∙ c.above_at.ensures.value)))
