use Rattle.std.proofs.Common.{sym, subst, ◌∙◌}
use Rattle.std.specs.Prelude.{pos, ◌<ℤ◌}
use Rattle.exact_plane.specs.Height.{height_cmp}
use Rattle.edge_predicates.proofs.Heights.{higher_is, not_vertical}
use Rattle.edge_predicates.proofs.order.is_line_below.Goals as goal

pub above_at-requires : goal.above_at-requires
above_at-requires c = record {
  first_not_vertical = subst (λ l. pos 0 <ℤ l.b) (sym c.line.ensures) (not_vertical c.args.other.now c.laws-2.ensures c.requires.others);
  second_not_vertical = subst (λ l. pos 0 <ℤ l.b) (sym c.line-2.ensures) (not_vertical c.args.edge.now c.laws.ensures c.requires.own);
}

pub returns : goal.returns
returns c =
    c.is_gt.ensures
    ∙ higher_is c.args.edge.now c.args.other.now c.args.point.now c.above_at.result c.laws.ensures c.laws-2.ensures c.laws-3.ensures.range.positive c.requires.own c.requires.others
    (c.above_at.ensures.value ∙ (λ i. height_cmp (c.line.ensures i) (c.line-2.ensures i) c.args.point.now))
