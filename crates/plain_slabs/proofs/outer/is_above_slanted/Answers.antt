use Rattle.std.proofs.Common.{sym, ◌∙◌, subst}
use Rattle.slab_laws.specs.SpansDrawn.{edge_of}
use Rattle.slab_laws.specs.Skeleton.{HasWeight}
use Rattle.edge_predicates.proofs.CellsBeside.{reached_slants}
use Rattle.plain_slabs.proofs.outer.is_above_slanted.Goals as goal

pub is_below-requires-clause-others : goal.is_below-requires-clause-others
is_below-requires-clause-others c =
    let span = c.laws.ensures in
    let own = subst HasWeight (sym c.lower.ensures.value) c.lower.ensures.span.lower.range.positive in
    reached_slants (edge_of c.args.edge.now) c.lower.result span.lower.range.positive own span.upper.range.positive (sym c.reaches_right.ensures ∙ c.if-not-reaches_right.false)

pub is_below-requires-else-forward-clause-own : goal.is_below-requires-else-forward-clause-own
is_below-requires-else-forward-clause-own c =
    let span = c.laws.ensures in
    let own = subst HasWeight (sym c.lower.ensures.value) c.lower.ensures.span.lower.range.positive in
    reached_slants (edge_of c.args.edge.now) c.lower.result span.lower.range.positive own span.upper.range.positive (sym c.reaches_right.ensures ∙ c.if-not-reaches_right.false)
