use Rattle.std.proofs.Common.{sym, ◌∙◌, subst}
use Rattle.slab_laws.specs.SpansDrawn.{edge_of}
use Rattle.slab_laws.specs.Skeleton.{HasWeight}
use Rattle.edge_predicates.proofs.CellsBeside.{reached_slants}
use Rattle.plain_slabs.proofs.left_cells.is_below_beside.Goals as goal

pub is_below-requires-clause-own : goal.is_below-requires-clause-own
is_below-requires-clause-own c =
    let own = c.laws.ensures in
    let other = subst HasWeight (sym c.lower.ensures.value) c.lower.ensures.span.lower.range.positive in
    reached_slants (edge_of c.args.edge.now) c.lower.result own.lower.range.positive other own.upper.range.positive (sym c.reaches_right.ensures ∙ c.if-reaches_right.true)
