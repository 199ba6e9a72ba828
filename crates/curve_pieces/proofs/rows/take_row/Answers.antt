use Rattle.curve_pieces.proofs.Indexed.{row_fewer}
use Rattle.curve_pieces.proofs.Taken.{before_still, after_still, prior_still, next_still, curves_without, order_without, kept_without, pieces_else}
use Rattle.curve_pieces.proofs.rows.take_row.Goals as goal

pub set_after-requires : goal.set_after-requires
set_after-requires c = before_still c.args.rows.now c.args.name c.remove-gone.result c.remove-gone.ensures.value c.remove-gone.new.self c.remove-gone.ensures.updates _ _ c.requires.order.listed

pub set_before-requires : goal.set_before-requires
set_before-requires c = after_still c.args.rows.now c.args.name c.remove-gone.result c.remove-gone.ensures.value c.remove-gone.new.self c.remove-gone.ensures.updates c.set_after.new.rows c.set_after.ensures _ _ c.requires.order.listed

pub set_next-requires : goal.set_next-requires
set_next-requires c = prior_still c.args.rows.now c.args.name c.remove-gone.result c.remove-gone.ensures.value c.remove-gone.new.self c.remove-gone.ensures.updates c.set_after.new.rows c.set_after.ensures c.set_before.new.rows c.set_before.ensures c.requires.curves.0 c.requires.curves.1

pub set_prior-requires : goal.set_prior-requires
set_prior-requires c = next_still c.args.rows.now c.args.name c.remove-gone.result c.remove-gone.ensures.value c.remove-gone.new.self c.remove-gone.ensures.updates c.set_after.new.rows c.set_after.ensures c.set_before.new.rows c.set_before.ensures c.set_next.new.rows c.set_next.ensures c.requires.curves.0 c.requires.curves.1

pub returns-clause-order : goal.returns-clause-order
returns-clause-order c = kept_without c.args.rows.now c.args.name c.remove-gone.result c.remove-gone.ensures.value c.remove-gone.new.self c.remove-gone.ensures.updates c.set_after.new.rows c.set_after.ensures c.set_before.new.rows c.set_before.ensures c.set_next.new.rows c.set_next.ensures c.set_prior.new.rows c.set_prior.ensures c.args.ends.now c.requires.order c.ends_without.result c.ends_without.ensures.first c.ends_without.ensures.last

pub returns-clause-names : goal.returns-clause-names
returns-clause-names c = order_without c.args.rows.now c.args.name c.remove-gone.result c.remove-gone.ensures.value c.remove-gone.new.self c.remove-gone.ensures.updates c.set_after.new.rows c.set_after.ensures c.set_before.new.rows c.set_before.ensures c.set_next.new.rows c.set_next.ensures c.set_prior.new.rows c.set_prior.ensures c.args.ends.now c.requires.order c.ends_without.result c.ends_without.ensures.first c.ends_without.ensures.last

pub returns-clause-others : goal.returns-clause-others
returns-clause-others c = pieces_else c.args.rows.now c.args.name c.remove-gone.result c.remove-gone.ensures.value c.remove-gone.new.self c.remove-gone.ensures.updates c.set_after.new.rows c.set_after.ensures c.set_before.new.rows c.set_before.ensures c.set_next.new.rows c.set_next.ensures c.set_prior.new.rows c.set_prior.ensures

pub returns-clause-curves : goal.returns-clause-curves
returns-clause-curves c = curves_without c.args.rows.now c.args.name c.remove-gone.result c.remove-gone.ensures.value c.remove-gone.new.self c.remove-gone.ensures.updates c.set_after.new.rows c.set_after.ensures c.set_before.new.rows c.set_before.ensures c.set_next.new.rows c.set_next.ensures c.set_prior.new.rows c.set_prior.ensures

pub returns-clause-fewer : goal.returns-clause-fewer
returns-clause-fewer c = row_fewer c.args.rows.now c.set_prior.new.rows c.args.ends.now c.ends_without.result c.requires.order c.args.name (returns-clause-others c) c.remove-gone.result c.remove-gone.ensures.value (returns-clause-names c)
