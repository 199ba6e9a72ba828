use Rattle.std.proofs.Common.{sym, ◌∙◌}
use Rattle.sweep_graphs.proofs.OpenStretches.{at_place}
use Rattle.sweep_graphs.proofs.below.edge_of_open.Goals as goal

pub returns-in-Some : goal.returns-in-Some
returns-in-Some c = at_place c.args.under.now c.args.stretches.now c.args.place c.in-Some.stretch.now c.edge_along.result c.in-Some.ensures.lookup.0 c.in-Some.ensures.lookup.1 (sym c.was_open.ensures ∙ c.if-was_open.true) c.edge_along.ensures
