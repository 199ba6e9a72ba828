use Rattle.sweep_graphs.proofs.OpenStretches.{found, missed}
use Rattle.sweep_graphs.proofs.below.found_edge.Goals as goal

pub returns-in_err-stretch : goal.returns-in_err-stretch
returns-in_err-stretch c = missed c.args.under.now c.args.stretches.now c.from_residual.result c.in_err-stretch.ensures

pub returns : goal.returns
returns c = found c.args.under.now c.args.stretches.now c.in_ok-stretch.stretch c.edge_along.result c.in_ok-stretch.ensures c.edge_along.ensures
