use Rattle.sweep_graphs.proofs.TraceGraph.{edges_below_are_highest}
use Rattle.sweep_graphs.proofs.edges_below_are_highest.Goals as goal

pub returns : goal.returns
returns c = edges_below_are_highest
