use Rattle.sweep_graphs.proofs.TraceGraph.{traces_are_graphs}
use Rattle.sweep_graphs.proofs.traces_are_graphs.Goals as goal

pub returns : goal.returns
returns c = traces_are_graphs
