use Rattle.std.proofs.Common.{sym, subst}
use Rattle.plane_graphs.specs.Fit.{IsFit}
use Rattle.slab_laws.specs.Pieces.{present_of}
use Rattle.overlay_laws.proofs.UnitedGraph.{united_fit}
use Rattle.overlay_sweep.specs.LayerGraphs.{IsLayerGraph}
use Rattle.overlay_sweep.proofs.counted.graph_of_both.Goals as goal

pub graph_of-requires : goal.graph_of-requires
graph_of-requires c = subst IsFit (sym c.in_ok-united.ensures) (united_fit (present_of c.args.red.now) (present_of c.args.blue.now) c.requires.red c.requires.blue)

pub returns-clause-graph : goal.returns-clause-graph
returns-clause-graph c = subst (λ p. IsLayerGraph p c.in_ok-whole.whole) c.in_ok-united.ensures c.in_ok-whole.ensures
