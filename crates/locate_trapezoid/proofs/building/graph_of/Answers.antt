use Rattle.std.proofs.Common.{sym, subst}
use Rattle.locate_trapezoid.specs.Graphs.{AreEdgesIn}
use Rattle.locate_trapezoid.proofs.building.graph_of.Goals as goal

pub graph_by_tries-requires-clause-edges : goal.graph_by_tries-requires-clause-edges
graph_by_tries-requires-clause-edges c = subst (AreEdgesIn c.args.records.now.graph) (sym c.deref.ensures.value) c.in_ok-tests.ensures.edges
