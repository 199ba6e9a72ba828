use Rattle.locate_trapezoid.specs.declared.node.Test.TheVariants.{Edge}
use Rattle.locate_trapezoid.proofs.order.tests_of.Goals as goal

pub returns-clause-edges : goal.returns-clause-edges
returns-clause-edges g c = λ d f. c.in_ok-add_isolated.ensures.kept (Edge d) (c.in_ok-add_edges.ensures.edges d f)
