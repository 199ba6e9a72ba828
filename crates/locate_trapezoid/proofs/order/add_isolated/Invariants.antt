use Rattle.slab_laws.specs.View.{IsOutOf}
use Rattle.slab_laws.specs.declared.names.DartId.{DartId}
use Rattle.locate_trapezoid.specs.declared.node.Test.TheVariants.{Vertex}
use Rattle.locate_trapezoid.proofs.Orders.{IsAddedSoFar}
use Rattle.locate_trapezoid.proofs.order.add_isolated.Given as goal

abbrev pub invariant-keys : goal.invariant-keys
invariant-keys g l = IsAddedSoFar (g.R.Darts.graph l.fn.records) l.key-items (λ k. Vertex k.name) (λ k. (d : DartId) × IsOutOf (g.R.Darts.graph l.fn.records) k.name d) l.fn.tests.items l.tests.items l.key-index
