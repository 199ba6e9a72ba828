use Rattle.std.proofs.Common.{◌≡◌, false}
use Rattle.locate_trapezoid.specs.declared.node.Test.TheVariants.{Edge}
use Rattle.locate_trapezoid.proofs.Orders.{IsAddedSoFar, is_ahead}
use Rattle.locate_trapezoid.proofs.order.add_edges.Given as goal

abbrev pub invariant-keys : goal.invariant-keys
invariant-keys g l = IsAddedSoFar (g.R.Darts.graph l.fn.records) l.key-items (λ k. Edge k.name) (λ k. is_ahead k ≡ false) l.fn.tests.items l.tests.items l.key-index
