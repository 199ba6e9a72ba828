use Rattle.std.proofs.Common.{◌≡◌, true}
use Rattle.locate_trapezoid.specs.Bounds.{is_within}
use Rattle.locate_trapezoid.proofs.Built.{IsBuiltSoFar}
use Rattle.locate_trapezoid.proofs.building.graph_within.Given as goal

abbrev pub invariant-tests : goal.invariant-tests
invariant-tests l = record {
  built : IsBuiltSoFar l.records.graph l.test-items l.graph l.test-index;
  within : is_within l.graph l.bound ≡ true;
}
