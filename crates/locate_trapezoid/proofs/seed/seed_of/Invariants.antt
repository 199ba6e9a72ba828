use Rattle.std.proofs.Common.{◌≡◌, take, fold}
use Rattle.std.specs.Hash.{u64}
use Rattle.std.specs.Hash.DefaultHasher as sip
use Rattle.locate_trapezoid.specs.Seeds.{hashed}
use Rattle.locate_trapezoid.proofs.seed.seed_of.Given as goal

abbrev pub invariant-tests : goal.invariant-tests
invariant-tests l = l.state ≡ fold (hashed l.records.graph) (fold sip.write sip.initial (u64 l.fn.last)) (take l.test-index l.tests)
