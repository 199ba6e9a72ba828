use Rattle.std.proofs.Common.{◌≡◌, List, ℕ, [], ◌++◌, length}
use Rattle.outside.specs.Bytes.{Gains}
use Rattle.outside.proofs.transfer.write_all.Given as goal

abbrev pub invariant-writes : goal.invariant-writes
invariant-writes g l = (done : List ℕ) × (l.fn.bytes ≡ done ++ l.rest) × Gains (g.K.Sink.taken l.fn.sink) (g.K.Sink.taken l.sink) done × (g.K.Sink.faults l.sink ≡ g.K.Sink.faults l.fn.sink) × (l.fn.bytes ≡ [] → l.sink ≡ l.fn.sink)

abbrev pub decreases-writes : goal.decreases-writes
decreases-writes g l = length l.rest
