use Rattle.slab_laws.specs.View.{next_in}
use Rattle.boundary_cycles.proofs.NamedWalks.{ways}
use Rattle.cycle_writers.proofs.RunWritten.{IsWriting}
use Rattle.cycle_writers.proofs.runs.put_run.Given as goal

abbrev pub invariant-run : goal.invariant-run
invariant-run l = IsWriting l.fn.records l.records l.fn.from l.to l.dart l.cycle

abbrev pub decreases-run : goal.decreases-run
decreases-run l = ways l.fn.records.graph l.to (next_in l.fn.records.graph l.dart)
