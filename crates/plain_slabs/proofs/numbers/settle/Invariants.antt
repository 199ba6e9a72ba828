use Rattle.std.proofs.Common.{sum}
use Rattle.plain_slabs.proofs.LabelTables.{Sound}
use Rattle.plain_slabs.proofs.numbers.settle.Given as goal

abbrev pub invariant-loop-table : goal.invariant-loop-table
invariant-loop-table l = Sound l.links l.table

abbrev pub decreases-loop-table : goal.decreases-loop-table
decreases-loop-table l = sum l.table
