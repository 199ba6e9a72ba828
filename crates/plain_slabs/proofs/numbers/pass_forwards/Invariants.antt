use Rattle.plain_slabs.proofs.LabelTables.{IsPassed}
use Rattle.plain_slabs.proofs.numbers.pass_forwards.Given as goal

abbrev pub invariant-loop-link : goal.invariant-loop-link
invariant-loop-link l = IsPassed l.initial.table l.links l.link-index l.table l.changed
