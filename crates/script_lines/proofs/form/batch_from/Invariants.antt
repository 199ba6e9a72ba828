use Rattle.std.proofs.Common.{length}
use Rattle.script_lines.proofs.BatchNumbers.{Batched}
use Rattle.script_lines.proofs.form.batch_from.Given as goal

abbrev pub invariant-loop-rest : goal.invariant-loop-rest
invariant-loop-rest l = Batched l.fn.numbers l.rest l.points

abbrev pub decreases-loop-rest : goal.decreases-loop-rest
decreases-loop-rest l = length l.rest
