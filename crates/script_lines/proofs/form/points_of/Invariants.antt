use Rattle.std.proofs.Common.{length}
use Rattle.script_lines.proofs.PathNumbers.{Paired}
use Rattle.script_lines.proofs.form.points_of.Given as goal

abbrev pub invariant-loop-rest : goal.invariant-loop-rest
invariant-loop-rest l = Paired l.fn.numbers l.rest l.points

abbrev pub decreases-loop-rest : goal.decreases-loop-rest
decreases-loop-rest l = length l.rest
