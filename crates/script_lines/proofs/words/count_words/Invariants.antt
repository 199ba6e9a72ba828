use Rattle.std.proofs.Common.{◌≡◌, ◌+◌, length}
use Rattle.script_lines.specs.Words.{words}
use Rattle.script_lines.proofs.words.count_words.Given as goal

abbrev pub invariant-loop-rest : goal.invariant-loop-rest
invariant-loop-rest l = l.count + length (words l.line) ≡ length (words l.fn.line)

abbrev pub decreases-loop-rest : goal.decreases-loop-rest
decreases-loop-rest l = length (words l.line)
