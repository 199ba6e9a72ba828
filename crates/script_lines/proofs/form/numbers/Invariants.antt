use Rattle.script_lines.specs.Words.{words}
use Rattle.script_lines.proofs.Numbers.{Took}
use Rattle.script_lines.proofs.form.numbers.Given as goal

abbrev pub invariant-loop-slot : goal.invariant-loop-slot
invariant-loop-slot g l = Took (words l.line) g.row.N l.slot-index l.slot-items l.are_read (words l.rest)
