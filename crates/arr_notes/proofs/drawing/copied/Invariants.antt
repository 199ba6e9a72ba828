use Rattle.std.proofs.Common.{◌≡◌, take}
use Rattle.arr_notes.proofs.drawing.copied.Given as goal

abbrev pub invariant-loop-value : goal.invariant-loop-value
invariant-loop-value g l = l.sequence ≡ take l.value-index l.values
