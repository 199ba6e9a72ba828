use Rattle.std.proofs.Common.{take}
use Rattle.arr_text.specs.Numbers.{TellPlaces}
use Rattle.arr_text.proofs.numbers.numbers_of.Given as goal

abbrev pub invariant-loop-place : goal.invariant-loop-place
invariant-loop-place l = TellPlaces l.numbers.items (take l.place l.vertices)
