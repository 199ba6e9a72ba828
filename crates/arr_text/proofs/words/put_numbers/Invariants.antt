use Rattle.std.proofs.Common.{◌≡◌, ◌++◌, take}
use Rattle.std.specs.Prelude.{flat_map}
use Rattle.slab_laws.specs.Text.{word}
use Rattle.arr_text.specs.Reading.{curve_words}
use Rattle.arr_text.proofs.words.put_numbers.Given as goal

abbrev pub invariant-loop-curve : goal.invariant-loop-curve
invariant-loop-curve l = l.out.items ≡ l.fn.out.items ++ flat_map word (curve_words (take l.curve-index l.curves))
