use Rattle.std.proofs.Common.{◌≡◌, ◌++◌, take}
use Rattle.std.specs.Prelude.{flat_map, map}
use Rattle.slab_laws.specs.Text.{word}
use Rattle.slab_laws.specs.OverlayText.{lettered}
use Rattle.arr_text.proofs.words.put_layer.Given as goal

abbrev pub invariant-loop-curve : goal.invariant-loop-curve
invariant-loop-curve l = l.out.items ≡ l.fn.out.items ++ flat_map word (lettered l.letter (map (λ c. c.0) (take l.curve-index l.curves)))
