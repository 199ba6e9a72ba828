use Rattle.std.proofs.Common.{◌≡◌, map, take}
use Rattle.arr_text.specs.Numbers.{numbered_dart}
use Rattle.arr_text.proofs.darts.all_numbered.Given as goal

abbrev pub invariant-loop-name : goal.invariant-loop-name
invariant-loop-name g l = l.darts.items ≡ map (numbered_dart (g.R.Darts.graph l.records)) (take l.name-index l.names)
