use Rattle.std.proofs.Common.{◌≡◌, ◌++◌, take}
use Rattle.std.specs.List.{flat_map}
use Rattle.planar_run.specs.Text.{ends_line}
use Rattle.planar_run.proofs.text.put_ends_lines.Given as goal

abbrev pub invariant-loop-ends : goal.invariant-loop-ends
invariant-loop-ends l = l.reply ≡ l.fn.reply ++ flat_map (ends_line l.word) (take l.ends-index l.pairs)
