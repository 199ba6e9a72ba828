use Rattle.std.proofs.Common.{negsuc, take}
use Rattle.box_tree.specs.Entries.{AllAbove}
use Rattle.box_tree.proofs.deepest.laws.Given as goal

abbrev pub invariant-loop-entry : goal.invariant-loop-entry
invariant-loop-entry l = AllAbove (negsuc 2147483647) (take l.entry-index l.entries)
