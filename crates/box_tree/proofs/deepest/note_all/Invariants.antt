use Rattle.std.proofs.Common.{◌≡◌, ◌+◌, ◌≤◌, ◌++◌, take}
use Rattle.std.specs.Prelude.{vec_len, vec_capacity}
use Rattle.box_tree.specs.Entries.{names_meeting}
use Rattle.box_tree.proofs.deepest.note_all.Given as goal

-- the names of those that were looked at were added
abbrev pub invariant-loop-entry : goal.invariant-loop-entry
invariant-loop-entry l = record {
  items : l.found.items ≡ l.fn.found.items ++ names_meeting l.area (take l.entry-index l.entries);
  len : vec_len l.found ≤ vec_len l.fn.found + l.entry-index;
  capacity : vec_capacity l.found ≡ vec_capacity l.fn.found;
}
