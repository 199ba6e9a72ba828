use Rattle.std.proofs.Common.{◌≡◌, ◌-◌, length, take}
use Rattle.std.specs.List.{All}
use Rattle.box_tree.specs.declared.entry.Entry.{Entry}
use Rattle.box_tree.proofs.deepest.take_out.Given as goal

-- no entry was taken out, and none of those that were looked at is the one
abbrev pub invariant-places : goal.invariant-places
invariant-places l = record {
  same : l.entries ≡ l.fn.entries;
  none : All (λ (e : Entry). e ≡ l.entry → ⊥) (take l.place l.entries.items);
}

abbrev pub decreases-places : goal.decreases-places
decreases-places l = length l.entries.items - l.place
