use Rattle.std.proofs.Common.{◌≡◌, ◌-◌, ◌≤◌, length}
use Rattle.box_tree.proofs.box_tree.BoxTree.reserve.Given as goal

-- only nodes in reserve come, and not more than were asked for
abbrev pub invariant-nodes : goal.invariant-nodes
invariant-nodes l = record {
  root : l.self-inside.root ≡ l.initial.self-inside.root;
  deepest : l.self-inside.deepest ≡ l.initial.self-inside.deepest;
  grows : length l.initial.self-inside.spare.items ≤ length l.self-inside.spare.items;
  most : length l.self-inside.spare.items ≤ l.count;
}

abbrev pub decreases-nodes : goal.decreases-nodes
decreases-nodes l = l.count - length l.self-inside.spare.items
