use Rattle.std.proofs.Common.{◌≡◌, take, vec_capacity}
use Rattle.slab_laws.proofs.moved.copied.Given as goal

abbrev pub invariant-loop-item : goal.invariant-loop-item
invariant-loop-item g l = record {
  items : l.copy.items ≡ take l.item-index l.items.items;
  room : vec_capacity l.copy ≡ vec_capacity l.items;
}
