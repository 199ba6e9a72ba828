use Rattle.std.proofs.Common.{◌≡◌, take}
use Rattle.record_orders.specs.CycleKeys.{ranked_faces, AreRanks}
use Rattle.record_orders.proofs.ranks.ranks_of.Given as goal

abbrev pub invariant-loop-cycle : goal.invariant-loop-cycle
invariant-loop-cycle g l = record {
  ranks : AreRanks l.ranks.items l.faces.items;
  faces : l.faces.items ≡ ranked_faces (g.R.Faced.faces l.records) (take l.cycle-index l.cycles);
}
