use Rattle.own_edges.proofs.RanksWritten.{ArePlaced, AreOthersZero}
use Rattle.own_edges.proofs.ranks.places_by_name.Given as goal

abbrev pub invariant-loop-place : goal.invariant-loop-place
invariant-loop-place l = record {
  placed : ArePlaced l.keys l.ranks.items l.place;
  others : AreOthersZero l.keys l.ranks.items;
}
