use Rattle.own_edges.proofs.RanksWritten.{none_placed, none_written, one_placed, others_zero, all_placed}
use Rattle.own_edges.proofs.ranks.places_by_name.Goals as goal

pub loop-place-init : goal.loop-place-init
loop-place-init c = record {
  placed = none_placed c.args.keys.now c.new-ranks.result.items;
  others = none_written c.args.keys.now c.new-ranks.result.items c.new-ranks.ensures.items;
}

pub loop-place-preserved : goal.loop-place-preserved
loop-place-preserved c =
    let ks = c.args.keys.now in
    let i = c.loop-place.place in
    record {
      placed = one_placed ks c.loop-place.ranks.items c.write_at.new.table.items i c.index-keys-place.result c.index-keys-place.is c.loop-place-test.true c.in_ok-write_at.ensures c.requires c.loop-place.invariant.placed;
      others = others_zero ks c.loop-place.ranks.items c.write_at.new.table.items i c.index-keys-place.result c.index-keys-place.is c.loop-place-test.true c.in_ok-write_at.ensures c.loop-place.invariant.others;
    }

pub returns : goal.returns
returns c = record {
  ranked = all_placed c.args.keys.now c.loop-place.ranks.items c.loop-place.place c.loop-place-test.false c.loop-place.invariant.placed;
  others = c.loop-place.invariant.others;
}
