use Rattle.dcel_records.specs.StoredRows.{rank_at}
use Rattle.dcel_records.proofs.Ranked.{none_ranked, ranked_none, one_ranked, zero_written, rank_written, zero_kept, ranks_written, row_ranked}
use Rattle.slab.specs.Slab.{with_value}
use Rattle.dcel_records.proofs.ranks.give_ranks.Goals as goal

pub loop-place-init : goal.loop-place-init
loop-place-init c = record {
  kept = one_ranked c.args.faces.now c.args.faces.now 0 0 c.index_mut.result.now c.index_mut.ensures.value (none_ranked c.args.faces.now);
  zero = λ z. zero_written c.args.faces.now c.index_mut.result.now c.index_mut.ensures.value;
  ranked = λ z. ranked_none (rank_at (with_value c.args.faces.now 0 (row_ranked 0 c.index_mut.result.now))) c.args.order.now;
}

pub loop-place-preserved : goal.loop-place-preserved
loop-place-preserved c = record {
  kept = rank_written c.args.faces.now c.loop-place.faces c.args.order.now c.loop-place.place c.index-order-place.result c.index-order-place.is c.loop-place-test.true
      c.index_mut-in-loop-place.result.now c.index_mut-in-loop-place.ensures.value c.loop-place.invariant.kept;
  zero = zero_kept c.args.faces.now c.loop-place.faces c.args.order.now c.loop-place.place c.index-order-place.result c.index-order-place.is c.loop-place-test.true
      c.index_mut-in-loop-place.result.now c.index_mut-in-loop-place.ensures.value c.loop-place.invariant.zero;
  ranked = ranks_written c.args.faces.now c.loop-place.faces c.args.order.now c.loop-place.place c.index-order-place.result c.index-order-place.is c.loop-place-test.true
      c.index_mut-in-loop-place.result.now c.index_mut-in-loop-place.ensures.value c.loop-place.invariant.ranked;
}
