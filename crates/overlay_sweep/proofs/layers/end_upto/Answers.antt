use Rattle.std.proofs.Common.{rules, arith}
use Rattle.std.proofs.lemmas.List.Sorted.{IsPartitionPoint-from_clause}
use Rattle.overlay_sweep.proofs.Cuts.{cut_is_end}
use Rattle.overlay_sweep.proofs.LabelRounds.{is_upto, parted_upto}
use Rattle.overlay_sweep.proofs.layers.end_upto.Goals as goal

pub returns-then-is_cut-clause-within : goal.returns-then-is_cut-clause-within
returns-then-is_cut-clause-within c = let a = ((c.is_cut.ensures c.if-is_cut.true).1 0).0 in omega arith

pub returns-then-is_cut-clause-cut : goal.returns-then-is_cut-clause-cut
returns-then-is_cut-clause-cut c = cut_is_end (is_upto c.args.darts.now c.args.around.now c.requires c.args.vertex) c.args.around.now _ (parted_upto c.args.darts.now c.args.around.now c.requires c.args.vertex) (c.is_cut.ensures c.if-is_cut.true)

pub returns-clause-cut : goal.returns-clause-cut
returns-clause-cut c =
    let rows = c.args.darts.now in
    let ps = c.args.around.now in
    let n = c.partition_point.result in
    IsPartitionPoint-from_clause (is_upto rows ps c.requires c.args.vertex) ps n c.partition_point.ensures.partitioned (parted_upto rows ps c.requires c.args.vertex) (λ a r f' k. (search rules, search rules))
