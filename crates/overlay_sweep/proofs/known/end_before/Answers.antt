use Rattle.std.proofs.Common.{rules}
use Rattle.std.proofs.lemmas.List.Sorted.{IsPartitionPoint-from_clause}
use Rattle.overlay_sweep.proofs.Cuts.{cut_is_end}
use Rattle.overlay_sweep.proofs.OwnAlong.{is_before, parted_by}
use Rattle.overlay_sweep.proofs.known.end_before.Goals as goal

pub returns-then-is_cut : goal.returns-then-is_cut
returns-then-is_cut c = cut_is_end (is_before c.args.bar.now) c.args.stretches.now _ (parted_by c.args.stretches.now c.args.bar.now c.requires) (c.is_cut.ensures c.if-is_cut.true)

pub returns : goal.returns
returns c =
    let xs = c.args.stretches.now in
    let w = c.args.bar.now in
    IsPartitionPoint-from_clause (is_before w) xs c.partition_point.result c.partition_point.ensures.partitioned (parted_by xs w c.requires) (λ a r f' k. (search rules, search rules))
