use Rattle.std.proofs.Common.{rules}
use Rattle.std.proofs.lemmas.List.Sorted.{IsPartitionPoint-from_clause}
use Rattle.overlay_sweep.specs.OwnEdges.{bar_at}
use Rattle.overlay_sweep.proofs.OwnOrder.{is_before, parted_own, level_at}
use Rattle.overlay_sweep.proofs.own.place_from.Goals as goal

pub returns-clause-within : goal.returns-clause-within
returns-clause-within c =
    let ks = c.args.edges.now in
    let w = bar_at c.args.part.now in
    let n = c.partition_point.result in
    let cut = IsPartitionPoint-from_clause (is_before w) ks n c.partition_point.ensures.partitioned (parted_own ks c.requires.sorted w) (λ a r f' k. (search rules, search rules)) in
    (level_at ks c.requires.sorted w n cut c.requires.some.0 c.requires.some.1 c.requires.some.2).0

pub returns-clause-begins : goal.returns-clause-begins
returns-clause-begins c =
    let ks = c.args.edges.now in
    let w = bar_at c.args.part.now in
    let n = c.partition_point.result in
    let cut = IsPartitionPoint-from_clause (is_before w) ks n c.partition_point.ensures.partitioned (parted_own ks c.requires.sorted w) (λ a r f' k. (search rules, search rules)) in
    (level_at ks c.requires.sorted w n cut c.requires.some.0 c.requires.some.1 c.requires.some.2).1
