use Rattle.std.proofs.Common.{rules, refl}
use Rattle.std.proofs.lemmas.List.Sorted.{IsPartitionPoint-from_clause}
use Rattle.overlay_sweep.proofs.PiecesAlong.{is_before, parted_stretches, first_within, first_piece}
use Rattle.overlay_sweep.proofs.pieces.piece_along.Goals as goal

pub bounds-stretches-first : goal.bounds-stretches-first
bounds-stretches-first c =
    let xs = c.args.stretches.now in
    let e = c.args.edge.now in
    let cut = IsPartitionPoint-from_clause (is_before e) xs c.partition_point-first.result c.partition_point-first.ensures.partitioned (parted_stretches xs c.requires.ascend e) (λ a r f' k. (search rules, search rules)) in
    first_within xs c.requires.ascend e c.requires.along c.partition_point-first.result cut

pub returns : goal.returns
returns c =
    let xs = c.args.stretches.now in
    let e = c.args.edge.now in
    let cut = IsPartitionPoint-from_clause (is_before e) xs c.partition_point-first.result c.partition_point-first.ensures.partitioned (parted_stretches xs c.requires.ascend e) (λ a r f' k. (search rules, search rules)) in
    first_piece xs c.requires.ascend e c.requires.along c.partition_point-first.result cut _ _ refl
