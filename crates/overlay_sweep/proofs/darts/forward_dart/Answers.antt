use Rattle.std.proofs.Common.{rules}
use Rattle.std.proofs.lemmas.List.Sorted.{IsPartitionPoint-from_clause}
use Rattle.slab_laws.specs.SpansDrawn.{drawn}
use Rattle.overlay_sweep.proofs.ForwardDarts.{is_before, parted_ends, found}
use Rattle.overlay_sweep.proofs.darts.forward_dart.Goals as goal

pub returns : goal.returns
returns c =
    let g = drawn c.args.points.now c.args.edges.now in
    let rows = c.args.darts.now in
    let e = c.args.edge.now in
    found g c.requires.plane c.requires.ascend rows c.requires.darts e c.requires.edge c.partition_point.result
    (IsPartitionPoint-from_clause (is_before e) rows c.partition_point.result c.partition_point.ensures.partitioned (parted_ends g c.requires.plane c.requires.ascend rows c.requires.darts e c.requires.edge) (λ a r f' k. (search rules, search rules)))
