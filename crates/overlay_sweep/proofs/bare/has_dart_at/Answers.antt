use Rattle.std.proofs.Common.{rules}
use Rattle.std.proofs.lemmas.List.Sorted.{IsPartitionPoint-from_clause}
use lib.Dec.{ltb}
use Rattle.slab_laws.specs.declared.rows.ListedDart.{ListedDart}
use Rattle.slab_laws.specs.SpansDrawn.{drawn}
use Rattle.overlay_sweep.proofs.BareVertices.{parted_sources, dart_told}
use Rattle.overlay_sweep.proofs.bare.has_dart_at.Goals as goal

pub returns : goal.returns
returns c =
    let g = drawn c.args.points.now c.args.edges.now in
    let rows = c.args.darts.now in
    dart_told g c.requires.plane c.requires.ascend rows c.requires.darts c.args.vertex c.requires.vertex c.partition_point-place.result
    (IsPartitionPoint-from_clause (λ (r : ListedDart). ltb r.source c.args.vertex) rows c.partition_point-place.result c.partition_point-place.ensures.partitioned (parted_sources g c.requires.plane c.requires.ascend rows c.requires.darts c.args.vertex) (λ a r f' k. (search rules, search rules)))
    c.goes_out.result c.goes_out.ensures
