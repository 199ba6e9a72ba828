use Rattle.std.proofs.Common.{rules}
use Rattle.std.specs.Prelude.{not}
use Rattle.std.proofs.lemmas.List.Sorted.{IsPartitionPoint-from_clause}
use Rattle.slab_laws.specs.Skeleton.{left_of}
use Rattle.lower_envelope.proofs.Numbers.{walls_parted, counted_to}
use Rattle.lower_envelope.proofs.edges.slab_by_walls.Goals as goal

pub returns : goal.returns
returns c =
    let at = c.args.at.now in
    let points = c.args.points.now in
    let cut = IsPartitionPoint-from_clause (λ v. not (left_of at v)) points c.partition_point.result c.partition_point.ensures.partitioned (walls_parted points at c.requires.order c.requires.at) (λ a r f' k. (search rules, search rules)) in
    counted_to (λ v. not (left_of at v)) points c.partition_point.result c.partition_point.ensures.bound cut
