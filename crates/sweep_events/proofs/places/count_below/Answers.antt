use Rattle.std.proofs.Common.{rules}
use Rattle.std.proofs.lemmas.List.Sorted.{IsPartitionPoint-from_clause}
use Rattle.sweep_events.specs.Places.{is_below}
use Rattle.sweep_events.proofs.places.count_below.Goals as goal

pub returns-clause-cut : goal.returns-clause-cut
returns-clause-cut c =
    IsPartitionPoint-from_clause (is_below c.args.pieces.now c.args.point.now) c.args.status.now c.partition_point.result c.partition_point.ensures.partitioned c.requires (λ a r f' k. (search rules, search rules))
