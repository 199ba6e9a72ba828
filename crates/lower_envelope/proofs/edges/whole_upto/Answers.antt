use Rattle.std.proofs.Common.{rules}
use Rattle.std.specs.Prelude.{pos, not, int_lt}
use Rattle.std.proofs.lemmas.Bool.{not-false}
use Rattle.std.proofs.lemmas.List.Sorted.{IsPartitionPoint-from_clause}
use Rattle.exact_plane.specs.WholeParts.{whole_parts}
use Rattle.lower_envelope.proofs.Numbers.{wholes_parted}
use Rattle.lower_envelope.proofs.edges.whole_upto.Goals as goal

pub returns-clause-rest : goal.returns-clause-rest
returns-clause-rest c =
    let at = c.args.at.now in
    let points = c.args.points.now in
    let cut = IsPartitionPoint-from_clause (λ v. not (int_lt (whole_parts at).x (whole_parts v).x)) points c.partition_point.result c.partition_point.ensures.partitioned (wholes_parted points at c.requires) (λ a r f' k. (search rules, search rules)) in
    λ k a b. not-false _ (cut.1 k (record { x = pos 0; y = pos 0; w = pos 0 }) a b)
