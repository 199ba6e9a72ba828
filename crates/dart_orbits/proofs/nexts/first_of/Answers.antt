use Rattle.std.proofs.Common.{rules, refl, arith}
use Rattle.std.proofs.lemmas.List.Sorted.{IsPartitionPoint-from_clause}
use Rattle.dart_orbits.proofs.Neighbours.{is_before, parted_before, upto, first_found}
use Rattle.dart_orbits.proofs.nexts.first_of.Goals as goal

pub bounds-around-first : goal.bounds-around-first
bounds-around-first c =
    let rows = c.args.darts.now in
    let ps = c.args.around.now in
    let v = c.args.source in
    let s = c.requires.some in
    let cut = IsPartitionPoint-from_clause (is_before rows ps c.requires.sources v s.0 s.1 s.2) ps c.partition_point-first.result c.partition_point-first.ensures.partitioned (parted_before rows ps c.requires.sources v s.0 s.1 s.2) (λ a r f' k. (search rules, search rules)) in
    let u = upto rows ps c.requires.sources v s.0 s.1 s.2 c.partition_point-first.result cut in
    let l = s.1 in
    omega arith

pub returns : goal.returns
returns c =
    let rows = c.args.darts.now in
    let ps = c.args.around.now in
    let v = c.args.source in
    let s = c.requires.some in
    let cut = IsPartitionPoint-from_clause (is_before rows ps c.requires.sources v s.0 s.1 s.2) ps c.partition_point-first.result c.partition_point-first.ensures.partitioned (parted_before rows ps c.requires.sources v s.0 s.1 s.2) (λ a r f' k. (search rules, search rules)) in
    first_found rows ps c.requires.sources v s.0 s.1 s.2 c.partition_point-first.result cut _ refl
