use Rattle.std.proofs.Common.{rules}
use Rattle.std.proofs.lemmas.Bool.{eq-eqb}
use Rattle.integers.proofs.Tests.{other_number}
use Rattle.std.proofs.lemmas.List.Sorted.{IsPartitionPoint-from_clause}
use Rattle.arr_text.proofs.Firsts.{is_before, parted, first_is, first_is_none, first_is_past}
use Rattle.arr_text.proofs.darts.first_out_of.Goals as goal

pub returns-in-Some : goal.returns-in-Some
returns-in-Some c =
    let n = c.args.number in
    let ks = c.args.darts.now in
    let cut = IsPartitionPoint-from_clause (is_before n) ks c.partition_point-place.result c.partition_point-place.ensures.partitioned (parted n ks c.requires) (λ a r f' k. (search rules, search rules)) in
    let at = c.in-Some.ensures.lookup in
    first_is n ks c.requires c.partition_point-place.result cut c.in-Some.dart.now at.3.0 at.1 (eq-eqb _ _ c.if-dart-number.true)

pub returns-in_default : goal.returns-in_default
returns-in_default c =
    let n = c.args.number in
    let ks = c.args.darts.now in
    let cut = IsPartitionPoint-from_clause (is_before n) ks c.partition_point-place.result c.partition_point-place.ensures.partitioned (parted n ks c.requires) (λ a r f' k. (search rules, search rules)) in
    let at = c.in-Some.ensures.lookup in
    first_is_none n ks c.requires c.partition_point-place.result cut c.in-Some.dart.now at.3.0 at.1 (other_number _ _ c.if-dart-number.false)

pub returns-in_default-2 : goal.returns-in_default-2
returns-in_default-2 c =
    let n = c.args.number in
    let ks = c.args.darts.now in
    let cut = IsPartitionPoint-from_clause (is_before n) ks c.partition_point-place.result c.partition_point-place.ensures.partitioned (parted n ks c.requires) (λ a r f' k. (search rules, search rules)) in
    first_is_past n ks c.requires c.partition_point-place.result cut (rw c.in_default.is at c.get.ensures.lookup.3)
