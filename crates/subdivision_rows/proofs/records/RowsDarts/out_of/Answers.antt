use Rattle.std.proofs.Common.{◌≡◌, List, length, arith, rules, sym, ap, subst, ◌∙◌, true, false}
use Rattle.std.specs.List.Sorted.{IsPartitionedBy, IsPartitionPoint}
use Rattle.std.proofs.lemmas.List.Sorted.{IsPartitionPoint-from_clause}
use lib.Dec.{ltb}
use Rattle.plane_graphs.proofs.Sorting.{any_default}
use Rattle.slab_laws.specs.declared.rows.ListedDart.{ListedDart}
use Rattle.subdivision_rows.proofs.Items.{no_row}
use Rattle.subdivision_rows.proofs.DartLists.{out_is, none_out}
use Rattle.subdivision_rows.proofs.SourcePlaces.{parted_sources, none_there}
use Rattle.subdivision_rows.proofs.records.RowsDarts.out_of.Goals.{else-place-len-via-then-place-len+else-index-v, else-place-len-via-else-place-len}
use Rattle.subdivision_rows.proofs.records.RowsDarts.out_of.Goals as goal

pub returns-then-index-v-clause-some : goal.returns-then-index-v-clause-some
returns-then-index-v-clause-some c =
    out_is c.self.inside.lists c.args.self.now c.self.invariant c.self.view_is c.args.v c.partition_point-place.result c.index.result.now (let n = c.self.inside.lists.darts.ok.0 in let t = c.if-place-len.true in let m = c.len.ensures in omega arith) c.index.ensures c.if-index-v.true

pub returns-clause-none : goal.returns-clause-none
returns-clause-none c =
    let a = c.self.inside.lists in
    let v = c.args.v.0 in
    let n = c.partition_point-place.result in
    let cut =
    subst (λ (rows : List ListedDart). IsPartitionPoint (λ (r : ListedDart). ltb r.source v ≡ true) (λ (r : ListedDart). ltb r.source v ≡ false) rows n) c.deref.ensures.value
    (IsPartitionPoint-from_clause (λ (r : ListedDart). ltb r.source v) c.deref.result.now n c.partition_point-place.ensures.partitioned
    (subst (λ (rows : List ListedDart). IsPartitionedBy (λ (r : ListedDart). ltb r.source v) rows) (sym c.deref.ensures.value) (parted_sources a c.self.invariant v))
    (λ a r f' k. (search rules, search rules)))
    in
    none_out a c.args.self.now c.self.invariant c.self.view_is c.args.v (length a.darts.items) (omega arith)
    (none_there a c.self.invariant v n cut
    (elim c.else-place-len.branch [
      | else-place-len-via-then-place-len+else-index-v w ↦
          λ N e. w.if-index-v.false (ap (λ (r : ListedDart). r.source) (w.index.ensures ∙ sym (any_default a.darts.items n no_row w.index.result.now N)) ∙ e)
      | else-place-len-via-else-place-len w ↦ λ N e. absurd (let k = a.darts.ok.0 in let t = w.if-place-len.false in let m = c.len.ensures in omega arith)
    ]))
