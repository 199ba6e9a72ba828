use Rattle.std.proofs.Common.{List, [], ◌∷◌, ◌++◌, length, is_lt, refl, sym, ap, ◌∙◌, arith}
use Rattle.std.specs.List.{count_by}
use Rattle.slab_laws.specs.Kinds.{is_outer}
use Rattle.dcel_records.specs.declared.ranks.RankKey.{RankKey}
use Rattle.dcel_records.specs.RankOrders.{key_cmp}
use Rattle.dcel_records.specs.RecordsView.{lists_of, tables_of}
use Rattle.face_ranks.proofs.KeysPushed.{none_pushed, cycle_has, fewer_cycles, one_pushed, one_passed, key_fits, all_pushed}
use Rattle.face_ranks.proofs.KeysWalked.{count_yes, count_no, count_fits}
use Rattle.face_ranks.proofs.LeadsRead.{outer_told}
use Rattle.face_ranks.proofs.walks.count_walked.Goals as goal

pub loop-cycle-init : goal.loop-cycle-init
loop-cycle-init c = let h = c.args.records.now in record { order = []; pushed = none_pushed h.graph (tables_of h) (lists_of h) [] refl; counted = refl }

pub kind-requires : goal.kind-requires
kind-requires c = let h = c.args.records.now in cycle_has h.graph (tables_of h) (lists_of h) c.loop-cycle.last c.in-Some.cycle c.face_laws.ensures.cycles_ascend c.in-Some.ensures.after

pub key_of-key-requires-clause-map : goal.key_of-key-requires-clause-map
key_of-key-requires-clause-map c = c.requires

pub key_of-key-requires-clause-cycle : goal.key_of-key-requires-clause-cycle
key_of-key-requires-clause-cycle c = let h = c.args.records.now in cycle_has h.graph (tables_of h) (lists_of h) c.loop-cycle.last c.in-Some.cycle c.face_laws.ensures.cycles_ascend c.in-Some.ensures.after

pub next_within-count-requires : goal.next_within-count-requires
next_within-count-requires c =
    let h = c.args.records.now in
    let i = c.loop-cycle.invariant in
    let fits = key_fits h.graph (tables_of h) (lists_of h) c.loop-cycle.last c.in-Some.cycle c.face_laws.ensures.cycles_ascend c.in-Some.ensures.after i.order i.pushed (ap is_outer (sym c.kind.ensures) ∙ sym (outer_told c.kind.result) ∙ sym c.eq.ensures ∙ c.if-eq.true) in
    let a = count_fits (λ (k : RankKey). is_lt (key_cmp k c.args.own.now)) i.order c.loop-cycle.count (length (tables_of h).cycles) i.counted fits in
    let b = c.counts-cycles.ensures.cycles in
    omega (arith, a, b)

pub loop-cycle-smaller-then-comes_before : goal.loop-cycle-smaller-then-comes_before
loop-cycle-smaller-then-comes_before c = let h = c.args.records.now in fewer_cycles h.graph (tables_of h) (lists_of h) c.loop-cycle.last c.in-Some.cycle c.face_laws.ensures.cycles_ascend c.in-Some.ensures.after

pub loop-cycle-smaller-else-comes_before : goal.loop-cycle-smaller-else-comes_before
loop-cycle-smaller-else-comes_before c = let h = c.args.records.now in fewer_cycles h.graph (tables_of h) (lists_of h) c.loop-cycle.last c.in-Some.cycle c.face_laws.ensures.cycles_ascend c.in-Some.ensures.after

pub loop-cycle-smaller : goal.loop-cycle-smaller
loop-cycle-smaller c = let h = c.args.records.now in fewer_cycles h.graph (tables_of h) (lists_of h) c.loop-cycle.last c.in-Some.cycle c.face_laws.ensures.cycles_ascend c.in-Some.ensures.after

pub loop-cycle-preserved-then-comes_before : goal.loop-cycle-preserved-then-comes_before
loop-cycle-preserved-then-comes_before c =
    let h = c.args.records.now in
    let i = c.loop-cycle.invariant in
    let key = c.key_of-key.result in
    let more : List RankKey = i.order ++ key ∷ [] in
    let pushed = one_pushed h.graph (tables_of h) (lists_of h) c.loop-cycle.last c.in-Some.cycle c.face_laws.ensures.cycles_ascend c.in-Some.ensures.after i.order i.pushed (ap is_outer (sym c.kind.ensures) ∙ sym (outer_told c.kind.result) ∙ sym c.eq.ensures ∙ c.if-eq.true) more key c.key_of-key.ensures refl in
    record { order = more; pushed = pushed; counted = c.next_within-count.ensures ∙ count_yes (λ (k : RankKey). is_lt (key_cmp k c.args.own.now)) i.order key c.loop-cycle.count i.counted (sym c.comes_before.ensures ∙ c.if-comes_before.true) }

pub loop-cycle-preserved-else-comes_before : goal.loop-cycle-preserved-else-comes_before
loop-cycle-preserved-else-comes_before c =
    let h = c.args.records.now in
    let i = c.loop-cycle.invariant in
    let key = c.key_of-key.result in
    let more : List RankKey = i.order ++ key ∷ [] in
    let pushed = one_pushed h.graph (tables_of h) (lists_of h) c.loop-cycle.last c.in-Some.cycle c.face_laws.ensures.cycles_ascend c.in-Some.ensures.after i.order i.pushed (ap is_outer (sym c.kind.ensures) ∙ sym (outer_told c.kind.result) ∙ sym c.eq.ensures ∙ c.if-eq.true) more key c.key_of-key.ensures refl in
    record { order = more; pushed = pushed; counted = count_no (λ (k : RankKey). is_lt (key_cmp k c.args.own.now)) i.order key c.loop-cycle.count i.counted (sym c.comes_before.ensures ∙ c.if-comes_before.false) }

pub loop-cycle-preserved : goal.loop-cycle-preserved
loop-cycle-preserved c =
    let h = c.args.records.now in
    let i = c.loop-cycle.invariant in
    record { order = i.order; pushed = one_passed h.graph (tables_of h) (lists_of h) c.loop-cycle.last c.in-Some.cycle c.face_laws.ensures.cycles_ascend c.in-Some.ensures.after i.order i.pushed (ap is_outer (sym c.kind.ensures) ∙ sym (outer_told c.kind.result) ∙ sym c.eq.ensures ∙ c.if-eq.false); counted = i.counted }

pub returns : goal.returns
returns c =
    let h = c.args.records.now in
    let i = c.loop-cycle.invariant in
    i.counted ∙ ap (λ (ks : List RankKey). count_by (λ (k : RankKey). is_lt (key_cmp k c.args.own.now)) ks) (all_pushed h.graph (tables_of h) (lists_of h) c.loop-cycle.last i.order (sym c.in_default.is ∙ c.cycle_after.ensures.after) i.pushed)
