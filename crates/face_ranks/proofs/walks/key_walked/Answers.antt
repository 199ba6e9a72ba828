use Rattle.std.proofs.Common.{List, [], ◌∷◌, ◌++◌, refl, sym, ap, ◌∙◌}
use Rattle.std.specs.Prelude.{find, ◌==◌}
use Rattle.slab_laws.specs.Kinds.{is_outer}
use Rattle.dcel_records.specs.declared.ranks.RankKey.{RankKey}
use Rattle.dcel_records.specs.RecordsView.{lists_of, tables_of}
use Rattle.face_ranks.proofs.KeysPushed.{none_pushed, cycle_has, fewer_cycles, one_pushed, one_passed, all_pushed}
use Rattle.face_ranks.proofs.KeysWalked.{find_no, find_yes}
use Rattle.face_ranks.proofs.LeadsRead.{outer_told}
use Rattle.face_ranks.proofs.walks.key_walked.Goals as goal

pub loop-cycle-init : goal.loop-cycle-init
loop-cycle-init c = let h = c.args.records.now in record { order = []; pushed = none_pushed h.graph (tables_of h) (lists_of h) [] refl; missed = refl }

pub kind-requires : goal.kind-requires
kind-requires c = let h = c.args.records.now in cycle_has h.graph (tables_of h) (lists_of h) c.loop-cycle.last c.in-Some.cycle c.face_laws.ensures.cycles_ascend c.in-Some.ensures.after

pub key_of-key-requires-clause-map : goal.key_of-key-requires-clause-map
key_of-key-requires-clause-map c = c.requires

pub key_of-key-requires-clause-cycle : goal.key_of-key-requires-clause-cycle
key_of-key-requires-clause-cycle c = let h = c.args.records.now in cycle_has h.graph (tables_of h) (lists_of h) c.loop-cycle.last c.in-Some.cycle c.face_laws.ensures.cycles_ascend c.in-Some.ensures.after

pub returns-then-is_of : goal.returns-then-is_of
returns-then-is_of c =
    let h = c.args.records.now in
    let i = c.loop-cycle.invariant in
    let key = c.key_of-key.result in
    let more : List RankKey = i.order ++ key ∷ [] in
    let pushed = one_pushed h.graph (tables_of h) (lists_of h) c.loop-cycle.last c.in-Some.cycle c.face_laws.ensures.cycles_ascend c.in-Some.ensures.after i.order i.pushed (ap is_outer (sym c.kind.ensures) ∙ sym (outer_told c.kind.result) ∙ sym c.eq.ensures ∙ c.if-eq.true) more key c.key_of-key.ensures refl in
    sym (ap (λ (ks : List RankKey). find (λ (k : RankKey). c.args.face.0 == k.face.0) ks) (sym pushed.so_far) ∙ find_yes (λ (k : RankKey). c.args.face.0 == k.face.0) i.order key _ i.missed (sym c.is_of.ensures ∙ c.if-is_of.true))

pub loop-cycle-smaller-else-is_of : goal.loop-cycle-smaller-else-is_of
loop-cycle-smaller-else-is_of c = let h = c.args.records.now in fewer_cycles h.graph (tables_of h) (lists_of h) c.loop-cycle.last c.in-Some.cycle c.face_laws.ensures.cycles_ascend c.in-Some.ensures.after

pub loop-cycle-smaller : goal.loop-cycle-smaller
loop-cycle-smaller c = let h = c.args.records.now in fewer_cycles h.graph (tables_of h) (lists_of h) c.loop-cycle.last c.in-Some.cycle c.face_laws.ensures.cycles_ascend c.in-Some.ensures.after

pub loop-cycle-preserved-else-is_of : goal.loop-cycle-preserved-else-is_of
loop-cycle-preserved-else-is_of c =
    let h = c.args.records.now in
    let i = c.loop-cycle.invariant in
    let key = c.key_of-key.result in
    let more : List RankKey = i.order ++ key ∷ [] in
    let pushed = one_pushed h.graph (tables_of h) (lists_of h) c.loop-cycle.last c.in-Some.cycle c.face_laws.ensures.cycles_ascend c.in-Some.ensures.after i.order i.pushed (ap is_outer (sym c.kind.ensures) ∙ sym (outer_told c.kind.result) ∙ sym c.eq.ensures ∙ c.if-eq.true) more key c.key_of-key.ensures refl in
    record { order = more; pushed = pushed; missed = find_no (λ (k : RankKey). c.args.face.0 == k.face.0) i.order key i.missed (sym c.is_of.ensures ∙ c.if-is_of.false) }

pub loop-cycle-preserved : goal.loop-cycle-preserved
loop-cycle-preserved c =
    let h = c.args.records.now in
    let i = c.loop-cycle.invariant in
    record { order = i.order; pushed = one_passed h.graph (tables_of h) (lists_of h) c.loop-cycle.last c.in-Some.cycle c.face_laws.ensures.cycles_ascend c.in-Some.ensures.after i.order i.pushed (ap is_outer (sym c.kind.ensures) ∙ sym (outer_told c.kind.result) ∙ sym c.eq.ensures ∙ c.if-eq.false); missed = i.missed }

pub returns : goal.returns
returns c =
    let h = c.args.records.now in
    let i = c.loop-cycle.invariant in
    sym i.missed ∙ ap (λ (ks : List RankKey). find (λ (k : RankKey). c.args.face.0 == k.face.0) ks) (all_pushed h.graph (tables_of h) (lists_of h) c.loop-cycle.last i.order (sym c.in_default.is ∙ c.cycle_after.ensures.after) i.pushed)
