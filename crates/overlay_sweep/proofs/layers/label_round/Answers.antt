use Rattle.std.proofs.Common.{◌≡◌, ◌+◌, ◌-◌, ℕ, List, length, get_or, cond, sym, ap, subst, ◌∙◌, arith}
use Rattle.std.specs.Prelude.{slice_set}
use Rattle.slab_laws.specs.declared.rows.ListedDart.{ListedDart}
use Rattle.slab_laws.specs.SpansDrawn.{drawn}
use Rattle.dart_orbits.proofs.Listed.{rows_length}
use Rattle.dart_orbits.specs.Ways.{row_in}
use Rattle.overlay_sweep.specs.LabelsAbove.{known_at, label_over}
use Rattle.overlay_sweep.proofs.LabelRounds.{IsTurning, begin, step, finish, placed_within}
use Rattle.overlay_sweep.proofs.layers.label_round.Goals as goal

pub turn-init : goal.turn-init
turn-init c =
    let g = drawn c.args.points.now c.args.edges.now in
    begin g c.requires.plane c.requires.ascend c.args.vertex c.requires.vertex c.args.orbits.now.around.items c.requires.orbits.around c.args.from c.args.to c.requires.round c.args.known.now c.args.below.now c.args.labels.now.items c.label_below-label.result c.requires.below c.requires.labels c.label_below-label.ensures

pub label_dart-label-requires-clause-dart : goal.label_dart-label-requires-clause-dart
label_dart-label-requires-clause-dart c =
    let g = drawn c.args.points.now c.args.edges.now in
    let o = c.args.orbits.now in
    let t = c.turn-test.true in
    let i = c.turn.invariant.high in
    let w = placed_within g c.requires.plane c.requires.ascend c.args.vertex c.requires.vertex o.around.items c.requires.orbits.around c.args.from c.args.to c.requires.round c.args.known.now o.darts.items c.requires.orbits.darts (c.turn.index - 1) (omega arith) in
    let p = c.place_at-place.ensures ∙ ap (λ (ps : List ℕ). get_or ps (c.turn.index - 1) 0) c.deref-in-turn.ensures.value in
    let n = ap length c.deref-in-turn-2.ensures.value in
    omega arith

pub label_dart-label-requires-clause-counted : goal.label_dart-label-requires-clause-counted
label_dart-label-requires-clause-counted c =
    c.turn.invariant.counted ∙ sym (ap length c.deref-in-turn-2.ensures.value ∙ ap length c.requires.orbits.darts ∙ rows_length (drawn c.args.points.now c.args.edges.now))

pub turn-preserved : goal.turn-preserved
turn-preserved c =
    let g = drawn c.args.points.now c.args.edges.now in
    let o = c.args.orbits.now in
    let ps = o.around.items in
    let known = c.args.known.now in
    let old = c.turn.labels.items in
    let k = c.place_at-place.result in
    let lab = c.label_dart-label.result in
    let s = c.turn.index - 1 in
    let l = c.turn-test.true in
    let e : c.turn.index ≡ c.turn.index - 1 + 1 = omega arith in
    step g c.requires.plane c.requires.ascend c.args.vertex c.requires.vertex ps c.requires.orbits.around c.args.from c.args.to c.requires.round known s c.turn.label old
    (subst (λ (i : ℕ). IsTurning g c.args.vertex ps c.args.from c.args.to known i c.turn.label old) e c.turn.invariant) (omega arith)
    o.darts.items k lab c.label_dart-label.new.labels.items c.requires.orbits.darts
    (c.place_at-place.ensures ∙ ap (λ (xs : List ℕ). get_or xs s 0) c.deref-in-turn.ensures.value)
    (c.label_dart-label.ensures.label ∙ ap (λ (rs : List ListedDart). cond (row_in rs k).forward (label_over (known_at known (row_in rs k).edge) c.turn.label) c.turn.label) c.deref-in-turn-2.ensures.value)
    (c.label_dart-label.ensures.labels ∙ ap (λ (rs : List ListedDart). cond (row_in rs k).forward (slice_set old k lab) old) c.deref-in-turn-2.ensures.value)

pub returns : goal.returns
returns c =
    let g = drawn c.args.points.now c.args.edges.now in
    finish g c.requires.plane c.requires.ascend c.args.vertex c.requires.vertex c.args.orbits.now.around.items c.requires.orbits.around c.args.from c.args.to c.requires.round c.args.known.now c.turn.index c.turn.label c.turn.labels.items (let a = c.turn-test.false in omega arith) c.turn.invariant
