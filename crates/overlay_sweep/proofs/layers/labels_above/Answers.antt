use Rattle.std.proofs.Common.{◌<◌, ◌≤◌, ℕ, List, length, sym, subst, arith}
use Rattle.slab_laws.specs.declared.rows.ListedDart.{ListedDart}
use Rattle.dart_orbits.specs.Around.{source_placed, AreBySource}
use Rattle.slab_laws.specs.SpansDrawn.{drawn}
use Rattle.overlay_sweep.proofs.LabelRounds.{by_source, start_pass, end_pass, round, next_pass}
use Rattle.overlay_sweep.proofs.layers.labels_above.Goals as goal

pub loop-vertex-init : goal.loop-vertex-init
loop-vertex-init c =
    let g = drawn c.args.points.now c.args.edges.now in
    let o = c.args.orbits.now in
    start_pass g c.requires.plane o.darts.items c.requires.orbits.darts o.around.items c.requires.orbits.around c.args.known.now c.resize.new.self.items (let a = c.in_ok-resize.ensures.len in let b = c.len.ensures in omega arith)

pub count_upto-to-requires : goal.count_upto-to-requires
count_upto-to-requires c =
    let g = drawn c.args.points.now c.args.edges.now in
    let o = c.args.orbits.now in
    subst (λ (ps : List ℕ). AreBySource c.deref.result.now ps) (sym c.deref-in-loop-vertex.ensures.value) (subst (λ (rs : List ListedDart). AreBySource rs o.around.items) (sym c.deref.ensures.value) (by_source g c.requires.plane o.darts.items c.requires.orbits.darts o.around.items c.requires.orbits.around c.args.known.now))

pub label_round-requires-clause-round : goal.label_round-requires-clause-round
label_round-requires-clause-round c =
    let g = drawn c.args.points.now c.args.edges.now in
    let o = c.args.orbits.now in
    let rows = c.deref.ensures.value in
    let ps = c.deref-in-loop-vertex.ensures.value in
    let to = c.count_upto-to.result in
    let within : to ≤ length o.around.items = subst (λ (xs : List ℕ). to ≤ length xs) ps c.count_upto-to.ensures.within in
    let upto : (i : ℕ) → i < to → source_placed o.darts.items o.around.items i ≤ c.loop-vertex.vertex = λ i l. subst (λ (xs : List ℕ). source_placed o.darts.items xs i ≤ c.loop-vertex.vertex) ps (subst (λ (rs : List ListedDart). source_placed rs c.deref-in-loop-vertex.result.now i ≤ c.loop-vertex.vertex) rows (c.count_upto-to.ensures.upto i l)) in
    let beyond : (i : ℕ) → to ≤ i → i < length o.around.items → c.loop-vertex.vertex < source_placed o.darts.items o.around.items i = λ i a l. subst (λ (xs : List ℕ). c.loop-vertex.vertex < source_placed o.darts.items xs i) ps (subst (λ (rs : List ListedDart). c.loop-vertex.vertex < source_placed rs c.deref-in-loop-vertex.result.now i) rows (c.count_upto-to.ensures.beyond i a (subst (λ (xs : List ℕ). i < length xs) (sym ps) l))) in
    round g c.requires.plane o.darts.items c.requires.orbits.darts o.around.items c.requires.orbits.around c.args.known.now c.loop-vertex.vertex c.loop-vertex.from to within upto beyond c.loop-vertex.labels.items c.loop-vertex.invariant

pub loop-vertex-preserved : goal.loop-vertex-preserved
loop-vertex-preserved c =
    let g = drawn c.args.points.now c.args.edges.now in
    let o = c.args.orbits.now in
    let rows = c.deref.ensures.value in
    let ps = c.deref-in-loop-vertex.ensures.value in
    let to = c.count_upto-to.result in
    let within : to ≤ length o.around.items = subst (λ (xs : List ℕ). to ≤ length xs) ps c.count_upto-to.ensures.within in
    let upto : (i : ℕ) → i < to → source_placed o.darts.items o.around.items i ≤ c.loop-vertex.vertex = λ i l. subst (λ (xs : List ℕ). source_placed o.darts.items xs i ≤ c.loop-vertex.vertex) ps (subst (λ (rs : List ListedDart). source_placed rs c.deref-in-loop-vertex.result.now i ≤ c.loop-vertex.vertex) rows (c.count_upto-to.ensures.upto i l)) in
    let beyond : (i : ℕ) → to ≤ i → i < length o.around.items → c.loop-vertex.vertex < source_placed o.darts.items o.around.items i = λ i a l. subst (λ (xs : List ℕ). c.loop-vertex.vertex < source_placed o.darts.items xs i) ps (subst (λ (rs : List ListedDart). c.loop-vertex.vertex < source_placed rs c.deref-in-loop-vertex.result.now i) rows (c.count_upto-to.ensures.beyond i a (subst (λ (xs : List ℕ). i < length xs) (sym ps) l))) in
    next_pass g c.requires.plane o.darts.items c.requires.orbits.darts o.around.items c.requires.orbits.around c.args.known.now c.loop-vertex.vertex c.loop-vertex.from to within upto beyond c.label_round.new.labels.items c.label_round.ensures

pub returns : goal.returns
returns c =
    let g = drawn c.args.points.now c.args.edges.now in
    let o = c.args.orbits.now in
    end_pass g c.requires.plane o.darts.items c.requires.orbits.darts o.around.items c.requires.orbits.around c.args.known.now c.loop-vertex.vertex c.loop-vertex.from c.loop-vertex.labels.items c.loop-vertex-test.false c.loop-vertex.invariant
