use Rattle.std.proofs.Common.{◌≢◌, IsSome, refl, sym, ap, subst, ◌∙◌, inr}
use Rattle.std.specs.List.{Contains}
use Rattle.slab_laws.specs.View.{Faces, HasCycle}
use Rattle.slab_laws.specs.declared.names.CycleKind.TheVariants.{Outer}
use Rattle.arr_notes.specs.FaceWriters.{with_cycle, with_face}
use Rattle.arr_notes.proofs.VertexReads.{put_hit, put_miss}
use Rattle.dcel_records.specs.ListChanges.{cycle_listed, dart_listed}
use Rattle.dcel_records.specs.RecordsView.{lists_in_view}
use Rattle.face_steps.specs.RowsWritten.{AreDartRows}
use Rattle.face_steps.proofs.FaceRows.{cycle_number, put_name_has}
use Rattle.edge_link.proofs.splitting.part_off.Goals as goal

pub add_cycle-cycle-requires-clause-face : goal.add_cycle-cycle-requires-clause-face
add_cycle-cycle-requires-clause-face c =
    let a = c.add_face-face.result in
    subst (λ (f : Faces). Contains f.faces a.0) (sym c.add_face-face.ensures.tables) ((put_name_has a.0 c.args.records.now.faces.tables.faces a.0).1 (inr refl))

pub put_orbit-requires-clause-cycle : goal.put_orbit-requires-clause-cycle
put_orbit-requires-clause-cycle c = let k = c.add_cycle-cycle.result in subst (λ (t : Faces). HasCycle t k) (sym c.add_cycle-cycle.ensures.tables) (subst IsSome (sym (put_hit k.0 _ c.add_face-face.new.self.faces.tables.cycles)) refl)

pub put_orbit-requires-clause-rows : goal.put_orbit-requires-clause-rows
put_orbit-requires-clause-rows c =
    let r = c.requires.rows in
    let a = c.add_face-face.result in
    let k = c.add_cycle-cycle.result in
    let e = c.add_cycle-cycle.ensures.tables ∙ ap (with_cycle k Outer a) c.add_face-face.ensures.tables in
    let g = c.add_cycle-cycle.ensures.graph ∙ c.add_face-face.ensures.graph in
    let here : AreDartRows c.args.records.now.graph (with_cycle k Outer a (with_face a c.args.records.now.faces.tables)) = record { cycle_of_ascend = r.cycle_of_ascend; cycle_rows = r.cycle_rows } in
    subst (AreDartRows c.add_cycle-cycle.new.self.graph) (sym e) (subst (λ v. AreDartRows v (with_cycle k Outer a (with_face a c.args.records.now.faces.tables))) (sym (ap (λ p. p.graph) g)) here)

pub set_dart-requires : goal.set_dart-requires
set_dart-requires c =
    let k = c.args.kept in
    let n = c.add_cycle-cycle.result in
    let f = c.args.records.now.faces.tables in
    let fresh : k ≢ n = λ e. c.add_cycle-cycle.ensures.name (subst (λ (t : Faces). HasCycle t n) (sym c.add_face-face.ensures.tables) (subst (HasCycle f) e c.requires.kept)) in
    let e = ap (λ t. t.tables) c.put_orbit.ensures.faces in
    let held = c.add_cycle-cycle.ensures.tables ∙ ap (with_cycle n Outer c.add_face-face.result) c.add_face-face.ensures.tables in
    subst (λ (t : Faces). HasCycle t k) (sym e) (subst (λ (t : Faces). HasCycle t k) (sym held) (subst IsSome (sym (put_miss n.0 _ f.cycles k.0 (cycle_number k n fresh))) c.requires.kept))

pub returns-clause-lists : goal.returns-clause-lists
returns-clause-lists c =
    let k = c.add_cycle-cycle.result in
    c.set_dart.ensures.lists
    ∙ ap (dart_listed c.args.kept c.args.other) (ap lists_in_view c.put_orbit.ensures.faces ∙ c.add_cycle-cycle.ensures.lists ∙ ap (cycle_listed k c.add_face-face.result c.args.fresh_dart) c.add_face-face.ensures.lists)
