use Rattle.std.proofs.Common.{◌≢◌, refl, sym, ap, ◌∙◌, subst, arith, IsSome}
use Rattle.slab_laws.specs.View.{View, Faces, HasVertex, cycle_in, source_in, target_in, twin_in}
use Rattle.slab_laws.specs.FacesSound.{IsSound}
use Rattle.arr_notes.specs.FaceSteps.{step_faces}
use Rattle.arr_notes.specs.FacesTold.{unlinked_faces}
use Rattle.arr_notes.specs.FaceWriters.{off_cycles, without_cycle, bare_in}
use Rattle.arr_notes.specs.declared.faces.Unlinked.TheVariants.{Vanishes}
use Rattle.dcel_records.specs.ListChanges.{cycle_unlisted, vertex_listed}
use Rattle.dcel_records.specs.RecordsView.{GraphView, FacesView, lists_in_view, lists_of}
use Rattle.sound_changes.proofs.EdgeRemoved.{fewer}
use Rattle.edge_unlink.proofs.UnlinkedMaps.{unlink_made, unlinked_is_sound, none_on, not_isolated, other_not_isolated, has_target, has_face, follower_on, darts_on_others}
use Rattle.edge_unlink.proofs.faces.vanish.Goals as goal

pub remove_cycle-requires-clause-off : goal.remove_cycle-requires-clause-off
remove_cycle-requires-clause-off c =
    let v : View = c.args.records.now.graph in
    let f : Faces = c.args.records.now.faces.tables in
    let d = c.args.d in
    let cycle = c.cycle-cycle.result in
    let closed = c.close_up-names.ensures in
    let w = c.close_up-names.new.records.graph in
    let told = Vanishes cycle c.face-face.result in
    let s : Faces = step_faces w f (unlinked_faces v d told) in
    let sound : IsSound w s = unlinked_is_sound v w f s d c.close_up-names.result.m told c.requires.map.sound c.requires.dart closed.twin closed.graph closed.sound refl (c.requires.source, c.requires.target, sym c.cycle-cycle.ensures.cycle, c.face-face.ensures.face) in
    λ k o e. none_on w s cycle f.cycles sound refl c.requires.map.sound.complete.cycles_ascend k o (sym (ap (λ (z : FacesView). cycle_in z.tables k) closed.faces ∙ (λ i. cycle_in (off_cycles (closed.twin i) (off_cycles d f)) k)) ∙ e)

pub set_bare-requires-clause-elsewhere : goal.set_bare-requires-clause-elsewhere
set_bare-requires-clause-elsewhere c =
    not_isolated c.args.records.now.graph c.args.records.now.faces.tables c.args.d _ _ c.requires.map.sound c.requires.dart
    (ap (λ (f : Faces). f.bare) c.remove_cycle.ensures.tables ∙ ap (λ (f : FacesView). f.tables.bare) c.close_up-names.ensures.faces) c.source-u.ensures

pub set_bare-requires-clause-face : goal.set_bare-requires-clause-face
set_bare-requires-clause-face c =
    has_face c.args.records.now.graph c.args.records.now.faces.tables c.args.d c.cycle-cycle.result c.face-face.result _ c.requires.map.sound c.requires.dart c.cycle-cycle.ensures.cycle c.face-face.ensures.face
    (ap (λ (f : Faces). f.faces) c.remove_cycle.ensures.tables ∙ ap (λ (f : FacesView). f.tables.faces) c.close_up-names.ensures.faces)

pub set_bare-requires-2-clause-vertex : goal.set_bare-requires-2-clause-vertex
set_bare-requires-2-clause-vertex c =
    let v : View = c.args.records.now.graph in
    subst (λ g. HasVertex g c.target-v.result) (sym (ap (λ (g : GraphView). g.graph) (c.set_bare.ensures.graph ∙ c.remove_cycle.ensures.graph)))
    (subst (HasVertex c.close_up-names.new.records.graph) (sym c.target-v.ensures) (has_target v c.close_up-names.new.records.graph c.args.records.now.faces.tables c.args.d c.close_up-names.result.m c.requires.map.sound c.requires.dart c.close_up-names.ensures.twin c.close_up-names.ensures.graph))

pub set_bare-requires-2-clause-elsewhere : goal.set_bare-requires-2-clause-elsewhere
set_bare-requires-2-clause-elsewhere c =
    let v : View = c.args.records.now.graph in
    let two : source_in v c.args.d ≢ target_in v c.args.d = (fewer v c.args.d c.requires.map.sound.graph c.requires.dart).two_ends in
    other_not_isolated v c.args.records.now.faces.tables (twin_in v c.args.d) _ c.target-v.result c.source-u.result c.face-face.result c.requires.map.sound (c.requires.map.sound.graph.twinned.has c.args.d c.requires.dart)
    (ap (λ (f : Faces). f.bare) (c.set_bare.ensures.tables ∙ ap (bare_in c.source-u.result c.face-face.result) (c.remove_cycle.ensures.tables ∙ ap (λ (f : FacesView). without_cycle c.cycle-cycle.result f.tables) c.close_up-names.ensures.faces)))
    c.target-v.ensures (λ e. two (sym c.source-u.ensures ∙ sym e ∙ c.target-v.ensures))

pub set_bare-requires-2-clause-face : goal.set_bare-requires-2-clause-face
set_bare-requires-2-clause-face c =
    has_face c.args.records.now.graph c.args.records.now.faces.tables c.args.d c.cycle-cycle.result c.face-face.result _ c.requires.map.sound c.requires.dart c.cycle-cycle.ensures.cycle c.face-face.ensures.face
    (ap (λ (f : Faces). f.faces) (c.set_bare.ensures.tables ∙ ap (bare_in c.source-u.result c.face-face.result) c.remove_cycle.ensures.tables) ∙ ap (λ (f : FacesView). f.tables.faces) c.close_up-names.ensures.faces)

pub returns : goal.returns
returns c =
    let old = c.args.records.now in
    let f : Faces = c.args.records.now.faces.tables in
    let d = c.args.d in
    let m = c.close_up-names.result.m in
    let cycle = c.cycle-cycle.result in
    let face = c.face-face.result in
    let closed = c.close_up-names.ensures in
    let faces = c.set_bare-2.ensures.spare in
    let faces' = c.set_bare.ensures.spare in
    let faces'' = c.remove_cycle.ensures.spare in
    unlink_made old c.close_up-names.new.records c.set_bare-2.new.self d m (Vanishes cycle face)
    (bare_in c.target-v.result face (bare_in c.source-u.result face (without_cycle cycle (off_cycles m (off_cycles d f)))))
    (vertex_listed c.target-v.result face (vertex_listed c.source-u.result face (cycle_unlisted cycle (lists_of old))))
    c.requires.map c.requires.dart closed.twin closed.graph closed.sound closed.spare
    (c.set_bare-2.ensures.graph ∙ c.set_bare.ensures.graph ∙ c.remove_cycle.ensures.graph)
    (c.set_bare-2.ensures.tables ∙ ap (bare_in c.target-v.result face) (c.set_bare.ensures.tables ∙ ap (bare_in c.source-u.result face) (c.remove_cycle.ensures.tables ∙ ap (λ (z : FacesView). without_cycle cycle z.tables) closed.faces)))
    (λ i. bare_in (c.target-v.ensures i) face (bare_in (c.source-u.ensures i) face (without_cycle cycle (off_cycles (closed.twin i) (off_cycles d f)))))
    (c.requires.source, c.requires.target, sym c.cycle-cycle.ensures.cycle, c.face-face.ensures.face)
    (c.set_bare-2.ensures.lists ∙ ap (vertex_listed c.target-v.result face) (c.set_bare.ensures.lists ∙ ap (vertex_listed c.source-u.result face) (c.remove_cycle.ensures.lists ∙ ap (λ z. cycle_unlisted cycle (lists_in_view z)) closed.faces)))
    (λ graph. darts_on_others old.graph c.set_bare-2.new.self.graph f d m c.requires.map.sound c.requires.dart closed.twin graph (lists_of old) c.requires.map.darts cycle (sym c.cycle-cycle.ensures.cycle)
    (ap (cycle_in f) (closed.twin ∙ sym c.requires.target) ∙ follower_on old.graph f d c.requires.map.sound c.requires.dart ∙ sym c.cycle-cycle.ensures.cycle))
    (record {
      spare_cycles = let e = ap (λ (z : FacesView). z.spare_cycles) closed.faces in omega (arith, faces.of_cycles, faces'.of_cycles, faces''.of_cycles, e);
      spare_faces = let e = ap (λ (z : FacesView). z.spare_faces) closed.faces in omega (arith, faces.of_faces, faces'.of_faces, faces''.of_faces, e);
      capacity_of_cycles = faces.capacity_of_cycles ∙ faces'.capacity_of_cycles ∙ faces''.capacity_of_cycles ∙ ap (λ (z : FacesView). z.capacity_of_cycles) closed.faces;
      capacity_of_faces = faces.capacity_of_faces ∙ faces'.capacity_of_faces ∙ faces''.capacity_of_faces ∙ ap (λ (z : FacesView). z.capacity_of_faces) closed.faces;
    })
    (subst IsSome (sym (c.set_bare-2.ensures.moved ∙ c.set_bare.ensures.moved ∙ c.remove_cycle.ensures.moved ∙ ap (λ (z : FacesView). z.moved) closed.faces)) c.requires.returned)
    tt
