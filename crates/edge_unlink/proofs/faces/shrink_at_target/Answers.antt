use Rattle.std.proofs.Common.{◌≡◌, cond, sym, ap, ◌∙◌, subst, arith, IsSome, inr}
use Rattle.slab_laws.specs.View.{Faces, HasVertex, HasDart, cycle_in, source_in, target_in, twin_in, next_in}
use Rattle.arr_notes.specs.FaceWriters.{off_cycles, bare_in}
use Rattle.arr_notes.specs.FacesTold.{bared_end}
use Rattle.arr_notes.specs.declared.faces.Unlinked.TheVariants.{Shrinks}
use Rattle.arr_notes.proofs.Reading.{dart_number}
use Rattle.dcel_records.specs.ListChanges.{dart_listed, vertex_listed}
use Rattle.dcel_records.specs.RecordsView.{GraphView, FacesView, lists_in_view, lists_of}
use Rattle.integers.proofs.Tests.{other_number}
use Rattle.edge_unlink.proofs.UnlinkedMaps.{unlink_made, not_isolated, not_after_itself, has_cycle, has_face, has_target, follower_on, darts_on_all}
use Rattle.edge_unlink.proofs.faces.shrink_at_target.Goals as goal

pub face-face-requires : goal.face-face-requires
face-face-requires c = has_cycle c.args.records.now.graph c.args.records.now.faces.tables c.args.d c.cycle-cycle.result c.requires.map.sound c.requires.dart c.cycle-cycle.ensures.cycle

pub set_bare-requires-clause-vertex : goal.set_bare-requires-clause-vertex
set_bare-requires-clause-vertex c =
    let closed = c.close_up-names.ensures in
    subst (λ g. HasVertex g c.target-end.result) (sym (ap (λ (g : GraphView). g.graph) c.set_dart.ensures.graph))
    (subst (HasVertex c.close_up-names.new.records.graph) (sym c.target-end.ensures) (has_target c.args.records.now.graph c.close_up-names.new.records.graph c.args.records.now.faces.tables c.args.d c.close_up-names.result.m c.requires.map.sound c.requires.dart closed.twin closed.graph))

pub set_bare-requires-clause-elsewhere : goal.set_bare-requires-clause-elsewhere
set_bare-requires-clause-elsewhere c =
    not_isolated c.args.records.now.graph c.args.records.now.faces.tables (twin_in c.args.records.now.graph c.args.d) _ _ c.requires.map.sound (c.requires.map.sound.graph.twinned.has c.args.d c.requires.dart)
    (ap (λ (f : Faces). f.bare) c.set_dart.ensures.tables ∙ ap (λ (f : FacesView). f.tables.bare) c.close_up-names.ensures.faces) c.target-end.ensures

pub set_bare-requires-clause-face : goal.set_bare-requires-clause-face
set_bare-requires-clause-face c =
    has_face c.args.records.now.graph c.args.records.now.faces.tables c.args.d c.cycle-cycle.result c.face-face.result _ c.requires.map.sound c.requires.dart c.cycle-cycle.ensures.cycle c.face-face.ensures.face
    (ap (λ (f : Faces). f.faces) c.set_dart.ensures.tables ∙ ap (λ (f : FacesView). f.tables.faces) c.close_up-names.ensures.faces)

pub returns : goal.returns
returns c =
    let old = c.args.records.now in
    let f : Faces = c.args.records.now.faces.tables in
    let d = c.args.d in
    let m = c.close_up-names.result.m in
    let cycle = c.cycle-cycle.result in
    let face = c.face-face.result in
    let closed = c.close_up-names.ensures in
    let end = c.target-end.result in
    let twin : HasDart old.graph (twin_in old.graph d) = c.requires.map.sound.graph.twinned.has d c.requires.dart in
    let stays : c.next-stays.result ≡ next_in old.graph (twin_in old.graph d) = c.next-stays.ensures ∙ ap (next_in old.graph) c.twin.ensures.twin in
    let bared : bared_end old.graph d ≡ target_in old.graph d = ap (λ b. cond b (source_in old.graph d) (target_in old.graph d)) (other_number (next_in old.graph (twin_in old.graph d)).0 d.0 (dart_number (next_in old.graph (twin_in old.graph d)) d c.requires.source)) in
    let second : cycle_in f (twin_in old.graph d) ≡ cycle = ap (cycle_in f) (sym c.requires.target) ∙ follower_on old.graph f d c.requires.map.sound c.requires.dart ∙ sym c.cycle-cycle.ensures.cycle in
    let faces = c.set_bare.ensures.spare in
    let faces' = c.set_dart.ensures.spare in
    unlink_made old c.close_up-names.new.records c.set_bare.new.self d m (Shrinks cycle face)
    (bare_in end face (off_cycles m (off_cycles d f)))
    (vertex_listed end face (dart_listed cycle c.next-stays.result (lists_of old)))
    c.requires.map c.requires.dart closed.twin closed.graph closed.sound closed.spare
    (c.set_bare.ensures.graph ∙ c.set_dart.ensures.graph)
    (c.set_bare.ensures.tables ∙ ap (bare_in end face) (c.set_dart.ensures.tables ∙ ap (λ (z : FacesView). z.tables) closed.faces))
    (λ i. bare_in ((c.target-end.ensures ∙ sym bared) i) face (off_cycles (closed.twin i) (off_cycles d f)))
    (inr (c.requires.source, c.requires.target), sym c.cycle-cycle.ensures.cycle, c.face-face.ensures.face)
    (c.set_bare.ensures.lists ∙ ap (vertex_listed end face) (c.set_dart.ensures.lists ∙ ap (λ z. dart_listed cycle c.next-stays.result (lists_in_view z)) closed.faces))
    (λ graph. darts_on_all old.graph c.set_bare.new.self.graph f d m c.requires.map.sound c.requires.dart closed.twin graph (lists_of old) c.requires.map.darts cycle (sym c.cycle-cycle.ensures.cycle) (ap (cycle_in f) closed.twin ∙ second)
    c.next-stays.result (subst (HasDart old.graph) (sym stays) (c.requires.map.sound.graph.linked.has (twin_in old.graph d) twin)) (ap (cycle_in f) stays ∙ follower_on old.graph f (twin_in old.graph d) c.requires.map.sound twin ∙ second) (λ e. c.requires.source (sym stays ∙ e)) (λ e. not_after_itself old.graph (twin_in old.graph d) c.requires.map.sound.graph twin (sym stays ∙ e ∙ closed.twin)))
    (record {
      spare_cycles = let e = ap (λ (z : FacesView). z.spare_cycles) closed.faces in omega (arith, faces.of_cycles, faces'.of_cycles, e);
      spare_faces = let e = ap (λ (z : FacesView). z.spare_faces) closed.faces in omega (arith, faces.of_faces, faces'.of_faces, e);
      capacity_of_cycles = faces.capacity_of_cycles ∙ faces'.capacity_of_cycles ∙ ap (λ (z : FacesView). z.capacity_of_cycles) closed.faces;
      capacity_of_faces = faces.capacity_of_faces ∙ faces'.capacity_of_faces ∙ ap (λ (z : FacesView). z.capacity_of_faces) closed.faces;
    })
    (subst IsSome (sym (c.set_bare.ensures.moved ∙ c.set_dart.ensures.moved ∙ ap (λ (z : FacesView). z.moved) closed.faces)) c.requires.returned)
    tt
