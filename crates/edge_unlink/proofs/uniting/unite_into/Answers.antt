use Rattle.std.proofs.Common.{◌≡◌, refl, sym, ap, ◌∙◌, subst, arith}
use Rattle.slab_laws.specs.FaceLists.{Lists, AreDartsOn}
use Rattle.slab_laws.specs.View.{View, Faces, HasDart, HasCycle, HasFace, cycle_in, face_in, kind_in, twin_in, next_in}
use Rattle.arr_notes.specs.FaceWriters.{off_cycles, recycled, moved_to, without_cycle, without_face}
use Rattle.arr_notes.specs.Step.{remove_edge}
use Rattle.arr_notes.specs.declared.faces.Unlinked.TheVariants.{Unites}
use Rattle.dcel_records.specs.ListChanges.{cycle_unlisted, dart_listed}
use Rattle.dcel_records.specs.RecordsView.{lists_of}
use Rattle.cycle_writers.specs.declared.moves.Which.TheVariants.{All}
use Rattle.cycle_writers.specs.Taken.{cycles_taken, vertices_taken}
use Rattle.edge_unlink.proofs.UnitedMaps.{not_unbounded, two_faces, cycle_gone, cycle_kept, none_on, darts_stay, darts_on, fits, lists_rest}
use Rattle.edge_unlink.proofs.UnlinkedMaps.{unlink_made}
use Rattle.edge_unlink.proofs.uniting.unite_into.Goals as goal

pub unite_faces-moved-requires-clause-off : goal.unite_faces-moved-requires-clause-off
unite_faces-moved-requires-clause-off c =
    let v : View = c.args.records.now.graph in
    let f : Faces = c.args.records.now.faces.tables in
    let made = c.put_together-m.ensures in
    let graph : c.put_together-m.new.records.graph ≡ remove_edge v c.args.d (twin_in v c.args.d) = made.graph ∙ ap (remove_edge v c.args.d) made.twin in
    none_on v f c.args.d c.args.on_gone c.args.on_kept c.cycle-gone.result c.cycle-kept.result c.requires.map.sound c.requires.dart c.requires.sides c.requires.two c.cycle-gone.ensures.cycle c.cycle-kept.ensures.cycle
    c.put_together-m.new.records.graph c.put_together-m.new.records.faces.tables graph
    (made.tables ∙ (λ i. recycled (sym c.cycle-gone.ensures.cycle i) (sym c.cycle-kept.ensures.cycle i) (off_cycles (made.twin i) (off_cycles c.args.d f))))

pub unite_faces-moved-requires-clause-from : goal.unite_faces-moved-requires-clause-from
unite_faces-moved-requires-clause-from c = subst (λ (z : Faces). HasFace z c.face-gone_face.result) (sym c.put_together-m.ensures.tables) c.face-gone_face.ensures.has

pub unite_faces-moved-requires-clause-to : goal.unite_faces-moved-requires-clause-to
unite_faces-moved-requires-clause-to c =
    let f : Faces = c.args.records.now.faces.tables in
    let there = cycle_kept c.args.records.now.graph f c.args.d c.args.on_gone c.args.on_kept c.cycle-gone.result c.cycle-kept.result c.requires.map.sound c.requires.dart c.requires.sides c.requires.two c.cycle-gone.ensures.cycle c.cycle-kept.ensures.cycle in
    subst (λ (z : Faces). HasFace z c.face-face.result) (sym c.put_together-m.ensures.tables) (subst (HasFace f) (sym c.face-face.ensures.face) (c.requires.map.sound.complete.face_has c.cycle-kept.result there))

pub unite_faces-moved-requires-clause-two : goal.unite_faces-moved-requires-clause-two
unite_faces-moved-requires-clause-two c =
    λ e. two_faces c.args.records.now.graph c.args.records.now.faces.tables c.args.d c.args.on_gone c.args.on_kept c.cycle-gone.result c.cycle-kept.result c.requires.map.sound c.requires.dart c.requires.sides c.requires.two c.cycle-gone.ensures.cycle c.cycle-kept.ensures.cycle
    (sym c.face-gone_face.ensures.face ∙ e ∙ c.face-face.ensures.face)

pub unite_faces-moved-requires-clause-bounded : goal.unite_faces-moved-requires-clause-bounded
unite_faces-moved-requires-clause-bounded c =
    let v : View = c.args.records.now.graph in
    let f : Faces = c.args.records.now.faces.tables in
    let there = cycle_gone v f c.args.d c.args.on_gone c.args.on_kept c.cycle-gone.result c.cycle-kept.result c.requires.map.sound c.requires.dart c.requires.sides c.requires.two c.cycle-gone.ensures.cycle c.cycle-kept.ensures.cycle in
    λ e. not_unbounded v f c.cycle-gone.result c.requires.map.sound there (ap (kind_in f) c.cycle-gone.ensures.cycle ∙ c.requires.outer) (sym c.face-gone_face.ensures.face ∙ e)

pub unite_faces-moved-requires-clause-darts : goal.unite_faces-moved-requires-clause-darts
unite_faces-moved-requires-clause-darts c =
    let v : View = c.args.records.now.graph in
    let f : Faces = c.args.records.now.faces.tables in
    let made = c.put_together-m.ensures in
    let graph : c.put_together-m.new.records.graph ≡ remove_edge v c.args.d (twin_in v c.args.d) = made.graph ∙ ap (remove_edge v c.args.d) made.twin in
    λ k o n.
    let stays = darts_stay v f c.args.d c.args.on_gone c.args.on_kept c.cycle-gone.result (cycle_in f c.args.on_kept) c.requires.map.sound c.requires.dart c.requires.sides c.requires.two c.cycle-gone.ensures.cycle refl
    (lists_of c.args.records.now) c.requires.map.darts k (subst (λ (z : Faces). HasCycle z k) made.tables o) n in
    subst (λ (z : View × Lists). HasDart z.0 (z.1.dart_on k)) (λ i. (sym graph i, sym made.lists i)) stays.0

pub returns : goal.returns
returns c =
    let old = c.args.records.now in
    let v : View = c.args.records.now.graph in
    let f : Faces = c.args.records.now.faces.tables in
    let d = c.args.d in
    let x = c.args.on_gone in
    let y = c.args.on_kept in
    let m = c.put_together-m.result in
    let gone = c.cycle-gone.result in
    let kept = c.cycle-kept.result in
    let gone_face = c.face-gone_face.result in
    let moved = c.unite_faces-moved.result in
    let made = c.put_together-m.ensures in
    let done = c.unite_faces-moved.ensures in
    let put : c.put_together-m.new.records.faces.tables ≡ recycled gone kept (off_cycles (twin_in v d) (off_cycles d f)) =
    made.tables ∙ (λ i. recycled (sym c.cycle-gone.ensures.cycle i) (sym c.cycle-kept.ensures.cycle i) (off_cycles (made.twin i) (off_cycles d f)))
    in
    let lists : lists_of c.put_together-m.new.records ≡ dart_listed kept (next_in v y) (lists_of old) = made.lists ∙ (λ i. dart_listed (sym c.cycle-kept.ensures.cycle i) (next_in v y) (lists_of old)) in
    let s : Faces = without_face gone_face (without_cycle gone (moved_to moved.cycles moved.vertices (face_in f kept) (recycled gone kept (off_cycles (twin_in v d) (off_cycles d f))))) in
    unlink_made old c.put_together-m.new.records c.unite_faces-moved.new.records d m (Unites kept gone gone_face moved) s (lists_of c.unite_faces-moved.new.records)
    c.requires.map c.requires.dart made.twin made.graph made.sound made.spare done.graph
    (done.tables ∙ (λ i. without_face gone_face (without_cycle gone (moved_to moved.cycles moved.vertices (c.face-face.ensures.face i) (put i)))))
    refl
    (fits v f d x y gone kept c.requires.map.sound c.requires.dart c.requires.sides c.requires.two c.cycle-gone.ensures.cycle c.cycle-kept.ensures.cycle (lists_of old) gone_face moved c.face_laws.ensures.listed (ap (kind_in f) c.cycle-gone.ensures.cycle ∙ c.requires.outer) c.face-gone_face.ensures.face
    (done.cycles ∙ ap (λ (l : Lists). cycles_taken v All gone l gone_face) lists) (done.vertices ∙ ap (λ (l : Lists). vertices_taken v All l gone_face) lists))
    refl
    (λ graph. subst (λ w. AreDartsOn w s (lists_of c.unite_faces-moved.new.records)) (sym (graph ∙ ap (remove_edge v d) made.twin))
    (darts_on v f d x y gone kept c.requires.map.sound c.requires.dart c.requires.sides c.requires.two c.cycle-gone.ensures.cycle c.cycle-kept.ensures.cycle (lists_of old) c.requires.map.darts moved.cycles moved.vertices (face_in f kept) gone_face (lists_of c.unite_faces-moved.new.records)
    (done.darts ∙ ap (λ (l : Lists). (cycle_unlisted gone l).dart_on) lists)))
    (record {
      spare_cycles = omega (arith, made.spare_faces.of_cycles, done.spare.of_cycles);
      spare_faces = omega (arith, made.spare_faces.of_faces, done.spare.of_faces);
      capacity_of_cycles = done.spare.capacity_of_cycles ∙ made.spare_faces.capacity_of_cycles;
      capacity_of_faces = done.spare.capacity_of_faces ∙ made.spare_faces.capacity_of_faces;
    })
    done.carried
    (lists_rest v f d x y gone kept c.requires.map.sound c.requires.dart c.requires.sides c.requires.two c.cycle-gone.ensures.cycle c.cycle-kept.ensures.cycle (lists_of old) gone_face moved c.face_laws.ensures.listed (ap (kind_in f) c.cycle-gone.ensures.cycle ∙ c.requires.outer) c.face-gone_face.ensures.face
    (done.cycles ∙ ap (λ (l : Lists). cycles_taken v All gone l gone_face) lists) (done.vertices ∙ ap (λ (l : Lists). vertices_taken v All l gone_face) lists))
