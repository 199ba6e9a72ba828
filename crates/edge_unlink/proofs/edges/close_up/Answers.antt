use Rattle.std.proofs.Common.{◌≡◌, sym, ap, ◌∙◌, subst}
use Rattle.slab_laws.specs.declared.names.DartId.{DartId}
use Rattle.slab_laws.specs.Sound.{IsGraphSound}
use Rattle.slab_laws.specs.View.{View, twin_in}
use Rattle.arr_notes.specs.Reads.{IsRelinked}
use Rattle.arr_notes.specs.FaceWriters.{off_cycles}
use Rattle.dcel_records.specs.Outs.{IsRest}
use Rattle.dcel_records.specs.RecordsView.{FacesView}
use Rattle.arr_notes.specs.Step.{remove_edge}
use Rattle.arr_notes.proofs.Redirected.{relinked as once_kept}
use Rattle.sound_changes.proofs.EdgeRemoved.{fewer, removed}
use Rattle.edge_unlink.proofs.Closing.{kept, written, comes_in, edge_gone, rest_kept, ends_kept}
use Rattle.edge_unlink.proofs.edges.close_up.Goals as goal

pub set_next-requires-2 : goal.set_next-requires-2
set_next-requires-2 c = (once_kept c.args.records.now.graph c.set_next.new.self.graph _ _ c.set_next.ensures.graph).has c.twin-into_m.result c.twin-into_m.ensures.has

-- all but two followers is as it was
relinked : (c : goal.After-remove_pair-arg-1) → IsRelinked c.args.records.now.graph c.set_next-2.new.self.graph
relinked c = kept c.args.records.now.graph c.set_next.new.self.graph c.set_next-2.new.self.graph _ _ _ _ c.set_next.ensures.graph c.set_next-2.ensures.graph

pub remove_pair-requires-clause-dart : goal.remove_pair-requires-clause-dart
remove_pair-requires-clause-dart c = (relinked c).has c.args.d c.requires.dart

pub remove_pair-requires-clause-ends : goal.remove_pair-requires-clause-ends
remove_pair-requires-clause-ends c =
    ends_kept c.args.records.now.graph c.set_next-2.new.self.graph (relinked c) c.args.d (fewer c.args.records.now.graph c.args.d c.requires.sound c.requires.dart).two_ends

pub remove_pair-requires-clause-rest_u : goal.remove_pair-requires-clause-rest_u
remove_pair-requires-clause-rest_u c = rest_kept c.args.records.now.graph c.set_next-2.new.self.graph (relinked c) c.args.d c.rest_of-rest_d.result c.rest_of-rest_d.ensures

pub remove_pair-requires-clause-rest_v : goal.remove_pair-requires-clause-rest_v
remove_pair-requires-clause-rest_v c =
    subst (λ (z : DartId). IsRest c.set_next-2.new.self.graph z c.rest_of-rest_m.result) (c.twin-m.ensures.twin ∙ sym ((relinked c).twin c.args.d))
    (rest_kept c.args.records.now.graph c.set_next-2.new.self.graph (relinked c) c.twin-m.result c.rest_of-rest_m.result c.rest_of-rest_m.ensures)

pub returns-clause-graph : goal.returns-clause-graph
returns-clause-graph c =
    let v : View = c.args.records.now.graph in
    edge_gone v c.args.d c.twin-into_d.result c.twin-into_m.result c.requires.sound c.requires.dart (fewer v c.args.d c.requires.sound c.requires.dart).two_ends
    c.twin-into_d.ensures.has (comes_in v c.previous_around_source-before_d.result c.twin-into_d.result c.args.d c.twin-into_d.ensures.twin c.previous_around_source-before_d.ensures.after)
    c.twin-into_m.ensures.has (comes_in v c.previous_around_source-before_m.result c.twin-into_m.result (twin_in v c.args.d) c.twin-into_m.ensures.twin (c.previous_around_source-before_m.ensures.after ∙ c.twin-m.ensures.twin))
    c.set_next-2.new.self.graph c.remove_pair.new.self.graph
    (written v c.args.d c.twin-m.result c.twin-into_d.result c.twin-into_m.result c.next-after_d.result c.next-after_m.result c.set_next.new.self.graph c.set_next-2.new.self.graph c.twin-m.ensures.twin c.next-after_d.ensures c.next-after_m.ensures c.set_next.ensures.graph c.set_next-2.ensures.graph)
    (kept v c.set_next.new.self.graph c.set_next-2.new.self.graph _ _ _ _ c.set_next.ensures.graph c.set_next-2.ensures.graph)
    c.remove_pair.ensures.graph
    ∙ ap (λ (z : DartId). remove_edge v c.args.d z) (sym c.twin-m.ensures.twin)

pub returns-clause-sound : goal.returns-clause-sound
returns-clause-sound c =
    let v : View = c.args.records.now.graph in
    subst (λ (g : View). IsGraphSound g) (sym (returns-clause-graph c ∙ ap (λ (z : DartId). remove_edge v c.args.d z) c.twin-m.ensures.twin)) (removed v c.args.d c.requires.sound c.requires.dart)

-- both darts have no rows; the faces are else as they were
abbrev without_darts : DartId → FacesView → DartId → FacesView
without_darts d f t = record f { tables = off_cycles t (off_cycles d f.tables) }

pub returns-clause-faces : goal.returns-clause-faces
returns-clause-faces c =
    let before : c.set_next-2.new.self.faces ≡ c.args.records.now.faces = c.set_next-2.ensures.faces ∙ c.set_next.ensures.faces in
    let same : IsRelinked c.args.records.now.graph c.set_next-2.new.self.graph = kept c.args.records.now.graph c.set_next.new.self.graph c.set_next-2.new.self.graph _ _ _ _ c.set_next.ensures.graph c.set_next-2.ensures.graph in
    c.remove_pair.ensures.faces
    ∙ (λ i. without_darts c.args.d (before i) (same.twin c.args.d i))
    ∙ ap (λ (z : DartId). without_darts c.args.d c.args.records.now.faces z) (sym c.twin-m.ensures.twin)
