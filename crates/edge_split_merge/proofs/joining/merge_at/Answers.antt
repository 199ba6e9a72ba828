use Rattle.std.proofs.Common.{◌≡◌, sym, ap, subst, ◌∙◌}
use Rattle.slab_laws.specs.Sound.{IsGraphSound}
use Rattle.slab_laws.specs.View.{View, next_in, twin_in}
use Rattle.arr_notes.specs.Reads.{IsRelinked}
use Rattle.arr_notes.specs.Step.{merge_edge}
use Rattle.arr_notes.proofs.Redirected.{relinked}
use Rattle.sound_changes.proofs.Merges.{merge_sound}
use Rattle.edge_split_merge.proofs.Removed.{IsMoved, moved, still_out, source_kept, twin_out, far_out, far_there, not_twin, ends_apart, none_left, twin_left, vertex_still, bare, made}
use Rattle.arr_notes.specs.FaceWriters.{not_bare, off_cycles}
use Rattle.dcel_records.specs.ListChanges.{vertex_unlisted}
use Rattle.dcel_records.specs.RecordsView.{FacesView, lists_in_view}
use Rattle.dcel_records.proofs.Spared.{same_spare, spare_then}
use Rattle.edge_split_merge.proofs.joining.merge_at.Goals as goal

-- only followers were written
one_write : (c : goal.After-move_source-arg-1) → IsRelinked c.args.records.now.graph c.set_next.new.self.graph
one_write c = relinked c.args.records.now.graph c.set_next.new.self.graph c.twin-into_m.result c.twin-t.result c.set_next.ensures.graph

pub move_source-requires-clause-dart : goal.move_source-requires-clause-dart
move_source-requires-clause-dart c = (one_write c).has c.twin-t.result c.twin-t.ensures.has

pub move_source-requires-clause-rest : goal.move_source-requires-clause-rest
move_source-requires-clause-rest c =
    let o = still_out c.args.records.now.graph c.set_next.new.self.graph (one_write c) c.args.v c.meeting.result.1 (c.meeting.ensures.second, c.meeting.ensures.leaves) in
    let t = still_out c.args.records.now.graph c.set_next.new.self.graph (one_write c) c.args.v c.twin-t.result (twin_out c.args.records.now.graph c.args.v c.meeting.result.0 c.meeting.result.1 c.requires.sound c.meeting.ensures c.twin-t.result c.twin-m.result c.source-end.result c.twin-t.ensures.twin c.twin-m.ensures.twin c.source-end.ensures) in
    ((o.0, o.1 ∙ sym t.1), not_twin c.args.records.now.graph c.args.v c.meeting.result.0 c.meeting.result.1 c.requires.sound c.meeting.ensures c.twin-t.result c.twin-m.result c.source-end.result c.twin-t.ensures.twin c.twin-m.ensures.twin c.source-end.ensures)

pub move_source-requires-clause-vertex : goal.move_source-requires-clause-vertex
move_source-requires-clause-vertex c = ((one_write c).vertices c.source-end.result).has (far_there c.args.records.now.graph c.args.v c.meeting.result.0 c.meeting.result.1 c.requires.sound c.meeting.ensures c.twin-t.result c.twin-m.result c.source-end.result c.twin-t.ensures.twin c.twin-m.ensures.twin c.source-end.ensures)

pub move_source-requires-clause-out : goal.move_source-requires-clause-out
move_source-requires-clause-out c = (c.twin-m.result, still_out c.args.records.now.graph c.set_next.new.self.graph (one_write c) c.source-end.result c.twin-m.result (far_out c.args.records.now.graph c.args.v c.meeting.result.0 c.meeting.result.1 c.requires.sound c.meeting.ensures c.twin-t.result c.twin-m.result c.source-end.result c.twin-t.ensures.twin c.twin-m.ensures.twin c.source-end.ensures))

pub set_next-requires-2 : goal.set_next-requires-2
set_next-requires-2 c =
    let r : IsRelinked c.args.records.now.graph c.set_next.new.self.graph = relinked c.args.records.now.graph c.set_next.new.self.graph c.twin-into_m.result c.twin-t.result c.set_next.ensures.graph in
    source_kept c.args.records.now.graph c.set_next.new.self.graph c.move_source.new.self.graph c.twin-t.result c.meeting.result.0 c.source-end.result r c.move_source.ensures.graph c.meeting.ensures.first

-- the twin leaves the far end
twin_moved : (c : goal.After-remove_pair-arg-1) → IsMoved c.args.records.now.graph c.set_next-2.new.self.graph c.twin-t.result c.source-end.result
twin_moved c = moved c.args.records.now.graph c.set_next.new.self.graph c.move_source.new.self.graph c.set_next-2.new.self.graph c.twin-into_m.result c.twin-t.result c.meeting.result.0 c.onward-beyond.result c.source-end.result c.requires.sound.named c.twin-t.ensures.has c.set_next.ensures.graph c.move_source.ensures.graph c.set_next-2.ensures.graph

pub remove_pair-requires-clause-dart : goal.remove_pair-requires-clause-dart
remove_pair-requires-clause-dart c = (twin_moved c).has c.meeting.result.1 c.meeting.ensures.second

pub remove_pair-requires-clause-ends : goal.remove_pair-requires-clause-ends
remove_pair-requires-clause-ends c = ends_apart c.args.records.now.graph c.args.v c.meeting.result.0 c.meeting.result.1 c.requires.sound c.meeting.ensures c.twin-t.result c.twin-m.result c.source-end.result c.twin-t.ensures.twin c.twin-m.ensures.twin c.source-end.ensures c.set_next-2.new.self.graph (twin_moved c)

pub remove_pair-requires-clause-rest_u : goal.remove_pair-requires-clause-rest_u
remove_pair-requires-clause-rest_u c = none_left c.args.records.now.graph c.args.v c.meeting.result.0 c.meeting.result.1 c.requires.sound c.meeting.ensures c.twin-t.result c.twin-m.result c.source-end.result c.twin-t.ensures.twin c.twin-m.ensures.twin c.source-end.ensures c.set_next-2.new.self.graph (twin_moved c)

pub remove_pair-requires-clause-rest_v : goal.remove_pair-requires-clause-rest_v
remove_pair-requires-clause-rest_v c = twin_left c.args.records.now.graph c.args.v c.meeting.result.0 c.meeting.result.1 c.requires.sound c.meeting.ensures c.twin-t.result c.twin-m.result c.source-end.result c.twin-t.ensures.twin c.twin-m.ensures.twin c.source-end.ensures c.set_next-2.new.self.graph (twin_moved c)

pub remove_vertex-requires-clause-vertex : goal.remove_vertex-requires-clause-vertex
remove_vertex-requires-clause-vertex c =
    let i : IsMoved c.args.records.now.graph c.set_next-2.new.self.graph c.twin-t.result c.source-end.result = moved c.args.records.now.graph c.set_next.new.self.graph c.move_source.new.self.graph c.set_next-2.new.self.graph c.twin-into_m.result c.twin-t.result c.meeting.result.0 c.onward-beyond.result c.source-end.result c.requires.sound.named c.twin-t.ensures.has c.set_next.ensures.graph c.move_source.ensures.graph c.set_next-2.ensures.graph in
    vertex_still c.args.records.now.graph c.args.v c.meeting.result.0 c.meeting.result.1 c.requires.sound c.meeting.ensures c.twin-t.result c.twin-m.result c.source-end.result c.twin-t.ensures.twin c.twin-m.ensures.twin c.source-end.ensures c.set_next-2.new.self.graph i c.remove_pair.new.self.graph c.remove_pair.ensures.graph

pub remove_vertex-requires-clause-bare : goal.remove_vertex-requires-clause-bare
remove_vertex-requires-clause-bare c =
    let i : IsMoved c.args.records.now.graph c.set_next-2.new.self.graph c.twin-t.result c.source-end.result = moved c.args.records.now.graph c.set_next.new.self.graph c.move_source.new.self.graph c.set_next-2.new.self.graph c.twin-into_m.result c.twin-t.result c.meeting.result.0 c.onward-beyond.result c.source-end.result c.requires.sound.named c.twin-t.ensures.has c.set_next.ensures.graph c.move_source.ensures.graph c.set_next-2.ensures.graph in
    bare c.args.records.now.graph c.args.v c.meeting.result.0 c.meeting.result.1 c.requires.sound c.meeting.ensures c.twin-t.result c.twin-m.result c.source-end.result c.twin-t.ensures.twin c.twin-m.ensures.twin c.source-end.ensures c.set_next-2.new.self.graph i c.remove_pair.new.self.graph c.remove_pair.ensures.graph

joined : (c : goal.After-remove_vertex) → c.remove_vertex.new.self.graph ≡ merge_edge c.args.records.now.graph c.args.v c.meeting.result.0 c.meeting.result.1
joined c =
    let v : View = c.args.records.now.graph in
    let nx : next_in v c.twin-into_m.result ≡ c.twin-m.result = ap (λ z. next_in v z) c.twin-into_m.ensures.twin ∙ c.previous_around_source-before_m.ensures.after in
    made c.args.records.now.graph c.args.v c.meeting.result.0 c.meeting.result.1 c.requires.sound c.meeting.ensures c.twin-t.result c.twin-m.result c.source-end.result c.twin-t.ensures.twin c.twin-m.ensures.twin c.source-end.ensures
    c.twin-into_m.result c.onward-beyond.result c.next-follower.result c.set_next.new.self.graph c.move_source.new.self.graph c.set_next-2.new.self.graph c.remove_pair.new.self.graph c.remove_vertex.new.self.graph c.twin-into_m.ensures.has nx c.next-follower.ensures c.onward-beyond.ensures
    c.set_next.ensures.graph c.move_source.ensures.graph c.set_next-2.ensures.graph c.remove_pair.ensures.graph c.remove_vertex.ensures.graph

pub returns-clause-graph : goal.returns-clause-graph
returns-clause-graph c = joined c

pub returns-clause-sound : goal.returns-clause-sound
returns-clause-sound c = subst (λ (g : View). IsGraphSound g) (sym (joined c)) (merge_sound c.args.records.now.graph c.args.v c.meeting.result.0 c.meeting.result.1 c.requires.sound c.meeting.ensures)

-- the tables beside the graph without the two darts
unpaired : (c : goal.After-remove_vertex) → c.remove_pair.new.self.faces ≡ record c.args.records.now.faces { tables = off_cycles (twin_in c.args.records.now.graph c.meeting.result.1) (off_cycles c.meeting.result.1 c.args.records.now.faces.tables) }
unpaired c =
    let n = c.meeting.result.1 in
    let i : IsMoved c.args.records.now.graph c.set_next-2.new.self.graph c.twin-t.result c.source-end.result = moved c.args.records.now.graph c.set_next.new.self.graph c.move_source.new.self.graph c.set_next-2.new.self.graph c.twin-into_m.result c.twin-t.result c.meeting.result.0 c.onward-beyond.result c.source-end.result c.requires.sound.named c.twin-t.ensures.has c.set_next.ensures.graph c.move_source.ensures.graph c.set_next-2.ensures.graph in
    c.remove_pair.ensures.faces
    ∙ (λ j. let f : FacesView = (c.set_next-2.ensures.faces ∙ c.move_source.ensures.faces ∙ c.set_next.ensures.faces) j in record f { tables = off_cycles (i.twin n j) (off_cycles n f.tables) })

pub returns-clause-tables : goal.returns-clause-tables
returns-clause-tables c = c.remove_vertex.ensures.tables ∙ ap (λ (f : FacesView). not_bare c.args.v f.tables) (unpaired c)

pub returns-clause-lists : goal.returns-clause-lists
returns-clause-lists c = c.remove_vertex.ensures.lists ∙ ap (λ (f : FacesView). vertex_unlisted c.args.v (lists_in_view f)) (unpaired c)

pub returns-clause-spare_faces : goal.returns-clause-spare_faces
returns-clause-spare_faces c = spare_then (same_spare _ _ _ (unpaired c)) c.remove_vertex.ensures.spare_faces

pub returns-clause-moved : goal.returns-clause-moved
returns-clause-moved c = c.remove_vertex.ensures.moved ∙ ap (λ (f : FacesView). f.moved) (unpaired c)
