use Rattle.std.proofs.Common.{◌≡◌, sym, ap, subst, ◌∙◌}
use Rattle.slab_laws.specs.declared.names.VertexId.{VertexId}
use Rattle.slab_laws.specs.Sound.{IsGraphSound}
use Rattle.slab_laws.specs.View.{View, HasVertex, HasDart, HasCycle, cycle_in, next_in, twin_in}
use Rattle.arr_notes.specs.Step.{split_edge}
use Rattle.arr_notes.proofs.RowLaws.{put_again}
use Rattle.arr_notes.specs.FaceWriters.{on_cycle}
use Rattle.dcel_records.specs.RecordsView.{GraphView, FacesView}
use Rattle.arr_notes.proofs.DartReads.{next_is_set}
use Rattle.edge_split_merge.proofs.Parted.{split_is_sound}
use Rattle.edge_split_merge.proofs.Written.{vertex_there, vertex_still, IsPlaced, placed, followed, rest_there, dart_kept, chained}
use Rattle.edge_split_merge.proofs.parting.split_at.Goals as goal

pub add_pair_on-requires-clause-u : goal.add_pair_on-requires-clause-u
add_pair_on-requires-clause-u c = vertex_there c.args.records.now.graph c.add_vertex_on_edge-v.new.self.graph c.add_vertex_on_edge-v.result c.args.p c.add_vertex_on_edge-v.ensures.graph

pub add_pair_on-requires-clause-v : goal.add_pair_on-requires-clause-v
add_pair_on-requires-clause-v c =
    vertex_still c.args.records.now.graph c.add_vertex_on_edge-v.new.self.graph c.add_vertex_on_edge-v.result c.args.p c.add_vertex_on_edge-v.ensures.graph c.add_vertex_on_edge-v.ensures.name c.source-end.result
    (subst (λ (z : VertexId). HasVertex c.args.records.now.graph z) (sym c.source-end.ensures) (c.requires.sound.linked.source c.twin-t.result c.twin-t.ensures.has))

pub add_pair_on-requires-clause-cycle : goal.add_pair_on-requires-clause-cycle
add_pair_on-requires-clause-cycle c = subst (λ (f : FacesView). HasCycle f.tables c.cycle-cycle.result) (sym c.add_vertex_on_edge-v.ensures.faces) c.cycle-cycle.ensures.has

pub set_next-requires : goal.set_next-requires
set_next-requires c =
    let i : IsPlaced c.args.records.now.graph c.add_pair_on.new.self.graph c.add_vertex_on_edge-v.result c.source-end.result c.add_pair_on.result.0 c.add_pair_on.result.1 =
    placed c.args.records.now.graph c.add_vertex_on_edge-v.new.self.graph c.add_pair_on.new.self.graph c.add_vertex_on_edge-v.result c.source-end.result c.args.p c.add_pair_on.result.0 c.add_pair_on.result.1 c.line-line.result c.add_vertex_on_edge-v.ensures.graph c.add_pair_on.ensures.graph c.add_pair_on.ensures.dart c.add_pair_on.ensures.twin c.add_pair_on.ensures.two in
    (i.old c.twin-into_t.result c.twin-into_t.ensures.has).0

pub set_next-requires-2 : goal.set_next-requires-2
set_next-requires-2 c =
    let i : IsPlaced c.args.records.now.graph c.set_next.new.self.graph c.add_vertex_on_edge-v.result c.source-end.result c.add_pair_on.result.0 c.add_pair_on.result.1 =
    followed c.args.records.now.graph c.add_pair_on.new.self.graph c.set_next.new.self.graph c.add_vertex_on_edge-v.result c.source-end.result c.add_pair_on.result.0 c.add_pair_on.result.1 c.twin-into_t.result c.add_pair_on.result.1 c.set_next.ensures.graph
    (placed c.args.records.now.graph c.add_vertex_on_edge-v.new.self.graph c.add_pair_on.new.self.graph c.add_vertex_on_edge-v.result c.source-end.result c.args.p c.add_pair_on.result.0 c.add_pair_on.result.1 c.line-line.result c.add_vertex_on_edge-v.ensures.graph c.add_pair_on.ensures.graph c.add_pair_on.ensures.dart c.add_pair_on.ensures.twin c.add_pair_on.ensures.two) in
    i.first.0

pub set_next-requires-3 : goal.set_next-requires-3
set_next-requires-3 c =
    let i : IsPlaced c.args.records.now.graph c.set_next-2.new.self.graph c.add_vertex_on_edge-v.result c.source-end.result c.add_pair_on.result.0 c.add_pair_on.result.1 =
    followed c.args.records.now.graph c.set_next.new.self.graph c.set_next-2.new.self.graph c.add_vertex_on_edge-v.result c.source-end.result c.add_pair_on.result.0 c.add_pair_on.result.1 c.add_pair_on.result.0 c.onward-beyond.result c.set_next-2.ensures.graph
    (followed c.args.records.now.graph c.add_pair_on.new.self.graph c.set_next.new.self.graph c.add_vertex_on_edge-v.result c.source-end.result c.add_pair_on.result.0 c.add_pair_on.result.1 c.twin-into_t.result c.add_pair_on.result.1 c.set_next.ensures.graph
    (placed c.args.records.now.graph c.add_vertex_on_edge-v.new.self.graph c.add_pair_on.new.self.graph c.add_vertex_on_edge-v.result c.source-end.result c.args.p c.add_pair_on.result.0 c.add_pair_on.result.1 c.line-line.result c.add_vertex_on_edge-v.ensures.graph c.add_pair_on.ensures.graph c.add_pair_on.ensures.dart c.add_pair_on.ensures.twin c.add_pair_on.ensures.two)) in
    i.second.0

-- what is there once the followers are written
there : (c : goal.After-move_source-arg-1) → IsPlaced c.args.records.now.graph c.set_next-3.new.self.graph c.add_vertex_on_edge-v.result c.source-end.result c.add_pair_on.result.0 c.add_pair_on.result.1
there c =
    followed c.args.records.now.graph c.set_next-2.new.self.graph c.set_next-3.new.self.graph c.add_vertex_on_edge-v.result c.source-end.result c.add_pair_on.result.0 c.add_pair_on.result.1 c.add_pair_on.result.1 c.twin-t.result c.set_next-3.ensures.graph
    (followed c.args.records.now.graph c.set_next.new.self.graph c.set_next-2.new.self.graph c.add_vertex_on_edge-v.result c.source-end.result c.add_pair_on.result.0 c.add_pair_on.result.1 c.add_pair_on.result.0 c.onward-beyond.result c.set_next-2.ensures.graph
    (followed c.args.records.now.graph c.add_pair_on.new.self.graph c.set_next.new.self.graph c.add_vertex_on_edge-v.result c.source-end.result c.add_pair_on.result.0 c.add_pair_on.result.1 c.twin-into_t.result c.add_pair_on.result.1 c.set_next.ensures.graph
    (placed c.args.records.now.graph c.add_vertex_on_edge-v.new.self.graph c.add_pair_on.new.self.graph c.add_vertex_on_edge-v.result c.source-end.result c.args.p c.add_pair_on.result.0 c.add_pair_on.result.1 c.line-line.result c.add_vertex_on_edge-v.ensures.graph c.add_pair_on.ensures.graph c.add_pair_on.ensures.dart c.add_pair_on.ensures.twin c.add_pair_on.ensures.two)))

pub move_source-requires-clause-dart : goal.move_source-requires-clause-dart
move_source-requires-clause-dart c = ((there c).old c.twin-t.result c.twin-t.ensures.has).0

pub move_source-requires-clause-rest : goal.move_source-requires-clause-rest
move_source-requires-clause-rest c = rest_there c.args.records.now.graph c.set_next-3.new.self.graph c.add_vertex_on_edge-v.result c.source-end.result c.add_pair_on.result.0 c.add_pair_on.result.1 c.twin-t.result (there c) c.twin-t.ensures.has c.source-end.ensures

pub move_source-requires-clause-vertex : goal.move_source-requires-clause-vertex
move_source-requires-clause-vertex c = (there c).vertex

pub move_source-requires-clause-out : goal.move_source-requires-clause-out
move_source-requires-clause-out c = (c.add_pair_on.result.0, (there c).first)

pub set_next-requires-4 : goal.set_next-requires-4
set_next-requires-4 c =
    let i : IsPlaced c.args.records.now.graph c.set_next-3.new.self.graph c.add_vertex_on_edge-v.result c.source-end.result c.add_pair_on.result.0 c.add_pair_on.result.1 =
    followed c.args.records.now.graph c.set_next-2.new.self.graph c.set_next-3.new.self.graph c.add_vertex_on_edge-v.result c.source-end.result c.add_pair_on.result.0 c.add_pair_on.result.1 c.add_pair_on.result.1 c.twin-t.result c.set_next-3.ensures.graph
    (followed c.args.records.now.graph c.set_next.new.self.graph c.set_next-2.new.self.graph c.add_vertex_on_edge-v.result c.source-end.result c.add_pair_on.result.0 c.add_pair_on.result.1 c.add_pair_on.result.0 c.onward-beyond.result c.set_next-2.ensures.graph
    (followed c.args.records.now.graph c.add_pair_on.new.self.graph c.set_next.new.self.graph c.add_vertex_on_edge-v.result c.source-end.result c.add_pair_on.result.0 c.add_pair_on.result.1 c.twin-into_t.result c.add_pair_on.result.1 c.set_next.ensures.graph
    (placed c.args.records.now.graph c.add_vertex_on_edge-v.new.self.graph c.add_pair_on.new.self.graph c.add_vertex_on_edge-v.result c.source-end.result c.args.p c.add_pair_on.result.0 c.add_pair_on.result.1 c.line-line.result c.add_vertex_on_edge-v.ensures.graph c.add_pair_on.ensures.graph c.add_pair_on.ensures.dart c.add_pair_on.ensures.twin c.add_pair_on.ensures.two))) in
    dart_kept c.set_next-3.new.self.graph c.move_source.new.self.graph c.twin-t.result c.add_vertex_on_edge-v.result c.move_source.ensures.graph c.args.d (i.old c.args.d c.requires.fits.dart).0

-- the new darts by the view of old
new_pair : (c : goal.After-set_cycle) → IsPlaced c.args.records.now.graph c.add_pair_on.new.self.graph c.add_vertex_on_edge-v.result c.source-end.result c.add_pair_on.result.0 c.add_pair_on.result.1
new_pair c = placed c.args.records.now.graph c.add_vertex_on_edge-v.new.self.graph c.add_pair_on.new.self.graph c.add_vertex_on_edge-v.result c.source-end.result c.args.p c.add_pair_on.result.0 c.add_pair_on.result.1 c.line-line.result c.add_vertex_on_edge-v.ensures.graph c.add_pair_on.ensures.graph c.add_pair_on.ensures.dart c.add_pair_on.ensures.twin c.add_pair_on.ensures.two

pub returns-clause-new_names : goal.returns-clause-new_names
returns-clause-new_names c = record { vertex = c.add_vertex_on_edge-v.ensures.name; first = (new_pair c).new_first; second = (new_pair c).new_second; two = c.add_pair_on.ensures.two }

made : (c : goal.After-set_cycle) → c.set_next-4.new.self.graph ≡ split_edge c.args.records.now.graph c.args.d c.add_vertex_on_edge-v.result c.args.p c.add_pair_on.result.0 c.add_pair_on.result.1
made c =
    let v : View = c.args.records.now.graph in
    let nx : next_in v c.twin-into_t.result ≡ twin_in v c.args.d = ap (λ z. next_in v z) c.twin-into_t.ensures.twin ∙ c.previous_around_source-before_t.ensures.after ∙ c.twin-t.ensures.twin in
    chained v c.args.d c.twin-into_t.result c.add_vertex_on_edge-v.result c.source-end.result c.args.p c.add_pair_on.result.0 c.add_pair_on.result.1 c.line-line.result c.requires.sound c.twin-into_t.ensures.has nx (new_pair c).new_first (new_pair c).new_second c.add_pair_on.ensures.two
    c.add_vertex_on_edge-v.new.self.graph c.add_pair_on.new.self.graph c.set_next.new.self.graph c.set_next-2.new.self.graph c.set_next-3.new.self.graph c.move_source.new.self.graph c.set_next-4.new.self.graph
    c.onward-beyond.result c.twin-t.result c.next-follower.result
    c.add_vertex_on_edge-v.ensures.graph c.add_pair_on.ensures.graph c.set_next.ensures.graph c.set_next-2.ensures.graph c.set_next-3.ensures.graph c.move_source.ensures.graph c.set_next-4.ensures.graph
    c.twin-t.ensures.twin c.next-follower.ensures c.source-end.ensures c.line-line.ensures.line c.onward-beyond.ensures

pub returns-clause-graph : goal.returns-clause-graph
returns-clause-graph c = ap (λ (h : GraphView). h.graph) c.set_cycle.ensures.graph ∙ made c

pub returns-clause-sound : goal.returns-clause-sound
returns-clause-sound c =
    subst (λ (g : View). IsGraphSound g) (sym (returns-clause-graph c))
    (split_is_sound c.args.records.now.graph c.args.d c.add_vertex_on_edge-v.result c.args.p c.add_pair_on.result.0 c.add_pair_on.result.1 c.requires.sound c.requires.fits c.laws.ensures c.add_vertex_on_edge-v.ensures.name (new_pair c).new_first (new_pair c).new_second c.add_pair_on.ensures.two)

pub set_cycle-requires-clause-cycle : goal.set_cycle-requires-clause-cycle
set_cycle-requires-clause-cycle c =
    let k = c.cycle-twin_cycle.result in
    subst (λ (f : FacesView). HasCycle f.tables k) (sym (c.set_next-4.ensures.faces ∙ c.move_source.ensures.faces ∙ c.set_next-3.ensures.faces ∙ c.set_next-2.ensures.faces ∙ c.set_next.ensures.faces ∙ c.add_pair_on.ensures.faces))
    (subst (λ (f : FacesView). HasCycle f.tables k) (sym c.add_vertex_on_edge-v.ensures.faces) c.cycle-twin_cycle.ensures.has)

pub set_cycle-requires-clause-dart : goal.set_cycle-requires-clause-dart
set_cycle-requires-clause-dart c =
    let i : IsPlaced c.args.records.now.graph c.set_next-3.new.self.graph c.add_vertex_on_edge-v.result c.source-end.result c.add_pair_on.result.0 c.add_pair_on.result.1 =
    followed c.args.records.now.graph c.set_next-2.new.self.graph c.set_next-3.new.self.graph c.add_vertex_on_edge-v.result c.source-end.result c.add_pair_on.result.0 c.add_pair_on.result.1 c.add_pair_on.result.1 c.twin-t.result c.set_next-3.ensures.graph
    (followed c.args.records.now.graph c.set_next.new.self.graph c.set_next-2.new.self.graph c.add_vertex_on_edge-v.result c.source-end.result c.add_pair_on.result.0 c.add_pair_on.result.1 c.add_pair_on.result.0 c.onward-beyond.result c.set_next-2.ensures.graph
    (followed c.args.records.now.graph c.add_pair_on.new.self.graph c.set_next.new.self.graph c.add_vertex_on_edge-v.result c.source-end.result c.add_pair_on.result.0 c.add_pair_on.result.1 c.twin-into_t.result c.add_pair_on.result.1 c.set_next.ensures.graph
    (placed c.args.records.now.graph c.add_vertex_on_edge-v.new.self.graph c.add_pair_on.new.self.graph c.add_vertex_on_edge-v.result c.source-end.result c.args.p c.add_pair_on.result.0 c.add_pair_on.result.1 c.line-line.result c.add_vertex_on_edge-v.ensures.graph c.add_pair_on.ensures.graph c.add_pair_on.ensures.dart c.add_pair_on.ensures.twin c.add_pair_on.ensures.two))) in
    subst (λ (g : View). HasDart g c.add_pair_on.result.1) (sym c.set_next-4.ensures.graph)
    ((next_is_set c.move_source.new.self.graph c.args.d c.add_pair_on.result.0).relinked.has c.add_pair_on.result.1
    (dart_kept c.set_next-3.new.self.graph c.move_source.new.self.graph c.twin-t.result c.add_vertex_on_edge-v.result c.move_source.ensures.graph c.add_pair_on.result.1 i.second.0))

pub returns-clause-faces : goal.returns-clause-faces
returns-clause-faces c =
    let old : FacesView = c.args.records.now.faces in
    let n = c.add_pair_on.result.0 in
    let m = c.add_pair_on.result.1 in
    let pair : c.set_next-4.new.self.faces ≡ record old { tables = on_cycle m c.cycle-cycle.result (on_cycle n c.cycle-cycle.result old.tables) } =
    c.set_next-4.ensures.faces ∙ c.move_source.ensures.faces ∙ c.set_next-3.ensures.faces ∙ c.set_next-2.ensures.faces ∙ c.set_next.ensures.faces ∙ c.add_pair_on.ensures.faces
    ∙ ap (λ (f : FacesView). record f { tables = on_cycle m c.cycle-cycle.result (on_cycle n c.cycle-cycle.result f.tables) }) c.add_vertex_on_edge-v.ensures.faces in
    c.set_cycle.ensures.faces
    ∙ ap (λ (f : FacesView). record f { tables = on_cycle m c.cycle-twin_cycle.result f.tables }) pair
    ∙ (λ i. record old { tables = record { cycle_of = put_again m.0 c.cycle-twin_cycle.result c.cycle-cycle.result (on_cycle n c.cycle-cycle.result old.tables).cycle_of i; bare = old.tables.bare; cycles = old.tables.cycles; faces = old.tables.faces } })
    ∙ (λ i. record old { tables = on_cycle m ((c.cycle-twin_cycle.ensures.cycle ∙ ap (cycle_in old.tables) c.twin-t.ensures.twin) i) (on_cycle n (c.cycle-cycle.ensures.cycle i) old.tables) })
