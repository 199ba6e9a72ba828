use Rattle.std.proofs.Common.{◌≡◌, ◌++◌, List, [], length, sym, ap, subst, ◌∙◌, arith}
use Rattle.std.specs.List.{filter}
use Rattle.plane_graphs.specs.Ascending.{Member}
use Rattle.slab_laws.specs.declared.names.CycleId.{CycleId}
use Rattle.slab_laws.specs.declared.names.FaceId.{FaceId}
use Rattle.slab_laws.specs.declared.names.VertexId.{VertexId}
use Rattle.slab_laws.specs.FaceLists.{MovedView}
use Rattle.slab_laws.specs.View.{HasVertex}
use Rattle.arr_notes.specs.FaceWriters.{moved_to}
use Rattle.dcel_records.specs.RecordsView.{RecordsView, graph_part, lists_of, lists_in_view}
use Rattle.cycle_writers.specs.declared.moves.Which.{Which}
use Rattle.cycle_writers.specs.Taken.{takes_vertex, cycles_taken, vertices_taken}
use Rattle.cycle_writers.proofs.MovedBoth.{moved_both}
use Rattle.cycle_writers.proofs.carried.carry_off.Goals as goal

-- taken from a face, where graph and list are as they were
same_taken : (old new : RecordsView) (which : Which) (a : FaceId) → graph_part new ≡ graph_part old → (lists_of new).bare ≡ (lists_of old).bare → vertices_taken new.graph which (lists_of new) a ≡ vertices_taken old.graph which (lists_of old) a
same_taken old new which a g b = λ j. filter (takes_vertex (g j).graph which) (b j a)

pub move_isolated-requires-clause-vertices : goal.move_isolated-requires-clause-vertices
move_isolated-requires-clause-vertices c v o =
    let t = c.take_moved-moved.ensures in
    let m = c.move_cycles.ensures in
    let bare : (lists_of c.move_cycles.new.records).bare ≡ (lists_of c.args.records.now).bare = m.bare ∙ ap (λ f. (lists_in_view f).bare) t.faces in
    subst (λ g. HasVertex g v) (sym (ap (λ p. p.graph) (m.graph ∙ t.graph))) (c.requires.vertices v (subst (Member v) (ap (λ h. h c.args.from) bare) o))

pub move_isolated-requires-clause-room : goal.move_isolated-requires-clause-room
move_isolated-requires-clause-room c =
    let t = c.take_moved-moved.ensures in
    let m = c.move_cycles.ensures in
    let none : length c.move_cycles.new.moved.vertices ≡ 0 = ap (λ (z : MovedView). length z.vertices) m.moved ∙ ap length t.vertices in
    let room : c.move_cycles.new.moved.room_of_vertices ≡ c.take_moved-moved.result.room_of_vertices = ap (λ (z : MovedView). z.room_of_vertices) m.moved in
    let bare : length ((lists_of c.move_cycles.new.records).bare c.args.from) ≡ length ((lists_of c.args.records.now).bare c.args.from) = ap (λ h. length (h c.args.from)) (m.bare ∙ ap (λ f. (lists_in_view f).bare) t.faces) in
    omega (arith, none, room, bare, c.face_laws.ensures.vertices_fit c.args.from, t.returned.of_vertices)

pub returns-clause-vertices : goal.returns-clause-vertices
returns-clause-vertices c =
    let t = c.take_moved-moved.ensures in
    let m = c.move_cycles.ensures in
    let i = c.move_isolated.ensures in
    let none : c.move_cycles.new.moved.vertices ≡ [] = ap (λ (z : MovedView). z.vertices) m.moved ∙ t.vertices in
    ap (λ (z : MovedView). z.vertices) i.moved
    ∙ ap (λ us. us ++ vertices_taken c.move_cycles.new.records.graph c.args.which.now (lists_of c.move_cycles.new.records) c.args.from) none
    ∙ same_taken c.args.records.now c.move_cycles.new.records c.args.which.now c.args.from (m.graph ∙ t.graph) (m.bare ∙ ap (λ f. (lists_in_view f).bare) t.faces)

pub returns-clause-tables : goal.returns-clause-tables
returns-clause-tables c =
    let t = c.take_moved-moved.ensures in
    let m = c.move_cycles.ensures in
    let i = c.move_isolated.ensures in
    let a = c.args.to in
    let cs = cycles_taken c.take_moved-moved.new.self.graph c.args.which.now c.args.but (lists_of c.take_moved-moved.new.self) c.args.from in
    let us = vertices_taken c.move_cycles.new.records.graph c.args.which.now (lists_of c.move_cycles.new.records) c.args.from in
    let cycles : c.move_isolated.new.moved.cycles ≡ cs = ap (λ (z : MovedView). z.cycles) i.moved ∙ ap (λ (z : MovedView). z.cycles) m.moved ∙ ap (λ (xs : List CycleId). xs ++ cs) t.cycles in
    let vertices : c.move_isolated.new.moved.vertices ≡ us = ap (λ (z : MovedView). z.vertices) i.moved ∙ ap (λ (xs : List VertexId). xs ++ us) (ap (λ (z : MovedView). z.vertices) m.moved ∙ t.vertices) in
    i.tables ∙ ap (moved_to [] us a) m.tables ∙ moved_both cs us a c.take_moved-moved.new.self.faces.tables
    ∙ (λ j. moved_to (sym cycles j) (sym vertices j) a (t.faces j).tables)

pub returns-clause-darts : goal.returns-clause-darts
returns-clause-darts c = c.move_isolated.ensures.darts ∙ c.move_cycles.ensures.darts ∙ ap (λ f. (lists_in_view f).dart_on) c.take_moved-moved.ensures.faces
