use Rattle.std.proofs.Common.{◌≡◌, ◌++◌, List, [], sym, ap, ◌∙◌, subst, arith, length}
use Rattle.plane_graphs.specs.Ascending.{Member}
use Rattle.slab_laws.specs.declared.names.CycleId.{CycleId}
use Rattle.slab_laws.specs.declared.names.FaceId.{FaceId}
use Rattle.slab_laws.specs.declared.names.VertexId.{VertexId}
use Rattle.slab_laws.specs.FaceLists.{Lists, MovedView}
use Rattle.slab_laws.specs.View.{View, Faces, HasVertex, HasDart, HasCycle, HasFace, cycle_in}
use Rattle.arr_notes.specs.FaceWriters.{moved_to, without_cycle, without_face}
use Rattle.dcel_records.specs.ListChanges.{cycle_unlisted}
use Rattle.dcel_records.specs.RecordsView.{FacesView, GraphView, graph_part, lists_in_view, lists_of}
use Rattle.cycle_writers.specs.declared.moves.Which.TheVariants.{All}
use Rattle.cycle_writers.specs.Taken.{cycles_taken, vertices_taken}
use Rattle.edge_unlink.proofs.Emptied.{both_moved, still_there, no_cycles, no_vertices}
use Rattle.edge_unlink.proofs.uniting.unite_faces.Goals as goal

pub move_isolated-requires-clause-vertices : goal.move_isolated-requires-clause-vertices
move_isolated-requires-clause-vertices c =
    let bare : (lists_of c.move_cycles.new.records).bare ≡ (lists_of c.args.records.now).bare = c.move_cycles.ensures.bare ∙ ap (λ (f : FacesView). (lists_in_view f).bare) c.take_moved-moved.ensures.faces in
    let graph : graph_part c.move_cycles.new.records ≡ graph_part c.args.records.now = c.move_cycles.ensures.graph ∙ c.take_moved-moved.ensures.graph in
    λ v m. subst (λ (g : GraphView). HasVertex g.graph v) (sym graph) (c.requires.vertices v ((c.face_laws.ensures.listed.bare c.args.from v).0 (subst (λ (b : FaceId → List VertexId). Member v (b c.args.from)) bare m)).0)

pub move_isolated-requires-clause-room : goal.move_isolated-requires-clause-room
move_isolated-requires-clause-room c =
    let bare = c.move_cycles.ensures.bare ∙ ap (λ (f : FacesView). (lists_in_view f).bare) c.take_moved-moved.ensures.faces in
    let listed : length ((lists_of c.move_cycles.new.records).bare c.args.from) ≡ length ((lists_of c.args.records.now).bare c.args.from) = ap (λ (b : FaceId → List VertexId). length (b c.args.from)) bare in
    let vertices : length c.move_cycles.new.moved.vertices ≡ 0 = ap (λ (m : MovedView). length m.vertices) c.move_cycles.ensures.moved ∙ ap length c.take_moved-moved.ensures.vertices in
    let room = ap (λ (m : MovedView). m.room_of_vertices) c.move_cycles.ensures.moved in
    let fit = c.face_laws.ensures.vertices_fit c.args.from in
    let enough = c.take_moved-moved.ensures.returned.of_vertices in
    omega arith

-- the tables when all has moved
abbrev emptied : View → CycleId → FaceId → FaceId → FacesView → Faces
emptied v gone from to f = moved_to (cycles_taken v All gone (lists_in_view f) from) (vertices_taken v All (lists_in_view f) from) to f.tables

pub remove_cycle-requires-clause-cycle : goal.remove_cycle-requires-clause-cycle
remove_cycle-requires-clause-cycle c =
    let v : View = c.args.records.now.graph in
    let f : FacesView = c.args.records.now.faces in
    let moved : c.move_isolated.new.records.faces.tables ≡ emptied v c.args.gone c.args.from c.args.to f =
    both_moved v c.args.gone c.args.from c.args.to f c.take_moved-moved.new.self.faces c.move_cycles.new.records.faces.tables c.move_isolated.new.records.faces.tables (lists_of c.move_cycles.new.records)
    c.take_moved-moved.ensures.faces c.move_cycles.ensures.tables c.move_cycles.ensures.bare c.move_isolated.ensures.tables
    in
    subst (λ (s : Faces). HasCycle s c.args.gone) (sym moved) (still_there f.tables c.args.gone c.args.to _ (vertices_taken v All (lists_in_view f) c.args.from) c.face_laws.ensures.cycles_ascend c.args.gone c.requires.gone)

pub remove_cycle-requires-clause-off : goal.remove_cycle-requires-clause-off
remove_cycle-requires-clause-off c =
    let v : View = c.args.records.now.graph in
    let f : FacesView = c.args.records.now.faces in
    let moved : c.move_isolated.new.records.faces.tables ≡ emptied v c.args.gone c.args.from c.args.to f =
    both_moved v c.args.gone c.args.from c.args.to f c.take_moved-moved.new.self.faces c.move_cycles.new.records.faces.tables c.move_isolated.new.records.faces.tables (lists_of c.move_cycles.new.records)
    c.take_moved-moved.ensures.faces c.move_cycles.ensures.tables c.move_cycles.ensures.bare c.move_isolated.ensures.tables
    in
    let graph = c.move_isolated.ensures.graph ∙ c.move_cycles.ensures.graph ∙ c.take_moved-moved.ensures.graph in
    λ k o e. c.requires.off k (subst (λ (g : GraphView). HasDart g.graph k) graph o) (sym (ap (λ (s : Faces). cycle_in s k) moved) ∙ e)

pub remove_face-requires-clause-face : goal.remove_face-requires-clause-face
remove_face-requires-clause-face c =
    let v : View = c.args.records.now.graph in
    let f : FacesView = c.args.records.now.faces in
    let moved : c.move_isolated.new.records.faces.tables ≡ emptied v c.args.gone c.args.from c.args.to f =
    both_moved v c.args.gone c.args.from c.args.to f c.take_moved-moved.new.self.faces c.move_cycles.new.records.faces.tables c.move_isolated.new.records.faces.tables (lists_of c.move_cycles.new.records)
    c.take_moved-moved.ensures.faces c.move_cycles.ensures.tables c.move_cycles.ensures.bare c.move_isolated.ensures.tables
    in
    subst (λ (s : Faces). HasFace s c.args.from) (sym (c.remove_cycle.ensures.tables ∙ ap (without_cycle c.args.gone) moved)) c.requires.from

pub remove_face-requires-clause-cycles : goal.remove_face-requires-clause-cycles
remove_face-requires-clause-cycles c =
    let v : View = c.args.records.now.graph in
    let f : FacesView = c.args.records.now.faces in
    let moved : c.move_isolated.new.records.faces.tables ≡ emptied v c.args.gone c.args.from c.args.to f =
    both_moved v c.args.gone c.args.from c.args.to f c.take_moved-moved.new.self.faces c.move_cycles.new.records.faces.tables c.move_isolated.new.records.faces.tables (lists_of c.move_cycles.new.records)
    c.take_moved-moved.ensures.faces c.move_cycles.ensures.tables c.move_cycles.ensures.bare c.move_isolated.ensures.tables
    in
    no_cycles v f.tables (lists_in_view f) c.args.gone c.args.from c.args.to c.requires.two c.face_laws.ensures.listed c.face_laws.ensures.cycles_ascend c.remove_cycle.new.self.faces.tables (lists_of c.remove_cycle.new.self)
    (c.remove_cycle.ensures.tables ∙ ap (without_cycle c.args.gone) moved) c.face_laws-2.ensures.listed

pub remove_face-requires-clause-bare : goal.remove_face-requires-clause-bare
remove_face-requires-clause-bare c =
    let v : View = c.args.records.now.graph in
    let f : FacesView = c.args.records.now.faces in
    let moved : c.move_isolated.new.records.faces.tables ≡ emptied v c.args.gone c.args.from c.args.to f =
    both_moved v c.args.gone c.args.from c.args.to f c.take_moved-moved.new.self.faces c.move_cycles.new.records.faces.tables c.move_isolated.new.records.faces.tables (lists_of c.move_cycles.new.records)
    c.take_moved-moved.ensures.faces c.move_cycles.ensures.tables c.move_cycles.ensures.bare c.move_isolated.ensures.tables
    in
    no_vertices v f.tables (lists_in_view f) c.args.gone c.args.from c.args.to c.requires.two c.face_laws.ensures.listed c.face_laws.ensures.cycles_ascend c.remove_cycle.new.self.faces.tables (lists_of c.remove_cycle.new.self)
    (c.remove_cycle.ensures.tables ∙ ap (without_cycle c.args.gone) moved) c.face_laws-2.ensures.listed

pub returns-clause-vertices : goal.returns-clause-vertices
returns-clause-vertices c =
    let v : View = c.args.records.now.graph in
    let bare : (lists_of c.move_cycles.new.records).bare ≡ (lists_of c.args.records.now).bare = c.move_cycles.ensures.bare ∙ ap (λ (f : FacesView). (lists_in_view f).bare) c.take_moved-moved.ensures.faces in
    let none : c.move_cycles.new.moved.vertices ≡ [] = ap (λ (m : MovedView). m.vertices) c.move_cycles.ensures.moved ∙ c.take_moved-moved.ensures.vertices in
    ap (λ (m : MovedView). m.vertices) c.move_isolated.ensures.moved
    ∙ (λ i. none i ++ vertices_taken v All (record { cycles = (lists_of c.args.records.now).cycles; bare = bare i; dart_on = (lists_of c.args.records.now).dart_on }) c.args.from)

pub returns-clause-tables : goal.returns-clause-tables
returns-clause-tables c =
    let v : View = c.args.records.now.graph in
    let f : FacesView = c.args.records.now.faces in
    let moved : c.move_isolated.new.records.faces.tables ≡ emptied v c.args.gone c.args.from c.args.to f =
    both_moved v c.args.gone c.args.from c.args.to f c.take_moved-moved.new.self.faces c.move_cycles.new.records.faces.tables c.move_isolated.new.records.faces.tables (lists_of c.move_cycles.new.records)
    c.take_moved-moved.ensures.faces c.move_cycles.ensures.tables c.move_cycles.ensures.bare c.move_isolated.ensures.tables
    in
    let cycles : c.move_isolated.new.moved.cycles ≡ cycles_taken v All c.args.gone (lists_in_view f) c.args.from =
    ap (λ (m : MovedView). m.cycles) c.move_isolated.ensures.moved
    ∙ ap (λ (m : MovedView). m.cycles) c.move_cycles.ensures.moved
    ∙ (λ i. c.take_moved-moved.ensures.cycles i ++ cycles_taken v All c.args.gone (lists_in_view (c.take_moved-moved.ensures.faces i)) c.args.from)
    in
    let vertices : c.move_isolated.new.moved.vertices ≡ vertices_taken v All (lists_in_view f) c.args.from = returns-clause-vertices c in
    c.remove_face.ensures.tables
    ∙ ap (without_face c.args.from) (c.remove_cycle.ensures.tables ∙ ap (without_cycle c.args.gone) moved)
    ∙ (λ i. without_face c.args.from (without_cycle c.args.gone (moved_to (sym cycles i) (sym vertices i) c.args.to f.tables)))

pub returns-clause-darts : goal.returns-clause-darts
returns-clause-darts c =
    let darts : (lists_of c.move_isolated.new.records).dart_on ≡ (lists_of c.args.records.now).dart_on =
    c.move_isolated.ensures.darts ∙ c.move_cycles.ensures.darts ∙ ap (λ (f : FacesView). (lists_in_view f).dart_on) c.take_moved-moved.ensures.faces
    in
    ap (λ (l : Lists). l.dart_on) (c.remove_face.ensures.lists ∙ c.remove_cycle.ensures.lists)
    ∙ (λ i. (cycle_unlisted c.args.gone (record { cycles = (lists_of c.args.records.now).cycles; bare = (lists_of c.args.records.now).bare; dart_on = darts i })).dart_on)
