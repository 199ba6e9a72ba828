use Rattle.std.proofs.Common.{sym, ap, subst, ◌∙◌}
use Rattle.slab_laws.specs.View.{View, HasBareFace, HasFace, HasVertex}
use Rattle.arr_notes.specs.FaceWriters.{bare_in}
use Rattle.arr_notes.proofs.VertexReads.{vertex_is_added}
use Rattle.dcel_records.specs.ListChanges.{vertex_listed}
use Rattle.dcel_records.specs.RecordsView.{FacesView, GraphView, IsSpare, IsSpareFaces, lists_in_view}
use Rattle.dcel_records.proofs.records.Records.add_vertex.Goals as goal

pub set_bare-requires-clause-vertex : goal.set_bare-requires-clause-vertex
set_bare-requires-clause-vertex c =
    let e = c.add_vertex_on_edge-v.ensures in
    subst (λ (g : View). HasVertex g c.add_vertex_on_edge-v.result) (sym e.graph) (vertex_is_added c.args.self.now.graph c.add_vertex_on_edge-v.result c.args.point).has

pub set_bare-requires-clause-elsewhere : goal.set_bare-requires-clause-elsewhere
set_bare-requires-clause-elsewhere c =
    let e = c.add_vertex_on_edge-v.ensures in
    subst (λ (f : FacesView). ¬ HasBareFace f.tables c.add_vertex_on_edge-v.result) (sym e.faces) (λ b. e.name (c.face_laws.ensures.isolated c.add_vertex_on_edge-v.result b))

pub set_bare-requires-clause-face : goal.set_bare-requires-clause-face
set_bare-requires-clause-face c = subst (λ (f : FacesView). HasFace f.tables c.args.face) (sym c.add_vertex_on_edge-v.ensures.faces) c.requires.face

pub returns-clause-graph : goal.returns-clause-graph
returns-clause-graph c = ap (λ (h : GraphView). h.graph) c.set_bare.ensures.graph ∙ c.add_vertex_on_edge-v.ensures.graph

pub returns-clause-spare : goal.returns-clause-spare
returns-clause-spare c =
    let new = c.set_bare.new.self in
    let e = c.add_vertex_on_edge-v.ensures.spare in
    subst
    (λ (h : GraphView). IsSpare (record new { graph = h.graph; spare_vertices = h.spare_vertices; spare_darts = h.spare_darts; capacity_of_vertices = h.capacity_of_vertices; capacity_of_darts = h.capacity_of_darts }) c.args.self.now 1 0)
    (sym c.set_bare.ensures.graph)
    (record { of_vertices = e.of_vertices; of_darts = e.of_darts; capacity_of_vertices = e.capacity_of_vertices; capacity_of_darts = e.capacity_of_darts })

pub returns-clause-tables : goal.returns-clause-tables
returns-clause-tables c = c.set_bare.ensures.tables ∙ ap (λ (f : FacesView). bare_in c.add_vertex_on_edge-v.result c.args.face f.tables) c.add_vertex_on_edge-v.ensures.faces

pub returns-clause-lists : goal.returns-clause-lists
returns-clause-lists c = c.set_bare.ensures.lists ∙ ap (λ (f : FacesView). vertex_listed c.add_vertex_on_edge-v.result c.args.face (lists_in_view f)) c.add_vertex_on_edge-v.ensures.faces

pub returns-clause-spare_faces : goal.returns-clause-spare_faces
returns-clause-spare_faces c = subst (λ (f : FacesView). IsSpareFaces f c.set_bare.new.self.faces 0 0) c.add_vertex_on_edge-v.ensures.faces c.set_bare.ensures.spare

pub returns-clause-moved : goal.returns-clause-moved
returns-clause-moved c = c.set_bare.ensures.moved ∙ ap (λ (f : FacesView). f.moved) c.add_vertex_on_edge-v.ensures.faces
