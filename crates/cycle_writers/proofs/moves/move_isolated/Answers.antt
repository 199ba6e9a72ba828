use Rattle.std.proofs.Common.{◌<◌, [], ◌∷◌, ◌++◌, Option, Some, sym, subst, ◌∙◌}
use Rattle.slab_laws.specs.declared.names.VertexId.{VertexId}
use Rattle.slab_laws.specs.View.{HasVertex}
use Rattle.dcel_records.specs.RecordsView.{lists_of}
use Rattle.cycle_writers.proofs.MovedVertices.{AreVerticesMoving, vertices_left, begins, has_bare, listed, graph_is, taken_is, ys, stays, stays_less, goes, goes_less}
use Rattle.cycle_writers.proofs.Still.{IsStill}
use Rattle.cycle_writers.proofs.moves.move_isolated.Goals as goal

pub vertices-init : goal.vertices-init
vertices-init c =
    ([], (lists_of c.args.records.now).bare c.args.from, begins c.args.which.now c.args.from c.args.to c.requires.two c.args.records.now c.args.moved.now c.first_isolated_in-next.result c.first_isolated_in-next.ensures c.requires.room)

pub isolated_after_in_face-next-requires : goal.isolated_after_in_face-next-requires
isolated_after_in_face-next-requires c =
    let w = c.vertices.invariant in
    let m : AreVerticesMoving c.args.which.now c.args.from c.args.to c.args.records.now c.args.moved.now c.vertices.records c.vertices.moved (Some c.in-Some.vertex) w.0 w.1 =
    subst (λ (o : Option VertexId). AreVerticesMoving c.args.which.now c.args.from c.args.to c.args.records.now c.args.moved.now c.vertices.records c.vertices.moved o w.0 w.1) c.in-Some.is w.2 in
    has_bare c.args.which.now c.args.from c.args.to c.requires.two c.args.records.now c.args.moved.now c.vertices.records c.vertices.moved c.in-Some.vertex w.0 w.1 m c.face_laws.ensures.listed

pub takes_vertex-requires-clause-vertex : goal.takes_vertex-requires-clause-vertex
takes_vertex-requires-clause-vertex c =
    let w = c.vertices.invariant in
    let m : AreVerticesMoving c.args.which.now c.args.from c.args.to c.args.records.now c.args.moved.now c.vertices.records c.vertices.moved (Some c.in-Some.vertex) w.0 w.1 =
    subst (λ (o : Option VertexId). AreVerticesMoving c.args.which.now c.args.from c.args.to c.args.records.now c.args.moved.now c.vertices.records c.vertices.moved o w.0 w.1) c.in-Some.is w.2 in
    subst (λ g. HasVertex g c.in-Some.vertex) (sym (graph_is c.args.which.now c.args.from c.args.to c.requires.two c.args.records.now c.args.moved.now c.vertices.records c.vertices.moved c.in-Some.vertex w.0 w.1 m c.face_laws.ensures.listed)) (c.requires.vertices c.in-Some.vertex (listed c.args.which.now c.args.from c.args.to c.requires.two c.args.records.now c.args.moved.now c.vertices.records c.vertices.moved c.in-Some.vertex w.0 w.1 m c.face_laws.ensures.listed))

pub move_bare-requires-clause-vertex : goal.move_bare-requires-clause-vertex
move_bare-requires-clause-vertex c =
    let w = c.vertices.invariant in
    let m : AreVerticesMoving c.args.which.now c.args.from c.args.to c.args.records.now c.args.moved.now c.vertices.records c.vertices.moved (Some c.in-Some.vertex) w.0 w.1 =
    subst (λ (o : Option VertexId). AreVerticesMoving c.args.which.now c.args.from c.args.to c.args.records.now c.args.moved.now c.vertices.records c.vertices.moved o w.0 w.1) c.in-Some.is w.2 in
    has_bare c.args.which.now c.args.from c.args.to c.requires.two c.args.records.now c.args.moved.now c.vertices.records c.vertices.moved c.in-Some.vertex w.0 w.1 m c.face_laws.ensures.listed

pub vertices-smaller-then-takes_vertex : goal.vertices-smaller-then-takes_vertex
vertices-smaller-then-takes_vertex c =
    let w = c.vertices.invariant in
    let m : AreVerticesMoving c.args.which.now c.args.from c.args.to c.args.records.now c.args.moved.now c.vertices.records c.vertices.moved (Some c.in-Some.vertex) w.0 w.1 =
    subst (λ (o : Option VertexId). AreVerticesMoving c.args.which.now c.args.from c.args.to c.args.records.now c.args.moved.now c.vertices.records c.vertices.moved o w.0 w.1) c.in-Some.is w.2 in
    let t = sym (taken_is c.args.which.now c.args.from c.args.to c.requires.two c.args.records.now c.args.moved.now c.vertices.records c.vertices.moved c.in-Some.vertex w.0 w.1 m c.face_laws.ensures.listed) ∙ sym c.takes_vertex.ensures ∙ c.if-takes_vertex.true in
    subst (λ (o : Option VertexId). vertices_left c.move_bare.new.self c.args.from c.isolated_after_in_face-next.result < vertices_left c.vertices.records c.args.from o) (sym c.in-Some.is) (goes_less c.args.which.now c.args.from c.args.to c.requires.two c.args.records.now c.args.moved.now c.vertices.records c.vertices.moved c.in-Some.vertex w.0 w.1 m c.face_laws.ensures.listed c.isolated_after_in_face-next.result c.isolated_after_in_face-next.ensures t c.move_bare.new.self c.move_bare.ensures.lists)

pub vertices-preserved-then-takes_vertex : goal.vertices-preserved-then-takes_vertex
vertices-preserved-then-takes_vertex c =
    let w = c.vertices.invariant in
    let m : AreVerticesMoving c.args.which.now c.args.from c.args.to c.args.records.now c.args.moved.now c.vertices.records c.vertices.moved (Some c.in-Some.vertex) w.0 w.1 =
    subst (λ (o : Option VertexId). AreVerticesMoving c.args.which.now c.args.from c.args.to c.args.records.now c.args.moved.now c.vertices.records c.vertices.moved o w.0 w.1) c.in-Some.is w.2 in
    let t = sym (taken_is c.args.which.now c.args.from c.args.to c.requires.two c.args.records.now c.args.moved.now c.vertices.records c.vertices.moved c.in-Some.vertex w.0 w.1 m c.face_laws.ensures.listed) ∙ sym c.takes_vertex.ensures ∙ c.if-takes_vertex.true in
    let still : IsStill c.vertices.records c.move_bare.new.self = record { darts = λ i. (c.move_bare.ensures.lists i).dart_on; spare = c.move_bare.ensures.spare; returned = c.move_bare.ensures.moved; graph = c.move_bare.ensures.graph } in
    (w.0 ++ c.in-Some.vertex ∷ [], ys c.args.which.now c.args.from c.args.to c.requires.two c.args.records.now c.args.moved.now c.vertices.records c.vertices.moved c.in-Some.vertex w.0 w.1 m c.face_laws.ensures.listed, goes c.args.which.now c.args.from c.args.to c.requires.two c.args.records.now c.args.moved.now c.vertices.records c.vertices.moved c.in-Some.vertex w.0 w.1 m c.face_laws.ensures.listed c.isolated_after_in_face-next.result c.isolated_after_in_face-next.ensures t c.move_bare.new.self c.move_bare.ensures.lists c.move_bare.ensures.tables c.face_laws.ensures.bare_ascend still c.push_vertex.new.self c.push_vertex.ensures.vertices c.push_vertex.ensures.cycles c.push_vertex.ensures.room_of_cycles c.push_vertex.ensures.room_of_vertices)

pub vertices-smaller : goal.vertices-smaller
vertices-smaller c =
    let w = c.vertices.invariant in
    let m : AreVerticesMoving c.args.which.now c.args.from c.args.to c.args.records.now c.args.moved.now c.vertices.records c.vertices.moved (Some c.in-Some.vertex) w.0 w.1 =
    subst (λ (o : Option VertexId). AreVerticesMoving c.args.which.now c.args.from c.args.to c.args.records.now c.args.moved.now c.vertices.records c.vertices.moved o w.0 w.1) c.in-Some.is w.2 in
    let t = sym (taken_is c.args.which.now c.args.from c.args.to c.requires.two c.args.records.now c.args.moved.now c.vertices.records c.vertices.moved c.in-Some.vertex w.0 w.1 m c.face_laws.ensures.listed) ∙ sym c.takes_vertex.ensures ∙ c.if-takes_vertex.false in
    subst (λ (o : Option VertexId). vertices_left c.vertices.records c.args.from c.isolated_after_in_face-next.result < vertices_left c.vertices.records c.args.from o) (sym c.in-Some.is) (stays_less c.args.which.now c.args.from c.args.to c.requires.two c.args.records.now c.args.moved.now c.vertices.records c.vertices.moved c.in-Some.vertex w.0 w.1 m c.face_laws.ensures.listed c.isolated_after_in_face-next.result c.isolated_after_in_face-next.ensures t)

pub vertices-preserved : goal.vertices-preserved
vertices-preserved c =
    let w = c.vertices.invariant in
    let m : AreVerticesMoving c.args.which.now c.args.from c.args.to c.args.records.now c.args.moved.now c.vertices.records c.vertices.moved (Some c.in-Some.vertex) w.0 w.1 =
    subst (λ (o : Option VertexId). AreVerticesMoving c.args.which.now c.args.from c.args.to c.args.records.now c.args.moved.now c.vertices.records c.vertices.moved o w.0 w.1) c.in-Some.is w.2 in
    let t = sym (taken_is c.args.which.now c.args.from c.args.to c.requires.two c.args.records.now c.args.moved.now c.vertices.records c.vertices.moved c.in-Some.vertex w.0 w.1 m c.face_laws.ensures.listed) ∙ sym c.takes_vertex.ensures ∙ c.if-takes_vertex.false in
    (w.0 ++ c.in-Some.vertex ∷ [], ys c.args.which.now c.args.from c.args.to c.requires.two c.args.records.now c.args.moved.now c.vertices.records c.vertices.moved c.in-Some.vertex w.0 w.1 m c.face_laws.ensures.listed, stays c.args.which.now c.args.from c.args.to c.requires.two c.args.records.now c.args.moved.now c.vertices.records c.vertices.moved c.in-Some.vertex w.0 w.1 m c.face_laws.ensures.listed c.isolated_after_in_face-next.result c.isolated_after_in_face-next.ensures t)
