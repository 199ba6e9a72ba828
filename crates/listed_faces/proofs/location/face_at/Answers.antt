use Rattle.plane_graphs.proofs.Lines.{point_is_proper}
use Rattle.subdivision_rows.specs.Listed.{view_of}
use Rattle.dcel_records.specs.Spots.{IsInFace}
use Rattle.listed_faces.proofs.Located.{face_listed, vertex_in_none, edge_in_none}
use Rattle.listed_faces.proofs.location.face_at.Goals as goal

pub returns-in-Some-clause-none : goal.returns-in-Some-clause-none
returns-in-Some-clause-none c = vertex_in_none c.args.rows.now c.laws.ensures.plane c.laws.ensures.lines c.args.p.now c.in-Some.field-0 c.in-Some.ensures.some

pub returns-in-Through-clause-none : goal.returns-in-Through-clause-none
returns-in-Through-clause-none c =
    edge_in_none c.args.rows.now c.laws.ensures.plane c.laws.ensures.lines c.args.p.now c.in-Through.field-0 c.in-Through.ensures.0 c.in-Through.ensures.2

pub returns-in-Below-clause-face : goal.returns-in-Below-clause-face
returns-in-Below-clause-face c =
    let d = c.args.rows.now in
    let p = c.args.p.now in
    let proper = point_is_proper p c.laws-2.ensures in
    let spot : IsInFace (view_of d) p = record { no_vertex = c.in_default.ensures.none; no_edge = c.in-Below.ensures.off } in
    face_listed d c.laws.ensures.plane c.laws.ensures.lines p proper spot c.face_over.result c.face_over.ensures.has (c.face_over.ensures.face p proper spot c.in-Below.ensures.highest)
