use Rattle.arrangement.proofs.FaceNumbers.{vertex_in_no_face, edge_in_no_face, face_told}
use Rattle.arrangement.proofs.arrangement.Arrangement.face_at.Goals as goal

pub returns-in-Vertex-clause-none : goal.returns-in-Vertex-clause-none
returns-in-Vertex-clause-none g c = rw (← c.self.view_is) (vertex_in_no_face _ _ c.self.invariant.0 c.self.invariant.1.0.map c.args.p.now c.laws.ensures c.spot_at.result c.spot_at.ensures c.in-Vertex.field-0 c.in-Vertex.is)

pub returns-in-Edge-clause-none : goal.returns-in-Edge-clause-none
returns-in-Edge-clause-none g c = rw (← c.self.view_is) (edge_in_no_face _ _ c.self.invariant.0 c.self.invariant.1.0.map c.args.p.now c.laws.ensures c.spot_at.result c.spot_at.ensures c.in-Edge.field-0 c.in-Edge.is)

pub returns-in-Face-clause-face : goal.returns-in-Face-clause-face
returns-in-Face-clause-face g c =
    let t = face_told _ _ c.self.invariant.0 c.self.invariant.1.0.map c.args.p.now c.laws.ensures c.spot_at.result c.spot_at.ensures c.in-Face.face c.in-Face.is in
    rw (← c.self.view_is) (record { has = t.0; located = t.1 })
