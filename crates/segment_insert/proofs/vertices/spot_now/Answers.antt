use Rattle.std.proofs.Common.{subst, refl}
use Rattle.dcel_records.specs.RecordsView.{tables_of}
use Rattle.dcel_records.specs.Spots.{met_of}
use Rattle.dcel_records.specs.declared.spot.Spot.{Spot}
use Rattle.face_location.specs.Spots.{IsFaceNamed}
use Rattle.segment_insert.specs.Coming.{IsMetStill}
use Rattle.segment_insert.proofs.vertices.spot_now.Goals as goal

pub part_at-requires-clause-part : goal.part_at-requires-clause-part
part_at-requires-clause-part c =
    let y = subst (λ (z : Spot). IsMetStill c.args.records.now.graph c.requires.met.0 c.args.meeting.now.point (met_of z)) c.in-Edge.is c.requires.met.1 in
    (y.0, y.1)

pub returns-in-Vertex-clause-met : goal.returns-in-Vertex-clause-met
returns-in-Vertex-clause-met c =
    let v = c.args.records.now.graph in
    let p = c.args.meeting.now.point in
    rw c.in-Vertex.is (refl, subst (λ (z : Spot). IsMetStill v c.requires.met.0 p (met_of z)) c.in-Vertex.is c.requires.met.1)

pub returns-in-Edge-clause-met : goal.returns-in-Edge-clause-met
returns-in-Edge-clause-met c = rw c.in-Edge.is (c.part_at.result, refl, c.part_at.ensures)

pub returns-in-Face-clause-met : goal.returns-in-Face-clause-met
returns-in-Face-clause-met c =
    let v = c.args.records.now.graph in
    let p = c.args.meeting.now.point in
    rw c.in-Face.is (refl, subst (λ (z : Spot). IsMetStill v c.requires.met.0 p (met_of z)) c.in-Face.is c.requires.met.1)

pub returns-in-Face-clause-face : goal.returns-in-Face-clause-face
returns-in-Face-clause-face c = subst (IsFaceNamed c.args.records.now.graph (tables_of c.args.records.now) c.args.meeting.now.point) c.in-Face.is c.requires.face
