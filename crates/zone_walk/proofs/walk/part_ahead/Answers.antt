use Rattle.std.proofs.Common.{◌≤◌, ◌+◌, subst}
use Rattle.exact_plane.specs.Point.{Point}
use Rattle.plane_graphs.proofs.Lines.{point_is_proper}
use Rattle.plane_graphs.proofs.Order.{lt_out}
use Rattle.face_location.specs.Spots.{IsSpotOf}
use Rattle.zone_walk.specs.Walk.{stop_looks}
use Rattle.zone_walk.proofs.Courses.{course, lies_out}
use Rattle.zone_walk.proofs.PartsAhead.{nothing_there, face_there}
use Rattle.zone_walk.proofs.walk.part_ahead.Goals as goal

pub returns-in-Face-clause-part : goal.returns-in-Face-clause-part
returns-in-Face-clause-part g c =
    let v = g.T.NameCalls.graph c.args.sight.now in
    let f = g.T.NameCalls.faces c.args.sight.now in
    let s = c.args.segment.now in
    let k = course s c.lower.ensures.ends in
    let p = c.args.here.now.point in
    let h = subst (IsSpotOf v f p) c.in-Face.is c.requires.spot in
    let on = lies_out s p c.requires.on in
    let before = lt_out p s.upper c.requires.before in
    let proper = point_is_proper p c.laws.ensures in
    (nothing_there v f c.requires.sound.graph s k p proper on before h.met, face_there v f c.requires.sound.graph s k p proper on before c.in-Face.face h.met h.face)

pub returns-in-Vertex-clause-count : goal.returns-in-Vertex-clause-count
returns-in-Vertex-clause-count g c =
    let v = g.T.NameCalls.graph c.args.sight.now in
    let f = g.T.NameCalls.faces c.args.sight.now in
    let h = (subst (IsSpotOf v f c.args.here.now.point) c.in-Vertex.is c.requires.spot).met in
    subst (λ (p : Point). c.ahead_of_vertex-part.new.steps ≤ c.args.steps.now + stop_looks v c.args.segment.now p) h.1 c.ahead_of_vertex-part.ensures.count
