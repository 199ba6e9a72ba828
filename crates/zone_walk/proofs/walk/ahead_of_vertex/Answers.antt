use Rattle.std.proofs.Common.{◌≡◌, arith, refl, sym, ap, ◌∙◌, subst}
use Rattle.exact_plane.specs.Direction.{Direction, direction_of}
use Rattle.exact_plane.specs.Line.{Line}
use Rattle.exact_plane.specs.Segment.{Segment, line_of_segment}
use Rattle.exact_plane.specs.Span.{Span, span_of_segment}
use Rattle.plane_graphs.proofs.Order.{lt_out}
use Rattle.zone_walk.specs.Parts.{TellsFace}
use Rattle.slab_laws.specs.declared.names.FaceId.{FaceId}
use Rattle.slab_laws.specs.declared.names.VertexId.{VertexId}
use Rattle.slab_laws.specs.View.{View, point_in, cycle_in, face_in}
use Rattle.rotation_order.specs.Place.{IsPlaceOf}
use Rattle.rotation_order.specs.declared.places.Place.{Place}
use Rattle.rotation_order.specs.declared.places.Place.TheVariants.{Along, Between}
use Rattle.zone_walk.proofs.Courses.{course, lies_out}
use Rattle.zone_walk.proofs.Looks.{vertex_turn, vertex_along}
use Rattle.zone_walk.proofs.PartsAhead.{leaves_along, none_between, none_bare, at_place, at_bare}
use Rattle.zone_walk.proofs.walk.ahead_of_vertex.Goals as goal

-- the direction of the line of a span that is the whole segment
toward_upper : (s : Segment) (whole : Span) (l : Line) (x : Direction) → whole ≡ span_of_segment s → l ≡ whole.line → x ≡ direction_of l → x ≡ direction_of (line_of_segment s)
toward_upper s whole l x a b c = c ∙ ap direction_of (b ∙ ap (λ (w : Span). w.line) a)

at_way : (s : Segment) (v : View) (w : VertexId) (x : Direction) (k : Place) → x ≡ direction_of (line_of_segment s) → IsPlaceOf v w x k → IsPlaceOf v w (direction_of (line_of_segment s)) k
at_way s v w x k a h = subst (λ (z : Direction). IsPlaceOf v w z k) a h

pub returns-in-Along-clause-part : goal.returns-in-Along-clause-part
returns-in-Along-clause-part g c =
    let v = g.T.NameCalls.graph c.args.sight.now in
    let f = g.T.NameCalls.faces c.args.sight.now in
    let s = c.args.segment.now in
    let toward = toward_upper s c.args.whole.now c.line.result c.along.result c.requires.whole c.line.ensures c.along.ensures in
    let k = course s c.lower-lower.ensures.ends in
    let on = lies_out s (point_in v c.args.vertex) c.requires.on in
    let before = lt_out (point_in v c.args.vertex) s.upper c.requires.before in
    (leaves_along v f c.requires.sound.graph s k c.args.vertex c.requires.vertex on before c.in-Along.dart (at_way s v c.args.vertex c.along.result (Along c.in-Along.dart) toward c.in-Along.ensures.place), c.target.ensures ∙ c.glimpse-looked.ensures.look.1)

pub returns-in-Along-clause-count : goal.returns-in-Along-clause-count
returns-in-Along-clause-count g c =
    let v = g.T.NameCalls.graph c.args.sight.now in
    let h = returns-in-Along-clause-part g c in
    let k = vertex_along v c.args.segment.now (point_in v c.args.vertex) c.args.vertex refl c.requires.before c.in-Along.dart c.in-Along.ensures.place.out.1 h.0 in
    let m = c.turn_to.ensures.count in
    let o = c.glimpse-looked.ensures.one in
    omega arith

pub returns-in-Between-clause-part : goal.returns-in-Between-clause-part
returns-in-Between-clause-part g c =
    let v = g.T.NameCalls.graph c.args.sight.now in
    let f = g.T.NameCalls.faces c.args.sight.now in
    let s = c.args.segment.now in
    let toward = toward_upper s c.args.whole.now c.line.result c.along.result c.requires.whole c.line.ensures c.along.ensures in
    let k = course s c.lower-lower.ensures.ends in
    let on = lies_out s (point_in v c.args.vertex) c.requires.on in
    let before = lt_out (point_in v c.args.vertex) s.upper c.requires.before in
    let h = at_way s v c.args.vertex c.along.result (Between c.in-Between.dart c.in-Between.field-1) toward c.in-Between.ensures.place in (
      none_between v f c.requires.sound.graph s k c.args.vertex c.requires.vertex on before c.in-Between.dart c.in-Between.field-1 h,
      subst (λ (a : FaceId). TellsFace v f (point_in v c.args.vertex) s.upper a) (sym (c.face-face.ensures.face ∙ ap (face_in f) (c.cycle.ensures.cycle ∙ ap (cycle_in f) c.twin.ensures.twin)))
          (at_place v f c.requires.sound.graph s k c.args.vertex c.requires.vertex on before c.in-Between.dart c.in-Between.field-1 h),
    )

pub returns-in-Between-clause-count : goal.returns-in-Between-clause-count
returns-in-Between-clause-count g c =
    let v = g.T.NameCalls.graph c.args.sight.now in
    let k = vertex_turn v c.args.segment.now (point_in v c.args.vertex) c.args.vertex refl in
    let m = c.turn_to.ensures.count in
    omega arith

pub returns-in-Bare-clause-part : goal.returns-in-Bare-clause-part
returns-in-Bare-clause-part g c =
    let v = g.T.NameCalls.graph c.args.sight.now in
    let f = g.T.NameCalls.faces c.args.sight.now in
    let s = c.args.segment.now in
    let k = course s c.lower-lower.ensures.ends in
    let on = lies_out s (point_in v c.args.vertex) c.requires.on in
    let before = lt_out (point_in v c.args.vertex) s.upper c.requires.before in
    let h = c.in-Bare.ensures.place in (
      none_bare v f c.requires.sound.graph s k c.args.vertex c.requires.vertex on before h,
      subst (λ (a : FaceId). TellsFace v f (point_in v c.args.vertex) s.upper a) (sym c.bare_face.ensures.face)
          (at_bare v f c.requires.sound.graph s k c.args.vertex c.requires.vertex on before h),
    )

pub returns-in-Bare-clause-count : goal.returns-in-Bare-clause-count
returns-in-Bare-clause-count g c =
    let v = g.T.NameCalls.graph c.args.sight.now in
    let k = vertex_turn v c.args.segment.now (point_in v c.args.vertex) c.args.vertex refl in
    let m = c.turn_to.ensures.count in
    omega arith
