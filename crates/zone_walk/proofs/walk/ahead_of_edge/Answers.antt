use Rattle.std.proofs.Common.{◌≡◌, ◌≢◌, arith, sym, ap, ◌∙◌, subst}
use Rattle.plane_graphs.proofs.Lines.{point_is_proper}
use Rattle.plane_graphs.proofs.Order.{lt_out}
use Rattle.exact_plane.specs.declared.sides.Sign.{Sign}
use Rattle.exact_plane.specs.declared.sides.Sign.TheVariants.{Minus, Zero, Plus}
use Rattle.zone_walk.specs.Parts.{TellsFace}
use Rattle.slab_laws.specs.declared.names.FaceId.{FaceId}
use Rattle.slab_laws.specs.View.{cycle_in, face_in}
use Rattle.zone_walk.proofs.Courses.{course, lies_out}
use Rattle.zone_walk.proofs.Looks.{edge_inside}
use Rattle.zone_walk.proofs.PartsAhead.{off_line, left_behind, twin_behind, on_left, on_right, goes_along}
use Rattle.zone_walk.proofs.walk.ahead_of_edge.Goals as goal

plus_off : (r : Sign) → r ≡ Plus → r ≢ Zero
plus_off r a b = no (sym a ∙ b)
  where
    no : Plus ≡ Zero → ⊥
    no e = cc

minus_off : (r : Sign) → r ≡ Minus → r ≢ Zero
minus_off r a b = no (sym a ∙ b)
  where
    no : Minus ≡ Zero → ⊥
    no e = cc

pub returns-in-Plus-clause-part : goal.returns-in-Plus-clause-part
returns-in-Plus-clause-part g c =
    let v = g.T.NameCalls.graph c.args.sight.now in
    let f = g.T.NameCalls.faces c.args.sight.now in
    let s = c.args.segment.now in
    let k = course s c.lower-lower.ensures.ends in
    let p = c.args.here.now in
    let on = lies_out s p c.requires.on in
    let before = lt_out p s.upper c.requires.before in
    let proper = point_is_proper p c.laws.ensures in
    let m = c.requires.met in
    let look = c.glimpse-looked.ensures.look in (
      off_line v f c.requires.sound.graph s k p proper on before c.args.dart (m.0, m.1) m.2 c.side_of_end.result (c.side_of_end.ensures _ look.2) (plus_off c.side_of_end.result c.in-Plus.is),
      subst (λ (a : FaceId). TellsFace v f p s.upper a) (sym (c.face-face.ensures.face ∙ ap (face_in f) c.cycle.ensures.cycle))
          (on_left v f c.requires.sound.graph s k p proper on before c.args.dart (m.0, m.1) m.2 c.side_of_end.result (c.side_of_end.ensures _ look.2) c.in-Plus.is),
    )

pub returns-in-Minus-clause-part : goal.returns-in-Minus-clause-part
returns-in-Minus-clause-part g c =
    let v = g.T.NameCalls.graph c.args.sight.now in
    let f = g.T.NameCalls.faces c.args.sight.now in
    let s = c.args.segment.now in
    let k = course s c.lower-lower.ensures.ends in
    let p = c.args.here.now in
    let on = lies_out s p c.requires.on in
    let before = lt_out p s.upper c.requires.before in
    let proper = point_is_proper p c.laws.ensures in
    let m = c.requires.met in
    let look = c.glimpse-looked.ensures.look in (
      off_line v f c.requires.sound.graph s k p proper on before c.args.dart (m.0, m.1) m.2 c.side_of_end.result (c.side_of_end.ensures _ look.2) (minus_off c.side_of_end.result c.in-Minus.is),
      subst (λ (a : FaceId). TellsFace v f p s.upper a) (sym (c.face-face-in-Minus.ensures.face ∙ ap (face_in f) (c.cycle-in-Minus.ensures.cycle ∙ ap (cycle_in f) c.twin-twin.ensures.twin)))
          (on_right v f c.requires.sound.graph s k p proper on before c.args.dart (m.0, m.1) m.2 c.side_of_end.result (c.side_of_end.ensures _ look.2) c.in-Minus.is),
    )

pub returns-in-Plus-clause-entry : goal.returns-in-Plus-clause-entry
returns-in-Plus-clause-entry g c =
    let v = g.T.NameCalls.graph c.args.sight.now in
    let f = g.T.NameCalls.faces c.args.sight.now in
    let s = c.args.segment.now in
    let p = c.args.here.now in
    let m = c.requires.met in
    left_behind v f c.requires.sound.graph s (course s c.lower-lower.ensures.ends) p (point_is_proper p c.laws.ensures) (lies_out s p c.requires.on) (lt_out p s.upper c.requires.before) c.args.dart (m.0, m.1) m.2 c.side_of_end.result (c.side_of_end.ensures _ c.glimpse-looked.ensures.look.2)
    (plus_off c.side_of_end.result c.in-Plus.is)

pub returns-in-Minus-clause-entry : goal.returns-in-Minus-clause-entry
returns-in-Minus-clause-entry g c =
    let v = g.T.NameCalls.graph c.args.sight.now in
    let f = g.T.NameCalls.faces c.args.sight.now in
    let s = c.args.segment.now in
    let p = c.args.here.now in
    let m = c.requires.met in
    twin_behind v f c.requires.sound.graph s (course s c.lower-lower.ensures.ends) p (point_is_proper p c.laws.ensures) (lies_out s p c.requires.on) (lt_out p s.upper c.requires.before) c.args.dart (m.0, m.1) m.2 c.side_of_end.result (c.side_of_end.ensures _ c.glimpse-looked.ensures.look.2)
    (minus_off c.side_of_end.result c.in-Minus.is) c.twin-twin.result c.twin-twin.ensures.twin

pub returns-in-Zero-clause-part : goal.returns-in-Zero-clause-part
returns-in-Zero-clause-part g c =
    let v = g.T.NameCalls.graph c.args.sight.now in
    let f = g.T.NameCalls.faces c.args.sight.now in
    let s = c.args.segment.now in
    let k = course s c.lower-lower.ensures.ends in
    let p = c.args.here.now in
    let on = lies_out s p c.requires.on in
    let before = lt_out p s.upper c.requires.before in
    let proper = point_is_proper p c.laws.ensures in
    let m = c.requires.met in
    let look = c.glimpse-looked.ensures.look in
    (goes_along v f c.requires.sound.graph s k p proper on before c.args.dart (m.0, m.1) m.2 c.side_of_end.result (c.side_of_end.ensures _ look.2) c.in-Zero.is, c.target.ensures ∙ look.1)

pub returns-in-Plus-clause-count : goal.returns-in-Plus-clause-count
returns-in-Plus-clause-count g c =
    let m = c.requires.met in
    let k = edge_inside (g.T.NameCalls.graph c.args.sight.now) c.args.segment.now c.args.here.now c.args.dart (m.0, m.1) m.2 in
    let o = c.glimpse-looked.ensures.one in
    omega arith

pub returns-in-Minus-clause-count : goal.returns-in-Minus-clause-count
returns-in-Minus-clause-count g c =
    let m = c.requires.met in
    let k = edge_inside (g.T.NameCalls.graph c.args.sight.now) c.args.segment.now c.args.here.now c.args.dart (m.0, m.1) m.2 in
    let o = c.glimpse-looked.ensures.one in
    omega arith

pub returns-in-Zero-clause-count : goal.returns-in-Zero-clause-count
returns-in-Zero-clause-count g c =
    let m = c.requires.met in
    let k = edge_inside (g.T.NameCalls.graph c.args.sight.now) c.args.segment.now c.args.here.now c.args.dart (m.0, m.1) m.2 in
    let o = c.glimpse-looked.ensures.one in
    omega arith
