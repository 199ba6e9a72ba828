use Rattle.std.proofs.Common.{◌≡◌, [], arith, refl, sym, ap, ◌∙◌, subst}
use Rattle.std.proofs.lemmas.Bool.{eq-eqb, false≢true}
use Rattle.std.specs.Prelude.{Option, IfSome}
use Rattle.slab_laws.specs.declared.names.DartId.{DartId}
use Rattle.slab_laws.specs.declared.names.FaceId.{FaceId}
use Rattle.slab_laws.specs.View.{HasDart}
use Rattle.dcel_records.specs.RecordsView.{graph_of, tables_of}
use Rattle.locate_landmarks.specs.Horizontals.{IsCrossing, IsLaterOrSame}
use Rattle.locate_landmarks.specs.declared.course.Course.{Course}
use Rattle.locate_landmarks.specs.Walks.{face_beside}
use Rattle.locate_landmarks.proofs.Along.{along_begin, along_on}
use Rattle.locate_landmarks.proofs.Crossed.{crossing_has, may_begin}
use Rattle.locate_landmarks.proofs.horizontal.go_along.Goals as goal

pub faces-init : goal.faces-init
faces-init g c = (refl, ([], along_begin c.args.glance.now c.args.course.now c.args.first c.args.steps.now c.requires.first tt))

pub look_at_cycles-requires-clause-ready : goal.look_at_cycles-requires-clause-ready
look_at_cycles-requires-clause-ready g c =
    let i = c.faces.invariant in
    (c.faces.ahead, may_begin (graph_of c.args.glance.now) c.faces.ahead c.args.course.now c.requires.map.sound.graph i.0 i.1.1.last)

pub face_beside-beyond-requires-clause-dart : goal.face_beside-beyond-requires-clause-dart
face_beside-beyond-requires-clause-dart g c =
    let v = graph_of c.args.glance.now in
    let i = c.faces.invariant in
    let n = c.look_at_cycles.new.looker in
    let m = c.look_at_cycles.ensures.ready c.faces.ahead (may_begin v c.faces.ahead c.args.course.now c.requires.map.sound.graph i.0 i.1.1.last) in
    subst (λ (o : Option DartId). IfSome o (HasDart v)) (sym c.dart_ahead-dart.ensures) (crossing_has v n.course.now n.last m.last)

pub dart_across-ahead-requires : goal.dart_across-ahead-requires
dart_across-ahead-requires g c =
    let v = graph_of c.args.glance.now in
    let i = c.faces.invariant in
    let n = c.look_at_cycles.new.looker in
    let m = c.look_at_cycles.ensures.ready c.faces.ahead (may_begin v c.faces.ahead c.args.course.now c.requires.map.sound.graph i.0 i.1.1.last) in
    record { dart = subst (λ (o : Option DartId). IfSome o (HasDart v)) (sym c.dart_ahead-dart.ensures) (crossing_has v n.course.now n.last m.last) }

pub faces-preserved : goal.faces-preserved
faces-preserved g c =
    let h = c.args.glance.now in
    let v = graph_of h in
    let i = c.faces.invariant in
    let n = c.look_at_cycles.new.looker in
    let m = c.look_at_cycles.ensures.ready c.faces.ahead (may_begin v c.faces.ahead c.args.course.now c.requires.map.sound.graph i.0 i.1.1.last) in
    let same : n.course.now ≡ c.args.course.now = m.course ∙ i.0 in (
      same,
      along_on h c.args.course.now c.args.first c.args.steps.now i.1.0 c.faces.face c.faces.ahead.last c.faces.steps i.1.1 n.last c.face_beside-beyond.result c.look_at_cycles.new.steps
          (subst (λ (x : Course). IsCrossing v x n.last) same m.last) (subst (λ (x : Course). IsLaterOrSame v x c.faces.ahead.last n.last) same m.later)
          (c.face_beside-beyond.ensures.beside ∙ ap (face_beside v (tables_of h) c.faces.face) c.dart_ahead-dart.ensures)
          (λ e. false≢true (sym c.if-eq.false ∙ c.eq.ensures ∙ eq-eqb c.face_beside-beyond.result.0 c.faces.face.0 (ap (λ (x : FaceId). x.0) e))) c.face_beside-beyond.ensures.has (omega (arith, c.look_at_cycles.ensures.count)),
    )
