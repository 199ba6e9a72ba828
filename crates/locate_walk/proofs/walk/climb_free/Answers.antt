use Rattle.std.proofs.Common.{◌+◌, arith, sym, ap, ◌∙◌}
use Rattle.std.proofs.lemmas.Bool.{eqb-true, eq-eqb, false≢true}
use Rattle.plane_graphs.proofs.Lines.{point_is_proper}
use Rattle.slab_laws.specs.declared.names.FaceId.{FaceId}
use Rattle.slab_laws.specs.View.{face_id}
use Rattle.counted_looks.specs.Boundaries.{boundary_size}
use Rattle.dcel_records.specs.RecordsView.{tables_of}
use Rattle.walk_laws.specs.Walks.{size_ahead}
use Rattle.locate_walk.specs.Looks.{dart_of}
use Rattle.locate_walk.proofs.Rounds.{way_looks, way_ends, way_smaller, way_on}
use Rattle.locate_walk.proofs.walk.climb_free.Goals as goal

pub faces-init : goal.faces-init
faces-init g c = record { below = c.requires.first; over = c.face_over-face.ensures.face; has = c.face_over-face.ensures.has; looks = omega arith }

pub look_round-requires-clause-face : goal.look_round-requires-clause-face
look_round-requires-clause-face g c = c.faces.invariant.has

pub look_round-requires-clause-last : goal.look_round-requires-clause-last
look_round-requires-clause-last g c = c.faces.invariant.below

pub returns-in-At-clause-looks : goal.returns-in-At-clause-looks
returns-in-At-clause-looks g c =
    way_looks c.args.glance.now.graph (tables_of c.args.glance.now) c.args.point.now c.faces.last c.faces.face (c.args.steps.now + size_ahead (boundary_size c.args.glance.now.graph (tables_of c.args.glance.now)) c.args.glance.now.graph (tables_of c.args.glance.now) c.args.point.now (dart_of c.args.first)) c.faces.steps c.requires.map.sound (point_is_proper _ c.laws.ensures) c.faces.invariant
    c.look_round.new.steps c.look_round.ensures.count

pub returns-then-eq-clause-spot : goal.returns-then-eq-clause-spot
returns-then-eq-clause-spot g c =
    way_ends c.args.glance.now.graph (tables_of c.args.glance.now) c.args.point.now c.faces.last c.faces.face (c.args.steps.now + size_ahead (boundary_size c.args.glance.now.graph (tables_of c.args.glance.now)) c.args.glance.now.graph (tables_of c.args.glance.now) c.args.point.now (dart_of c.args.first)) c.faces.steps c.requires.map.sound (point_is_proper _ c.laws.ensures) c.faces.invariant
    c.in-Over.highest c.in-Over.ensures.round c.face_over-over.result c.face_over-over.ensures.face (ap face_id (eqb-true c.face_over-over.result.0 c.faces.face.0 (sym c.eq.ensures ∙ c.if-eq.true)))

pub returns-then-eq-clause-looks : goal.returns-then-eq-clause-looks
returns-then-eq-clause-looks g c =
    way_looks c.args.glance.now.graph (tables_of c.args.glance.now) c.args.point.now c.faces.last c.faces.face (c.args.steps.now + size_ahead (boundary_size c.args.glance.now.graph (tables_of c.args.glance.now)) c.args.glance.now.graph (tables_of c.args.glance.now) c.args.point.now (dart_of c.args.first)) c.faces.steps c.requires.map.sound (point_is_proper _ c.laws.ensures) c.faces.invariant
    c.look_round.new.steps c.look_round.ensures.count

pub faces-smaller : goal.faces-smaller
faces-smaller g c =
    way_smaller c.args.glance.now.graph (tables_of c.args.glance.now) c.args.point.now c.faces.last c.faces.face (c.args.steps.now + size_ahead (boundary_size c.args.glance.now.graph (tables_of c.args.glance.now)) c.args.glance.now.graph (tables_of c.args.glance.now) c.args.point.now (dart_of c.args.first)) c.faces.steps c.requires.map.sound (point_is_proper _ c.laws.ensures) c.faces.invariant
    c.in-Over.highest c.in-Over.ensures.round c.face_over-over.result c.face_over-over.ensures.face
    (λ e. false≢true (sym c.if-eq.false ∙ c.eq.ensures ∙ eq-eqb c.face_over-over.result.0 c.faces.face.0 (ap (λ (x : FaceId). x.0) e)))

pub faces-preserved : goal.faces-preserved
faces-preserved g c =
    way_on c.args.glance.now.graph (tables_of c.args.glance.now) c.args.point.now c.faces.last c.faces.face (c.args.steps.now + size_ahead (boundary_size c.args.glance.now.graph (tables_of c.args.glance.now)) c.args.glance.now.graph (tables_of c.args.glance.now) c.args.point.now (dart_of c.args.first)) c.faces.steps c.requires.map.sound (point_is_proper _ c.laws.ensures) c.faces.invariant
    c.in-Over.highest c.in-Over.ensures.round c.face_over-over.result c.face_over-over.ensures.face
    (λ e. false≢true (sym c.if-eq.false ∙ c.eq.ensures ∙ eq-eqb c.face_over-over.result.0 c.faces.face.0 (ap (λ (x : FaceId). x.0) e)))
    c.face_over-over.ensures.has c.look_round.new.steps c.look_round.ensures.count

pub face_over-over-requires-clause-edge : goal.face_over-over-requires-clause-edge
face_over-over-requires-clause-edge g c = (c.args.point.now, c.in-Over.ensures.round.below)
