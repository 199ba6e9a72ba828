use Rattle.std.proofs.Common.{refl, sym, ap, ◌∙◌, subst}
use Rattle.std.specs.Prelude.{None}
use Rattle.std.proofs.lemmas.Bool.{eqb-true}
use Rattle.exact_plane.specs.Point.{Point}
use Rattle.plane_graphs.proofs.Lines.{point_is_proper}
use Rattle.slab_laws.specs.View.{face_id}
use Rattle.dcel_records.specs.RecordsView.{graph_of, tables_of}
use Rattle.locate_walk.proofs.Rounds.{round_hit, round_highest, darts_seen}
use Rattle.locate_landmarks.specs.Lowest.{IsAbove, IsLowered}
use Rattle.locate_landmarks.specs.declared.survey.Survey.{Survey}
use Rattle.locate_landmarks.proofs.Rounded.{begun, settled_here}
use Rattle.locate_landmarks.proofs.round.look_round.Goals as goal

pub look_at_cycles-requires-clause-ready : goal.look_at_cycles-requires-clause-ready
look_at_cycles-requires-clause-ready g c =
    let v = graph_of c.args.glance.now in
    let k : Survey = record { highest = record { glance = c.args.glance; face = c.args.face; point = c.args.point.now; hit = None; best = None }; descent = c.args.descent.now } in
    let first = begun k c.requires.map (point_is_proper c.args.point.now c.laws.ensures) refl refl c.requires.lowest c.requires.entry in
    (k, first)

pub face_over-requires-clause-edge : goal.face_over-requires-clause-edge
face_over-requires-clause-edge g c =
    let v = graph_of c.args.glance.now in
    let k : Survey = record { highest = record { glance = c.args.glance; face = c.args.face; point = c.args.point.now; hit = None; best = None }; descent = c.args.descent.now } in
    let first = begun k c.requires.map (point_is_proper c.args.point.now c.laws.ensures) refl refl c.requires.lowest c.requires.entry in
    let l = c.look_at_cycles.new.looker in
    let m = c.look_at_cycles.ensures.ready k first in
    (l.highest.point, m.highest.best)

pub returns-in-Some-clause-round : goal.returns-in-Some-clause-round
returns-in-Some-clause-round g c =
    let v = graph_of c.args.glance.now in
    let k : Survey = record { highest = record { glance = c.args.glance; face = c.args.face; point = c.args.point.now; hit = None; best = None }; descent = c.args.descent.now } in
    let first = begun k c.requires.map (point_is_proper c.args.point.now c.laws.ensures) refl refl c.requires.lowest c.requires.entry in
    let l = c.look_at_cycles.new.looker in
    let m = c.look_at_cycles.ensures.ready k first in
    round_hit v k.highest l.highest m.highest c.in-Some.spot c.in-Some.is

pub returns-then-eq-clause-round : goal.returns-then-eq-clause-round
returns-then-eq-clause-round g c =
    let v = graph_of c.args.glance.now in
    let k : Survey = record { highest = record { glance = c.args.glance; face = c.args.face; point = c.args.point.now; hit = None; best = None }; descent = c.args.descent.now } in
    let first = begun k c.requires.map (point_is_proper c.args.point.now c.laws.ensures) refl refl c.requires.lowest c.requires.entry in
    let l = c.look_at_cycles.new.looker in
    let m = c.look_at_cycles.ensures.ready k first in
    settled_here v (tables_of c.args.glance.now) c.args.point.now c.args.face c.face_over.result l.highest.best c.requires.map.sound (point_is_proper c.args.point.now c.laws.ensures)
    (round_highest v k.highest l.highest m.highest c.requires.map.sound.graph c.in-None.is (darts_seen v k.highest l.highest m.highest c.requires.map.sound c.requires.free c.look_at_cycles.ensures.seen))
    c.face_over.ensures.face (ap face_id (eqb-true c.face_over.result.0 c.args.face.0 (sym c.eq.ensures ∙ c.if-eq.true)))

pub returns-else-eq-clause-round : goal.returns-else-eq-clause-round
returns-else-eq-clause-round g c =
    let v = graph_of c.args.glance.now in
    let k : Survey = record { highest = record { glance = c.args.glance; face = c.args.face; point = c.args.point.now; hit = None; best = None }; descent = c.args.descent.now } in
    let first = begun k c.requires.map (point_is_proper c.args.point.now c.laws.ensures) refl refl c.requires.lowest c.requires.entry in
    let l = c.look_at_cycles.new.looker in
    let m = c.look_at_cycles.ensures.ready k first in
    let same = m.highest.point in (
      round_highest v k.highest l.highest m.highest c.requires.map.sound.graph c.in-None.is (darts_seen v k.highest l.highest m.highest c.requires.map.sound c.requires.free c.look_at_cycles.ensures.seen),
      subst (λ (q : Point). IsAbove v q l.descent.lowest) same m.lowest,
      subst (λ (q : Point). IsLowered v q c.args.descent.now.downward c.args.descent.now.lowest l.descent.lowest) same m.lowered,
    )
