use Rattle.std.proofs.Common.{◌≡◌, [], arith, refl, sym, ap, ◌∙◌, subst}
use Rattle.std.proofs.lemmas.Bool.{eq-eqb, false≢true}
use Rattle.slab_laws.specs.declared.names.FaceId.{FaceId}
use Rattle.dcel_records.specs.RecordsView.{tables_of}
use Rattle.walk_laws.specs.Walks.{IsBoundaryPassed}
use Rattle.locate_walk.specs.Looks.{dart_of}
use Rattle.locate_walk.proofs.Rounds.{seen_or_none}
use Rattle.locate_landmarks.specs.Ways.{Here, UpFrom}
use Rattle.locate_landmarks.proofs.Downward.{down_begin, down_on}
use Rattle.locate_landmarks.proofs.OnWay.{under_at, under_lowered}
use Rattle.locate_landmarks.proofs.walk.go_upright.Goals as goal

pub faces-init : goal.faces-init
faces-init g c = record {
  under = record { has = c.requires.first; lowest = tt; under = refl; entry = tt };
  downward = refl;
  way = ([], down_begin c.args.glance.now c.args.point.now c.args.downward c.args.first c.args.steps.now);
}

pub faces-smaller : goal.faces-smaller
faces-smaller g c =
    let v = c.args.glance.now.graph in
    let f = tables_of c.args.glance.now in
    let l = under_lowered v f c.faces.face c.face_beside-under.result c.args.point.now c.faces.descent.downward c.faces.descent.lowest c.in-Out.lowest c.dart_above-dart.result c.faces.descent.entry c.dart_above-dart.ensures c.face_beside-under.ensures.beside
    (λ e. false≢true (sym c.if-eq.false ∙ c.eq.ensures ∙ eq-eqb c.face_beside-under.result.0 c.faces.face.0 (ap (λ (x : FaceId). x.0) e))) c.faces.invariant.under c.in-Out.ensures.round.2 in
    l.1

pub faces-preserved : goal.faces-preserved
faces-preserved g c =
    let h = c.args.glance.now in
    let v = h.graph in
    let f = tables_of h in
    let i = c.faces.invariant in
    let r = c.in-Out.ensures.round in
    let other = λ (e : c.face_beside-under.result ≡ c.faces.face). false≢true (sym c.if-eq.false ∙ c.eq.ensures ∙ eq-eqb c.face_beside-under.result.0 c.faces.face.0 (ap (λ (x : FaceId). x.0) e)) in
    let l = under_lowered v f c.faces.face c.face_beside-under.result c.args.point.now c.faces.descent.downward c.faces.descent.lowest c.in-Out.lowest c.dart_above-dart.result c.faces.descent.entry c.dart_above-dart.ensures c.face_beside-under.ensures.beside other i.under r.2 in
    record {
      under = under_at v f c.faces.face c.face_beside-under.result c.args.point.now c.requires.map.sound.graph c.in-Out.lowest c.dart_above-dart.result c.dart_across.result c.dart_above-dart.ensures c.dart_across.ensures c.face_beside-under.ensures.beside c.face_beside-under.ensures.has r.1;
      downward = refl;
      way = down_on h c.args.point.now c.args.downward c.args.first c.args.steps.now i.way.0 c.faces.face c.faces.descent.lowest c.faces.steps i.way.1 c.in-Out.lowest c.dart_above-dart.result c.face_beside-under.result c.look_round.new.steps r.1 (sym i.downward ∙ l.0) l.1
          c.dart_above-dart.ensures c.face_beside-under.ensures.beside other c.look_round.ensures.count;
    }

pub returns-in-At-clause-looks : goal.returns-in-At-clause-looks
returns-in-At-clause-looks g c =
    let w = c.faces.invariant.way in
    let n = w.1.looks in
    let m = c.look_round.ensures.count in (
      record { down = w.0; end = Here },
      record { down = w.1.leads; end = tt },
      omega arith,
    )

pub returns-then-eq-clause-looks : goal.returns-then-eq-clause-looks
returns-then-eq-clause-looks g c =
    let h = c.args.glance.now in
    let w = c.faces.invariant.way in
    let r = c.in-Out.ensures.round.0 in
    let n = w.1.looks in
    let m = c.look_round.ensures.count in
    let k = c.climb_free.ensures.looks in (
      record { down = w.0; end = UpFrom (dart_of c.in-Out.below) },
      record {
        down = w.1.leads;
        end = (
          seen_or_none h.graph c.args.point.now c.in-Out.below r.below,
          subst (λ (a : FaceId). IsBoundaryPassed h.graph (tables_of h) c.args.point.now (dart_of c.in-Out.below) a) w.1.at r.passed,
        );
      },
      omega arith,
    )
