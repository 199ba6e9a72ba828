use Rattle.std.proofs.Common.{◌≡◌, ◌<◌, ◌++◌, List, sym, ap, ◌∙◌, subst}
use Rattle.slab_laws.specs.declared.names.CurveId.{CurveId}
use Rattle.slab_laws.specs.declared.names.DartId.{DartId}
use Rattle.slab_laws.specs.View.{View}
use Rattle.arr_notes.specs.AfterAround.{after_in}
use Rattle.arr_notes.proofs.Names.{same_name, other_name}
use Rattle.rotation_order.proofs.Circuits.{left, nearer, read_after}
use Rattle.lower_envelope.specs.Texts.{AreCurvesRound}
use Rattle.lower_envelope.proofs.CurvesRound.{IsRoundSoFar, round_begins, round_goes_on, round_ends, none_round}
use Rattle.lower_envelope.proofs.envelope_text.curves_round.Goals as goal

pub returns-in_default : goal.returns-in_default
returns-in_default g c = none_round (g.R.Darts.graph c.args.records.now) (g.R.Curved.curve_list c.args.records.now) c.args.vertex _ c.new-curves.ensures.items c.in_default.ensures.none

pub ring-init : goal.ring-init
ring-init g c =
    let v : View = g.R.Darts.graph c.args.records.now in
    let k = g.R.Curved.curve_list c.args.records.now in
    let first : DartId = c.in-Some.first in
    let q : c.next-dart.result ≡ after_in v first = read_after v first c.twin.result c.next-dart.result c.twin.ensures.twin c.next-dart.ensures in
    subst (λ (x : DartId). IsRoundSoFar v k first x c.new-curves.result.items) (sym q)
    (subst (λ (cs : List CurveId). IsRoundSoFar v k first (after_in v first) cs) (sym c.new-curves.ensures.items) (round_begins v k c.requires.sound first c.in-Some.ensures.some.0))

pub returns-then-eq : goal.returns-then-eq
returns-then-eq g c =
    let v : View = g.R.Darts.graph c.args.records.now in
    let k = g.R.Curved.curve_list c.args.records.now in
    let first : DartId = c.in-Some.first in
    let added = c.in_ok-extend_from_slice.ensures.items ∙ ap (λ (cs : List CurveId). c.ring.curves.items ++ cs) (c.deref.ensures.value ∙ c.in_ok-along.ensures.curves) in
    subst (λ (cs : List CurveId). AreCurvesRound v k c.args.vertex cs) (sym added)
    (round_ends v k c.requires.sound first c.in-Some.ensures.some.0 c.ring.dart c.ring.curves.items c.ring.invariant c.in_ok-along.ensures.twins (same_name c.ring.dart first c.eq.result c.eq.ensures c.if-eq.true) c.args.vertex c.in-Some.ensures.some.1)

pub ring-smaller : goal.ring-smaller
ring-smaller g c =
    let v : View = g.R.Darts.graph c.args.records.now in
    let first : DartId = c.in-Some.first in
    let q : c.next-dart-in-ring.result ≡ after_in v c.ring.dart = read_after v c.ring.dart c.twin-in-ring.result c.next-dart-in-ring.result c.twin-in-ring.ensures.twin c.next-dart-in-ring.ensures in
    subst (λ (z : DartId). left v first z < left v first c.ring.dart) (sym q)
    (nearer v c.requires.sound first c.in-Some.ensures.some.0 c.ring.dart c.ring.invariant.out (other_name c.ring.dart first c.eq.result c.eq.ensures c.if-eq.false))

pub ring-preserved : goal.ring-preserved
ring-preserved g c =
    let v : View = g.R.Darts.graph c.args.records.now in
    let k = g.R.Curved.curve_list c.args.records.now in
    let first : DartId = c.in-Some.first in
    let q : c.next-dart-in-ring.result ≡ after_in v c.ring.dart = read_after v c.ring.dart c.twin-in-ring.result c.next-dart-in-ring.result c.twin-in-ring.ensures.twin c.next-dart-in-ring.ensures in
    let added = c.in_ok-extend_from_slice.ensures.items ∙ ap (λ (cs : List CurveId). c.ring.curves.items ++ cs) (c.deref.ensures.value ∙ c.in_ok-along.ensures.curves) in
    subst (λ (x : DartId). IsRoundSoFar v k first x c.extend_from_slice.new.self.items) (sym q)
    (subst (λ (cs : List CurveId). IsRoundSoFar v k first (after_in v c.ring.dart) cs) (sym added)
    (round_goes_on v k c.requires.sound first c.in-Some.ensures.some.0 c.ring.dart c.ring.curves.items c.ring.invariant c.in_ok-along.ensures.twins (other_name c.ring.dart first c.eq.result c.eq.ensures c.if-eq.false)))
