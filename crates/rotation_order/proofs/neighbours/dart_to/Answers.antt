use Rattle.std.proofs.Common.{◌≡◌, ◌≢◌, ◌<◌, refl, sym, subst, ◌∙◌}
use Rattle.slab_laws.specs.declared.names.DartId.{DartId}
use Rattle.slab_laws.specs.View.{View, HasDart, IsOutOf, point_in, source_in, target_in}
use Rattle.arr_notes.specs.AfterAround.{after_in}
use Rattle.arr_notes.proofs.Names.{same_name, other_name}
use Rattle.rotation_order.proofs.Circuits.{left, nearer, after_out, read_after}
use Rattle.rotation_order.proofs.Searches.{NoneTo, none_yet, one_more, none_at_all}
use Rattle.rotation_order.proofs.neighbours.dart_to.Goals as goal

pub ring-init : goal.ring-init
ring-init g c =
    let v : View = g.R.Darts.graph c.args.records.now in
    let first : DartId = c.in_ok-first.first in
    let has : HasDart v first = c.in_ok-first.ensures.some.0 in
    let q : c.next-dart.result ≡ after_in v first = read_after v first c.twin.result c.next-dart.result c.twin.ensures.twin c.next-dart.ensures in
    record {
      out = subst (λ (z : DartId). IsOutOf v (source_in v first) z) (sym q) (after_out v c.requires.sound first has first (has, refl));
      passed = subst (λ (z : DartId). NoneTo v first c.args.to.now z) (sym q) (none_yet v c.requires.sound first has c.args.to.now);
    }

pub returns : goal.returns
returns g c = ((c.ring.invariant.out.0, c.ring.invariant.out.1 ∙ c.in_ok-first.ensures.some.1), c.leads_to.ensures.there c.ring-test.false)

pub returns-then-eq : goal.returns-then-eq
returns-then-eq g c =
    let v : View = g.R.Darts.graph c.args.records.now in
    let first : DartId = c.in_ok-first.first in
    let has : HasDart v first = c.in_ok-first.ensures.some.0 in
    let last : c.ring.dart ≡ first = same_name c.ring.dart first c.eq.result c.eq.ensures c.if-eq.true in
    let miss : point_in v (target_in v c.ring.dart) ≢ c.args.to.now = c.leads_to.ensures.elsewhere c.ring-test.true in
    λ d o.
    none_at_all v c.requires.sound first has c.args.to.now (subst (λ (z : DartId). point_in v (target_in v z) ≢ c.args.to.now) last miss) (subst (λ (z : DartId). NoneTo v first c.args.to.now z) last c.ring.invariant.passed) d
    (o.0, o.1 ∙ sym c.in_ok-first.ensures.some.1)

pub ring-smaller : goal.ring-smaller
ring-smaller g c =
    let v : View = g.R.Darts.graph c.args.records.now in
    let first : DartId = c.in_ok-first.first in
    let q : c.next-dart-in-ring.result ≡ after_in v c.ring.dart = read_after v c.ring.dart c.twin-in-ring.result c.next-dart-in-ring.result c.twin-in-ring.ensures.twin c.next-dart-in-ring.ensures in
    subst (λ (z : DartId). left v first z < left v first c.ring.dart) (sym q)
    (nearer v c.requires.sound first c.in_ok-first.ensures.some.0 c.ring.dart c.ring.invariant.out (other_name c.ring.dart first c.eq.result c.eq.ensures c.if-eq.false))

pub ring-preserved : goal.ring-preserved
ring-preserved g c =
    let v : View = g.R.Darts.graph c.args.records.now in
    let first : DartId = c.in_ok-first.first in
    let has : HasDart v first = c.in_ok-first.ensures.some.0 in
    let other : c.ring.dart ≢ first = other_name c.ring.dart first c.eq.result c.eq.ensures c.if-eq.false in
    let miss : point_in v (target_in v c.ring.dart) ≢ c.args.to.now = c.leads_to.ensures.elsewhere c.ring-test.true in
    let q : c.next-dart-in-ring.result ≡ after_in v c.ring.dart = read_after v c.ring.dart c.twin-in-ring.result c.next-dart-in-ring.result c.twin-in-ring.ensures.twin c.next-dart-in-ring.ensures in
    record {
      out = subst (λ (z : DartId). IsOutOf v (source_in v first) z) (sym q) (after_out v c.requires.sound first has c.ring.dart c.ring.invariant.out);
      passed = subst (λ (z : DartId). NoneTo v first c.args.to.now z) (sym q) (one_more v c.requires.sound first has c.args.to.now c.ring.dart c.ring.invariant.out other miss c.ring.invariant.passed);
    }
