use Rattle.std.proofs.Common.{◌≡◌, ◌+◌, ◌<◌, arith, sym, ap, ◌∙◌, subst}
use Rattle.slab_laws.specs.declared.names.DartId.{DartId}
use Rattle.slab_laws.specs.View.{IsOutOf, HasDart, source_in}
use Rattle.arr_notes.specs.AfterAround.{after_in}
use Rattle.arr_notes.proofs.Names.{same_name, other_name}
use Rattle.rotation_order.proofs.Circuits.{left, nearer, after_out, read_after}
use Rattle.zone_walk.specs.Sights.{degree}
use Rattle.zone_walk.proofs.Degrees.{none_out, all_left, one_fewer, last_left}
use Rattle.zone_walk.proofs.records_sight.count_round.Goals as goal

pub ring-init : goal.ring-init
ring-init g c =
    let v = c.args.records.now.graph in
    let first : DartId = c.in-Some.first in
    let has : HasDart v first = c.in-Some.ensures.some.0 in
    let q : c.next-dart.result ≡ after_in v first = read_after v first c.twin.result c.next-dart.result c.twin.ensures.twin c.next-dart.ensures in
    record {
      out = subst (λ (z : DartId). IsOutOf v (source_in v first) z) (sym q) (after_out v c.requires.sound first has first (has, λ i. source_in v first));
      count = let k : left v first c.next-dart.result ≡ degree v (source_in v first) = ap (left v first) q ∙ all_left v c.requires.sound first has in omega arith;
    }

pub returns-in_default : goal.returns-in_default
returns-in_default g c = let k = none_out c.args.records.now.graph c.args.vertex c.in_default.ensures.none in omega arith

pub returns-then-eq : goal.returns-then-eq
returns-then-eq g c =
    let v = c.args.records.now.graph in
    let first : DartId = c.in-Some.first in
    let has : HasDart v first = c.in-Some.ensures.some.0 in
    let last : c.ring.dart ≡ first = same_name c.ring.dart first c.eq.result c.eq.ensures c.if-eq.true in
    let k : left v first c.ring.dart ≡ 1 = ap (left v first) last ∙ last_left v c.requires.sound first has in
    let n = c.ring.invariant.count in
    let d : degree v (source_in v first) ≡ degree v c.args.vertex = ap (degree v) c.in-Some.ensures.some.1 in
    omega arith

pub ring-smaller : goal.ring-smaller
ring-smaller g c =
    let v = c.args.records.now.graph in
    let first : DartId = c.in-Some.first in
    let q : c.next-dart-in-ring.result ≡ after_in v c.ring.dart = read_after v c.ring.dart c.twin-in-ring.result c.next-dart-in-ring.result c.twin-in-ring.ensures.twin c.next-dart-in-ring.ensures in
    subst (λ (z : DartId). left v first z < left v first c.ring.dart) (sym q)
    (nearer v c.requires.sound first c.in-Some.ensures.some.0 c.ring.dart c.ring.invariant.out (other_name c.ring.dart first c.eq.result c.eq.ensures c.if-eq.false))

pub ring-preserved : goal.ring-preserved
ring-preserved g c =
    let v = c.args.records.now.graph in
    let first : DartId = c.in-Some.first in
    let q : c.next-dart-in-ring.result ≡ after_in v c.ring.dart = read_after v c.ring.dart c.twin-in-ring.result c.next-dart-in-ring.result c.twin-in-ring.ensures.twin c.next-dart-in-ring.ensures in
    record {
      out = subst (λ (z : DartId). IsOutOf v (source_in v first) z) (sym q) (after_out v c.requires.sound first c.in-Some.ensures.some.0 c.ring.dart c.ring.invariant.out);
      count =
          let k : left v first c.ring.dart ≡ left v first c.next-dart-in-ring.result + 1 =
          one_fewer v c.requires.sound first c.in-Some.ensures.some.0 c.ring.dart c.ring.invariant.out (other_name c.ring.dart first c.eq.result c.eq.ensures c.if-eq.false)
          ∙ ap (λ (z : DartId). left v first z + 1) (sym q) in
          let n = c.ring.invariant.count in
          omega arith;
    }
