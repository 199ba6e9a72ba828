use Rattle.std.proofs.Common.{rules, ◌≡◌, true, false, ◌∙◌, ◌<◌, sym, ap, subst, Equal}
use Rattle.exact_plane.specs.Direction.{Direction, IsDirection, IsOneDirection, turn_cmp}
use Rattle.slab_laws.specs.declared.names.DartId.{DartId}
use Rattle.slab_laws.specs.View.{next_in}
use Rattle.rotation_order.specs.Directions.{straight_down}
use Rattle.rotation_order.specs.Place.{direction_in, sooner_way}
use Rattle.arr_notes.specs.AfterAround.{after_in}
use Rattle.rotation_order.proofs.Around.{some_way, after_out}
use Rattle.rotation_order.proofs.Down.{either_way, told_one, told_unequal}
use Rattle.rotation_order.proofs.Found.{none_along}
use Rattle.rotation_order.proofs.Walks.{to_meet, nearer}
use Rattle.rotation_order.proofs.places.place_at.Goals as goal

pub way-way_after-requires-clause-dart : goal.way-way_after-requires-clause-dart
way-way_after-requires-clause-dart g c =
    let v = g.R.Darts.graph c.args.records.now in
    let q : c.next-after.result ≡ after_in v c.ring.dart = c.next-after.ensures ∙ ap (next_in v) c.twin.ensures.twin in
    let o = after_out v c.requires.sound c.args.vertex c.requires.vertex c.ring.dart c.ring.invariant.out in
    rw q o.0

pub returns-then-comes_first_clockwise : goal.returns-then-comes_first_clockwise
returns-then-comes_first_clockwise g c =
    let v = g.R.Darts.graph c.args.records.now in
    let q : c.next-after.result ≡ after_in v c.ring.dart = c.next-after.ensures ∙ ap (next_in v) c.twin.ensures.twin in
    let h : sooner_way (direction_in v c.ring.dart) c.args.direction (direction_in v c.next-after.result) ≡ true = (λ i. sooner_way (sym c.ring.invariant.way i) c.args.direction (sym c.way-way_after.ensures i)) ∙ sym c.comes_first_clockwise.ensures ∙ c.if-comes_first_clockwise.true in
    record {
      out = c.ring.invariant.out;
      neighbours = q;
      met = h;
      free = none_along v c.requires.sound c.args.vertex c.requires.vertex c.args.direction c.ring.dart c.next-after.result c.ring.invariant.out q h;
    }

pub ring-smaller : goal.ring-smaller
ring-smaller g c =
    let v = g.R.Darts.graph c.args.records.now in
    let x : Direction = c.args.direction in
    let X : IsDirection c.args.direction = search rules in
    let q : c.next-after.result ≡ after_in v c.ring.dart = c.next-after.ensures ∙ ap (next_in v) c.twin.ensures.twin in
    let same : turn_cmp straight_down (direction_in v c.ring.dart) x ≡ c.turn_order.result = (λ i. turn_cmp (sym c.down-down.ensures i) (sym c.ring.invariant.way i) x) ∙ sym c.turn_order.ensures.value in
    let differ : turn_cmp straight_down (direction_in v c.ring.dart) x ≡ Equal → ⊥ = λ e. told_unequal c.turn_order.result c.is_eq.result c.is_eq.ensures c.ring-test.true (sym same ∙ e) in
    let miss : sooner_way (direction_in v c.ring.dart) x (direction_in v (after_in v c.ring.dart)) ≡ false =
    (λ i. sooner_way (sym c.ring.invariant.way i) x (sym (c.way-way_after.ensures ∙ ap (direction_in v) q) i)) ∙ sym c.comes_first_clockwise.ensures ∙ c.if-comes_first_clockwise.false in
    subst (λ (d : DartId). to_meet v c.args.vertex x d < to_meet v c.args.vertex x c.ring.dart) (sym q)
    (nearer v c.requires.sound c.args.vertex c.requires.vertex x c.ring.dart c.ring.invariant.out
    (either_way (direction_in v c.ring.dart) x (some_way v c.requires.sound c.ring.dart c.ring.invariant.out.0) X.some differ) miss)

pub ring-preserved : goal.ring-preserved
ring-preserved g c =
    let v = g.R.Darts.graph c.args.records.now in
    let q : c.next-after.result ≡ after_in v c.ring.dart = c.next-after.ensures ∙ ap (next_in v) c.twin.ensures.twin in
    let o = after_out v c.requires.sound c.args.vertex c.requires.vertex c.ring.dart c.ring.invariant.out in
    record { out = rw q o; way = c.way-way_after.ensures }

pub returns : goal.returns
returns g c =
    let v = g.R.Darts.graph c.args.records.now in
    record {
      out = c.ring.invariant.out;
      way = subst (λ (d : Direction). IsOneDirection d c.args.direction) c.ring.invariant.way
          (told_one c.turn_order.result c.is_eq.result c.ring.way_out c.args.direction c.turn_order.ensures.one_direction c.is_eq.ensures c.ring-test.false);
    }
