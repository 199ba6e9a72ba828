use Rattle.std.proofs.Common.{rules, ◌+◌, ◌<◌, ap, sym, ◌∙◌, subst, length, arith}
use Rattle.std.proofs.lemmas.List.{length-set}
use Rattle.dart_orbits.specs.Along.{ArePlacesAlong}
use Rattle.dart_orbits.specs.Ways.{row_in}
use Rattle.dart_orbits.proofs.TwinPlaces.{same_way, other_way, placed_along, passed_along}
use Rattle.dart_orbits.proofs.twins.places_along.Goals as goal
use Rattle.dart_orbits.proofs.twins.places_along.Goals.{then-dart-forward, else-dart-forward}

pub loop-place-init : goal.loop-place-init
loop-place-init c = record { counted = search rules; along = λ k l. absurd (omega arith) }

pub loop-place-preserved : goal.loop-place-preserved
loop-place-preserved c =
    let rows = c.args.darts.now in
    let n = c.loop-place.place in
    let now = c.loop-place.places.items in
    let inv = c.loop-place.invariant in
    let l = c.loop-place-test.true in
    let b : (row_in rows n).edge < length now = (let x = c.requires.edges n l in let y = inv.counted in omega arith) in
    elim c.if-dart-forward.branch [
      | then-dart-forward w ↦
          let e = ap (λ v. v.items) w.places-is ∙ w.set_number.ensures in
          record {
            counted = ap length e ∙ length-set now (row_in rows n).edge n ∙ inv.counted;
            along = placed_along rows c.requires.once c.args.forward n now inv.along c.if-dart-forward.places.items l b (same_way (row_in rows n).forward c.args.forward w.if-dart-forward.true) e;
          }
      | else-dart-forward w ↦
          let e = ap (λ v. v.items) w.places-is in
          record {
            counted = ap length e ∙ inv.counted;
            along = subst (ArePlacesAlong rows c.args.forward (n + 1)) (sym e) (passed_along rows c.requires.once c.args.forward n now inv.along (other_way (row_in rows n).forward c.args.forward w.if-dart-forward.false));
          }
    ]

pub returns-clause-along : goal.returns-clause-along
returns-clause-along c = λ k l m h. c.loop-place.invariant.along k (let t = c.loop-place-test.false in omega arith) m h
