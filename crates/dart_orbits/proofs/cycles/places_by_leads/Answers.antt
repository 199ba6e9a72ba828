use Rattle.std.proofs.Common.{rules, ◌<◌, ◌∙◌, ap, length, get_or, arith}
use Rattle.std.specs.Prelude.{◌==◌}
use Rattle.std.specs.List.{position_or_len}
use Rattle.std.proofs.lemmas.List.{length-set}
use Rattle.dart_orbits.proofs.Afters.{placed_more}
use Rattle.dart_orbits.proofs.LeastDarts.{stands_once}
use Rattle.dart_orbits.proofs.cycles.places_by_leads.Goals as goal

pub loop-place-init : goal.loop-place-init
loop-place-init c = record { counted = search rules; each = λ i l. absurd (omega arith) }

pub set_number-requires : goal.set_number-requires
set_number-requires c = let x = c.requires.below c.loop-place.place c.loop-place-test.true in let y = c.loop-place.invariant.counted in omega arith

pub loop-place-preserved : goal.loop-place-preserved
loop-place-preserved c =
    let ks = c.args.cycles.now in
    let n = c.loop-place.place in
    let now = c.loop-place.places.items in
    let inv = c.loop-place.invariant in
    let b : get_or ks n 0 < length now = (let x = c.requires.below n c.loop-place-test.true in let y = inv.counted in omega arith) in
    record {
      counted = ap length c.set_number.ensures ∙ length-set now (get_or ks n 0) n ∙ inv.counted;
      each = placed_more (λ x. position_or_len (λ k. x == k) ks) ks n n now c.set_number.new.numbers.items b inv.each (stands_once ks c.requires.rise n c.loop-place-test.true) c.set_number.ensures;
    }

pub returns-clause-each : goal.returns-clause-each
returns-clause-each c = λ i l. c.loop-place.invariant.each i (let t = c.loop-place-test.false in omega arith)
