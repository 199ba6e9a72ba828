use Rattle.std.proofs.Common.{rules, ◌≡◌, ◌∙◌, ap, subst, length, get_or, arith}
use Rattle.std.proofs.lemmas.List.{length-set}
use Rattle.slab_laws.specs.SpansDrawn.{drawn}
use Rattle.dart_orbits.specs.DartRows.{place_after}
use Rattle.dart_orbits.specs.Around.{source_placed, IsFirstPlaced}
use Rattle.dart_orbits.proofs.Neighbours.{by_source}
use Rattle.dart_orbits.proofs.Afters.{placed_more, inside, all_placed}
use Rattle.dart_orbits.proofs.nexts.afters_of.Goals as goal

pub loop-index-init : goal.loop-index-init
loop-index-init c = record { counted = search rules; each = λ i l. absurd (omega arith); known = λ i e. absurd (omega arith) }

pub set_number-requires : goal.set_number-requires
set_number-requires c =
    let w = inside (drawn c.args.points.now c.args.edges.now) c.args.darts.now c.requires.darts c.args.around.now c.requires.around c.loop-index.index c.loop-index-test.true in
    let e = c.loop-index.invariant.counted in
    omega arith

pub loop-index-preserved : goal.loop-index-preserved
loop-index-preserved c =
    let g = drawn c.args.points.now c.args.edges.now in
    let ps = c.args.around.now in
    let k = c.loop-index.index in
    let now = c.loop-index.afters.items in
    let w = inside g c.args.darts.now c.requires.darts ps c.requires.around k c.loop-index-test.true in
    let e = c.loop-index.invariant.counted in
    record {
      counted = ap length c.set_number.ensures ∙ length-set now (get_or ps k 0) c.after_at-after.result ∙ e;
      each = placed_more (place_after g) ps k c.after_at-after.result now c.set_number.new.numbers.items (omega arith) c.loop-index.invariant.each c.after_at-after.ensures c.set_number.ensures;
      known = λ i e. let q : k ≡ i = omega arith in subst (λ n. IsFirstPlaced c.args.darts.now ps (source_placed c.args.darts.now ps n) c.first_from-first.result) q c.first_from-first.ensures;
    }

pub returns : goal.returns
returns c = all_placed (drawn c.args.points.now c.args.edges.now) c.args.darts.now c.requires.darts c.args.around.now c.requires.around c.loop-index.index c.loop-index.afters.items c.loop-index.invariant.counted c.loop-index-test.false c.loop-index.invariant.each

pub first_from-first-requires-clause-sources : goal.first_from-first-requires-clause-sources
first_from-first-requires-clause-sources c = by_source c.args.points.now c.args.edges.now c.args.darts.now c.requires.plane c.requires.darts c.args.around.now c.requires.around
