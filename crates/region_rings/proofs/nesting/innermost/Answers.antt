use Rattle.std.proofs.Common.{◌+◌, ℕ, arith, sym, ap, subst, ◌∙◌}
use Rattle.std.specs.Prelude.{Option, Some}
use Rattle.std.proofs.lemmas.Bool.{false≢true}
use Rattle.region_rings.proofs.Nests.{IsFound, found_more, found_still, found_all}
use Rattle.region_rings.proofs.nesting.innermost.Goals.{then-is_round, else-is_round}
use Rattle.region_rings.proofs.nesting.innermost.Goals as goal

pub loop-ring-preserved : goal.loop-ring-preserved
loop-ring-preserved c =
    let points = c.args.points.now in
    let ends = c.args.ends.now in
    let holes = c.args.holes.now in
    let leasts = c.args.leasts.now in
    let p = c.args.point.now in
    let n = c.loop-ring.ring in
    let found = c.loop-ring.found in
    elim c.if-is_round.branch [
      | then-is_round w ↦ subst (λ (o : Option ℕ). IsFound points ends holes leasts p (n + 1) o) (sym (w.found-is ∙ ap Some w.inner_one.ensures)) (found_more points ends holes leasts p n (c.is_round.ensures.0 w.if-is_round.true) found c.loop-ring.invariant)
      | else-is_round w ↦ subst (λ (o : Option ℕ). IsFound points ends holes leasts p (n + 1) o) (sym w.found-is) (found_still points ends holes leasts p n (λ r. false≢true (sym w.if-is_round.false ∙ c.is_round.ensures.1 r)) found c.loop-ring.invariant)
    ]

pub returns : goal.returns
returns c = found_all c.args.points.now c.args.ends.now c.args.holes.now c.args.leasts.now c.args.point.now c.loop-ring.ring (let e = c.loop-ring-test.false in let f = c.loop-ring.auto.ring-end in omega arith) c.loop-ring.found c.loop-ring.invariant
