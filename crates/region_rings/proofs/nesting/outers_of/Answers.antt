use Rattle.std.proofs.Common.{◌+◌, ℕ, [], ◌∷◌, length, arith, ap, ◌∙◌, length-append}
use Rattle.std.specs.Prelude.{Option, None}
use Rattle.region_rings.specs.Nesting.{IsOuterOf}
use Rattle.region_rings.proofs.RingSides.{told_more}
use Rattle.region_rings.proofs.nesting.outers_of.Goals as goal

pub loop-ring-preserved : goal.loop-ring-preserved
loop-ring-preserved c =
    let n = c.loop-ring.ring in
    let inv = c.loop-ring.invariant in
    record {
      counted = ap length c.in_ok-push.ensures.items ∙ length-append c.loop-ring.outers.items (c.outer_of.result ∷ []) ∙ ap (λ k. k + 1) inv.counted;
      each = told_more (λ (r : ℕ) (o : Option ℕ). IsOuterOf c.args.points.now c.args.ends.now c.args.holes.now c.args.leasts.now r o) None n c.loop-ring.outers.items c.push.new.self.items c.outer_of.result inv.counted inv.each c.outer_of.ensures c.in_ok-push.ensures.items;
    }

pub returns : goal.returns
returns c =
    let e = c.loop-ring-test.false in
    let f = c.loop-ring.auto.ring-end in
    let n = c.loop-ring.invariant.counted in
    record {
      counted = omega arith;
      each = λ r l. c.loop-ring.invariant.each r (omega arith);
    }
