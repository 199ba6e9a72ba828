use Rattle.std.proofs.Common.{◌+◌, ℕ, Bool, false, List, [], ◌∷◌, length, arith, ap, ◌∙◌, subst, length-append}
use Rattle.std.specs.Prelude.{◌↔◌, IsTrue}
use Rattle.exact_plane.specs.Point.{Point}
use Rattle.region_rings.specs.Holes.{IsHole, ring_of}
use Rattle.region_rings.proofs.RingSides.{told_more}
use Rattle.region_rings.proofs.holes.holes_of.Goals as goal

pub loop-ring-preserved : goal.loop-ring-preserved
loop-ring-preserved c =
    let n = c.loop-ring.ring in
    let inv = c.loop-ring.invariant in
    record {
      counted = ap length c.in_ok-push.ensures.items ∙ length-append c.loop-ring.holes.items (c.is_hole.result ∷ []) ∙ ap (λ k. k + 1) inv.counted;
      each = told_more (λ (r : ℕ) (b : Bool). IsTrue b ↔ IsHole (ring_of c.args.points.now c.args.ends.now r)) false n c.loop-ring.holes.items c.push.new.self.items c.is_hole.result inv.counted inv.each (subst (λ (ps : List Point). IsTrue c.is_hole.result ↔ IsHole ps) c.ring_in.ensures.value c.is_hole.ensures) c.in_ok-push.ensures.items;
    }

pub returns : goal.returns
returns c =
    let e = c.loop-ring-test.false in
    let f = c.loop-ring.auto.ring-end in
    let n = c.loop-ring.invariant.counted in
    record {
      counted = omega arith;
      each = λ r l. c.loop-ring.invariant.each r (omega arith);
    }
