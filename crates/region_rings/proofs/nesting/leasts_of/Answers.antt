use Rattle.std.proofs.Common.{◌+◌, ℕ, List, [], ◌∷◌, length, arith, ap, ◌∙◌, subst, sym, length-append}
use Rattle.exact_plane.specs.Point.{Point}
use Rattle.polygon_sets.specs.ClosedBorders.{no_point}
use Rattle.region_rings.specs.Holes.{ring_of}
use Rattle.region_rings.specs.Nesting.{IsLeastCorner}
use Rattle.region_rings.proofs.RingSides.{told_more}
use Rattle.region_rings.proofs.nesting.leasts_of.Goals as goal

pub loop-number-preserved : goal.loop-number-preserved
loop-number-preserved c =
    let n = c.loop-number.number in
    let inv = c.loop-number.invariant in
    let least : IsLeastCorner c.ring_in-ring.result.now c.corner_at.result = record { at = c.least_place.result; within = c.least_place.ensures.within; is = sym c.corner_at.ensures; least = c.least_place.ensures.least } in
    record {
      counted = ap length c.in_ok-push.ensures.items ∙ length-append c.loop-number.leasts.items (c.corner_at.result ∷ []) ∙ ap (λ k. k + 1) inv.counted;
      each = told_more (λ (r : ℕ) (p : Point). IsLeastCorner (ring_of c.args.points.now c.args.ends.now r) p) no_point n c.loop-number.leasts.items c.push.new.self.items c.corner_at.result inv.counted inv.each (subst (λ (ps : List Point). IsLeastCorner ps c.corner_at.result) c.ring_in-ring.ensures.value least) c.in_ok-push.ensures.items;
    }

pub returns : goal.returns
returns c =
    let e = c.loop-number-test.false in
    let f = c.loop-number.auto.number-end in
    let n = c.loop-number.invariant.counted in
    record {
      counted = omega arith;
      each = λ r l. c.loop-number.invariant.each r (omega arith);
    }
