use Rattle.std.proofs.Common.{rules, ap, ◌∙◌}
use Rattle.ring_areas.specs.Areas.{area, ring_area}
use Rattle.ring_areas.proofs.Totals.{sum_begin, sum_step}
use Rattle.ring_areas.proofs.rings.area_of_rings.Goals as goal

pub loop-ring-init : goal.loop-ring-init
loop-ring-init c = sum_begin (ring_area c.args.rings.now) c.in_ok-sum.sum c.in_ok-sum.ensures

pub loop-ring-preserved : goal.loop-ring-preserved
loop-ring-preserved c = sum_step (ring_area c.args.rings.now) c.loop-ring.ring c.loop-ring.sum c.in_ok-part.part _ c.loop-ring.invariant (c.in_ok-part.ensures ∙ ap area c.ring.ensures) (search rules)
