use Rattle.std.proofs.Common.{rules}
use Rattle.ring_areas.specs.Areas.{area_within}
use Rattle.ring_areas.proofs.Totals.{sum_begin, within_step}
use Rattle.ring_areas.proofs.rings.area_of_polygon.Goals as goal

pub loop-ring-init : goal.loop-ring-init
loop-ring-init c = sum_begin (area_within c.args.rings.now c.args.outer) c.in_ok-sum.sum c.in_ok-sum.ensures

pub loop-ring-preserved : goal.loop-ring-preserved
loop-ring-preserved c = within_step c.args.rings.now c.args.outer c.loop-ring.ring c.loop-ring.sum _ c.loop-ring.invariant (search rules)
