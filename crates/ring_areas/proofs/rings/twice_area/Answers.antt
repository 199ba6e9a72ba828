use Rattle.std.proofs.Common.{rules}
use Rattle.ring_areas.specs.Areas.{side_at}
use Rattle.ring_areas.proofs.Totals.{sum_begin, sum_step}
use Rattle.ring_areas.proofs.rings.twice_area.Goals as goal

pub loop-place-init : goal.loop-place-init
loop-place-init c = sum_begin (side_at c.args.ring.now) c.in_ok-sum.sum c.in_ok-sum.ensures

pub loop-place-preserved : goal.loop-place-preserved
loop-place-preserved c = sum_step (side_at c.args.ring.now) c.loop-place.place c.loop-place.sum c.in_ok-part.part _ c.loop-place.invariant c.in_ok-part.ensures (search rules)
