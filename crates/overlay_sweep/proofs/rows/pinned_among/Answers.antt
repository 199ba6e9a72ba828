use Rattle.std.proofs.Common.{Bool, [], ◌∷◌, ◌++◌, ap, ◌∙◌}
use Rattle.std.specs.List.{list_any}
use Rattle.plane_graphs.proofs.Loops.{mapped, all_mapped}
use Rattle.slab_laws.specs.Skeleton.{same_point}
use Rattle.overlay_sweep.proofs.rows.pinned_among.Goals as goal

pub loop-point-preserved : goal.loop-point-preserved
loop-point-preserved c =
    mapped (λ p. list_any (same_point p) c.args.pins.now) c.args.points.now c.loop-point.point-index c.point-item.result c.loop-point.pinned.items c.push.new.self.items c.loop-point-test.true c.point-item.is c.loop-point.invariant
    (c.in_ok-push.ensures.items ∙ ap (λ (b : Bool). c.loop-point.pinned.items ++ b ∷ []) c.is_among.ensures)

pub returns : goal.returns
returns c = all_mapped (λ p. list_any (same_point p) c.args.pins.now) c.args.points.now c.loop-point.point-index c.loop-point.pinned.items c.loop-point-test.false c.loop-point.invariant
