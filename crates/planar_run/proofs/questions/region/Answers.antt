use Rattle.std.proofs.Common.{◌∙◌}
use Rattle.planar_run.specs.Rows.{world_row}
use Rattle.planar_run.proofs.Replied.{border_answered, no_region_told, nineteen}
use Rattle.planar_run.proofs.questions.region.Goals as goal

pub returns-in-Ok-clause-answered : goal.returns-in-Ok-clause-answered
returns-in-Ok-clause-answered g c =
    border_answered c.put_region.result c.args.op (world_row (goal.Observer-dyn g) c.args.world.now) _ _ _ c.requires c.in-Ok.ensures.allowed (c.darts.ensures ∙ c.in-Ok.ensures.darts) c.put_region.ensures

pub returns-clause-answered : goal.returns-clause-answered
returns-clause-answered g c =
    let barred = rw c.in-Err-Open.field-0-is at c.in-Err-Open.ensures.barred in
    no_region_told c.args.op (world_row (goal.Observer-dyn g) c.args.world.now) barred (c.set.ensures ∙ nineteen)
