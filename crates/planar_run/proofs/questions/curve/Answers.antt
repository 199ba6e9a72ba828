use Rattle.std.proofs.Common.{◌∙◌}
use Rattle.planar_run.specs.Rows.{world_row}
use Rattle.planar_run.proofs.Replied.{no_curve_told, eight}
use Rattle.planar_run.proofs.questions.curve.Goals as goal

pub returns-clause-answered : goal.returns-clause-answered
returns-clause-answered g c =
    let barred = rw c.in-Err-Unknown.field-0-is at c.in-Err-Unknown.ensures.barred in
    no_curve_told c.args.curve (world_row (goal.Observer-dyn g) c.args.world.now) barred (c.set.ensures ∙ eight)
