use Rattle.std.proofs.Common.{◌∙◌}
use Rattle.std.specs.Prelude.{codes}
use Rattle.edit_steps.specs.Edits.{Drop}
use Rattle.edit_steps.specs.Refusals.{Unknown}
use Rattle.planar_run.proofs.Replied.{not_edited, eight}
use Rattle.planar_run.proofs.edits.drop_curve.Goals as goal

pub returns-in-Err-Unknown-clause-answered : goal.returns-in-Err-Unknown-clause-answered
returns-in-Err-Unknown-clause-answered g c =
    let refused = rw c.in-Err-Unknown.field-0-is at c.in-Err-Unknown.ensures.refused in
    not_edited (codes "ok") (Drop c.args.curve) Unknown refused (c.set.ensures ∙ eight) c.in-Err-Unknown.ensures.err
