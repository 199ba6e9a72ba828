use Rattle.std.proofs.Common.{◌∙◌}
use Rattle.std.specs.Prelude.{codes}
use Rattle.edit_steps.specs.Edits.{Merge}
use Rattle.edit_steps.specs.Refusals.{NoVertex, NotMergeable}
use Rattle.planar_run.proofs.Replied.{not_edited, ten, twelve}
use Rattle.planar_run.proofs.edits.merge.Goals as goal

pub returns-in-Err-NoVertex-clause-answered : goal.returns-in-Err-NoVertex-clause-answered
returns-in-Err-NoVertex-clause-answered g c =
    let refused = rw c.in-Err-NoVertex.field-0-is at c.in-Err-NoVertex.ensures.refused in
    not_edited (codes "ok") (Merge c.args.r.now) NoVertex refused (c.set.ensures ∙ ten) c.in-Err-NoVertex.ensures.err

pub returns-in-Err-NotMergeable-clause-answered : goal.returns-in-Err-NotMergeable-clause-answered
returns-in-Err-NotMergeable-clause-answered g c =
    let refused = rw c.in-Err-NotMergeable.field-0-is at c.in-Err-NotMergeable.ensures.refused in
    not_edited (codes "ok") (Merge c.args.r.now) NotMergeable refused (c.set-in-Err-NotMergeable.ensures ∙ twelve) c.in-Err-NotMergeable.ensures.err
