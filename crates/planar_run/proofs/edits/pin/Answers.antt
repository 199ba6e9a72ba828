use Rattle.std.proofs.Common.{◌∙◌}
use Rattle.std.specs.Prelude.{codes}
use Rattle.edit_steps.specs.Edits.{Pin}
use Rattle.edit_steps.specs.Refusals.{Full, Pinned}
use Rattle.planar_run.proofs.Replied.{not_edited, thirteen, seventeen}
use Rattle.planar_run.proofs.edits.pin.Goals as goal

pub returns-in-Err-Pinned-clause-answered : goal.returns-in-Err-Pinned-clause-answered
returns-in-Err-Pinned-clause-answered g c =
    let refused = rw c.in-Err-Pinned.field-0-is at c.in-Err-Pinned.ensures.refused in
    not_edited (codes "ok") (Pin c.args.point.now) Pinned refused (c.set.ensures ∙ thirteen) c.in-Err-Pinned.ensures.err

pub returns-in-Err-Full-clause-answered : goal.returns-in-Err-Full-clause-answered
returns-in-Err-Full-clause-answered g c =
    let refused = rw c.in-Err-Full.field-0-is at c.in-Err-Full.ensures.refused in
    not_edited (codes "ok") (Pin c.args.point.now) (Full c.in-Err-Full.field-0-0) refused (c.set-in-Err-Full.ensures ∙ seventeen) c.in-Err-Full.ensures.err
