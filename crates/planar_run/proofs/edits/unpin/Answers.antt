use Rattle.std.proofs.Common.{◌∙◌}
use Rattle.std.specs.Prelude.{codes}
use Rattle.edit_steps.specs.Edits.{Unpin}
use Rattle.edit_steps.specs.Refusals.{NotPinned}
use Rattle.planar_run.proofs.Replied.{not_edited, ten}
use Rattle.planar_run.proofs.edits.unpin.Goals as goal

pub returns-in-Err-clause-answered : goal.returns-in-Err-clause-answered
returns-in-Err-clause-answered g c = not_edited (codes "ok") (Unpin c.args.point.now) NotPinned c.in-Err.ensures.refused (c.set.ensures ∙ ten) c.in-Err.ensures.err
