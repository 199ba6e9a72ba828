use Rattle.std.proofs.Common.{◌∙◌}
use Rattle.std.specs.Prelude.{codes}
use Rattle.arrangement.specs.Answers.{cut_between}
use Rattle.edit_steps.specs.Refusals.{Full, NoEdge}
use Rattle.planar_run.proofs.Replied.{not_edited, nine, seventeen}
use Rattle.planar_run.proofs.edits.cut.Goals as goal

pub returns-in-Err-NoEdge-clause-answered : goal.returns-in-Err-NoEdge-clause-answered
returns-in-Err-NoEdge-clause-answered g c =
    let refused = rw c.in-Err-NoEdge.field-0-is at c.in-Err-NoEdge.ensures.refused in
    not_edited (codes "ok") (cut_between c.args.p.now c.args.q.now) NoEdge refused (c.set.ensures ∙ nine) c.in-Err-NoEdge.ensures.err

pub returns-in-Err-Full-clause-answered : goal.returns-in-Err-Full-clause-answered
returns-in-Err-Full-clause-answered g c =
    let refused = rw c.in-Err-Full.field-0-is at c.in-Err-Full.ensures.refused in
    not_edited (codes "ok") (cut_between c.args.p.now c.args.q.now) (Full c.in-Err-Full.field-0-0) refused (c.set-in-Err-Full.ensures ∙ seventeen) c.in-Err-Full.ensures.err
