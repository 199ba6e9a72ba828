use Rattle.std.proofs.Common.{◌∙◌}
use Rattle.std.specs.Prelude.{codes}
use Rattle.arrangement.specs.Answers.{split_at}
use Rattle.edit_steps.specs.Refusals.{Full, NoEdge, NotInside}
use Rattle.planar_run.proofs.Replied.{not_edited, nine, eleven, seventeen}
use Rattle.planar_run.proofs.edits.split.Goals as goal

pub returns-in-Err-NoEdge-clause-answered : goal.returns-in-Err-NoEdge-clause-answered
returns-in-Err-NoEdge-clause-answered g c =
    let refused = rw c.in-Err-NoEdge.field-0-is at c.in-Err-NoEdge.ensures.refused in
    not_edited (codes "ok") (split_at c.args.p.now c.args.q.now c.args.r.now) NoEdge refused (c.set.ensures ∙ nine) c.in-Err-NoEdge.ensures.err

pub returns-in-Err-NotInside-clause-answered : goal.returns-in-Err-NotInside-clause-answered
returns-in-Err-NotInside-clause-answered g c =
    let refused = rw c.in-Err-NotInside.field-0-is at c.in-Err-NotInside.ensures.refused in
    not_edited (codes "ok") (split_at c.args.p.now c.args.q.now c.args.r.now) NotInside refused (c.set-in-Err-NotInside.ensures ∙ eleven) c.in-Err-NotInside.ensures.err

pub returns-in-Err-Full-clause-answered : goal.returns-in-Err-Full-clause-answered
returns-in-Err-Full-clause-answered g c =
    let refused = rw c.in-Err-Full.field-0-is at c.in-Err-Full.ensures.refused in
    not_edited (codes "ok") (split_at c.args.p.now c.args.q.now c.args.r.now) (Full c.in-Err-Full.field-0-0) refused (c.set-in-Err-Full.ensures ∙ seventeen) c.in-Err-Full.ensures.err
