use Rattle.std.proofs.Common.{[], ◌∷◌, ◌∙◌}
use Rattle.edit_steps.specs.Refusals.{Full, Spent}
use Rattle.planar_run.proofs.Replied.{not_inserted, seventeen, eighteen}
use Rattle.planar_run.proofs.edits.insert.Goals as goal

pub returns-in-Err-Full-clause-answered : goal.returns-in-Err-Full-clause-answered
returns-in-Err-Full-clause-answered g c =
    let refused = rw c.in-Err-Full.field-0-is at c.in-Err-Full.ensures.refused in
    not_inserted (c.args.segment ∷ []) (Full c.in-Err-Full.field-0-0) refused (c.set.ensures ∙ seventeen) c.in-Err-Full.ensures.err

pub returns-in-Err-Spent-clause-answered : goal.returns-in-Err-Spent-clause-answered
returns-in-Err-Spent-clause-answered g c =
    let refused = rw c.in-Err-Spent.field-0-is at c.in-Err-Spent.ensures.refused in
    not_inserted (c.args.segment ∷ []) Spent refused (c.set-in-Err-Spent.ensures ∙ eighteen) c.in-Err-Spent.ensures.err
