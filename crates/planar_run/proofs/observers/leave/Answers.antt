use Rattle.std.proofs.Common.{refl, sym, ◌∙◌}
use Rattle.planar_run.specs.Rows.{world_row}
use Rattle.planar_run.proofs.Replied.{none_handed_in, none_seated, not_obeyed, fourteen, sixteen}
use Rattle.planar_run.proofs.observers.leave.Goals as goal

pub returns-then-not-has-clause-answered : goal.returns-then-not-has-clause-answered
returns-then-not-has-clause-answered g c =
    let w = (world_row (goal.Observer-dyn g) c.args.world.now) in
    not_obeyed 14 _ {w = w} {after = w} (none_handed_in c.args.number w c.if-not-has.ensures) (c.set.ensures ∙ fourteen) refl

pub returns-in-Err-clause-answered : goal.returns-in-Err-clause-answered
returns-in-Err-clause-answered g c =
    let w = (world_row (goal.Observer-dyn g) c.args.world.now) in
    not_obeyed 16 _ (none_seated c.args.number w c.if-not-has.ensures (sym c.in-Err.ensures.seated)) (c.set-in-Err.ensures ∙ sixteen) c.in-Err.ensures.err
