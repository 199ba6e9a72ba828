use Rattle.edit_steps.specs.Edits.{Drop}
use Rattle.arrangement.specs.Answers.{drop_said}
use Rattle.planar_run.proofs.Worlds.{if_answered, if_done, if_kept, if_refused}
use Rattle.planar_run.proofs.world.World.remove_curve.Goals as goal

pub returns-clause-done : goal.returns-clause-done
returns-clause-done g c = if_done c.remove_curve.result (Drop c.args.curve.0) _ _ _ _ _ _ c.requires.kept.current c.laws.ensures.apart c.remove_curve.ensures.edit

pub returns-clause-refused : goal.returns-clause-refused
returns-clause-refused g c = if_answered drop_said c.remove_curve.result (Drop c.args.curve.0) _ c.requires.kept.current c.remove_curve.ensures.refused

pub returns-clause-err : goal.returns-clause-err
returns-clause-err g c = if_refused c.remove_curve.result _ _ _ _ _ _ c.remove_curve.ensures.as_before

pub returns-clause-kept : goal.returns-clause-kept
returns-clause-kept g c = if_kept c.remove_curve.result (Drop c.args.curve.0) _ _ _ c.requires.kept c.laws.ensures.apart c.remove_curve.ensures.edit c.remove_curve.ensures.as_before c.remove_curve.ensures.limits c.remove_curve.ensures.watched
