use Rattle.edit_steps.specs.Edits.{Pin}
use Rattle.arrangement.specs.Answers.{pin_said}
use Rattle.planar_run.proofs.Worlds.{if_answered, if_done, if_kept, if_refused}
use Rattle.planar_run.proofs.world.World.pin.Goals as goal

pub returns-clause-done : goal.returns-clause-done
returns-clause-done g c = if_done c.pin.result (Pin c.args.point.now) _ _ _ _ _ _ c.requires.kept.current c.laws.ensures.apart c.pin.ensures.edit

pub returns-clause-refused : goal.returns-clause-refused
returns-clause-refused g c = if_answered pin_said c.pin.result (Pin c.args.point.now) _ c.requires.kept.current c.pin.ensures.refused

pub returns-clause-err : goal.returns-clause-err
returns-clause-err g c = if_refused c.pin.result _ _ _ _ _ _ c.pin.ensures.as_before

pub returns-clause-kept : goal.returns-clause-kept
returns-clause-kept g c = if_kept c.pin.result (Pin c.args.point.now) _ _ _ c.requires.kept c.laws.ensures.apart c.pin.ensures.edit c.pin.ensures.as_before c.pin.ensures.limits c.pin.ensures.watched
