use Rattle.edit_steps.specs.Edits.{Unpin}
use Rattle.arrangement.specs.Answers.{unpin_said}
use Rattle.planar_run.proofs.Worlds.{if_answered, if_done, if_kept, if_refused}
use Rattle.planar_run.proofs.world.World.unpin.Goals as goal

pub returns-clause-done : goal.returns-clause-done
returns-clause-done g c = if_done c.unpin.result (Unpin c.args.point.now) _ _ _ _ _ _ c.requires.kept.current c.laws.ensures.apart c.unpin.ensures.edit

pub returns-clause-refused : goal.returns-clause-refused
returns-clause-refused g c = if_answered unpin_said c.unpin.result (Unpin c.args.point.now) _ c.requires.kept.current c.unpin.ensures.refused

pub returns-clause-err : goal.returns-clause-err
returns-clause-err g c = if_refused c.unpin.result _ _ _ _ _ _ c.unpin.ensures.as_before

pub returns-clause-kept : goal.returns-clause-kept
returns-clause-kept g c = if_kept c.unpin.result (Unpin c.args.point.now) _ _ _ c.requires.kept c.laws.ensures.apart c.unpin.ensures.edit c.unpin.ensures.as_before c.unpin.ensures.limits c.unpin.ensures.watched
