use Rattle.edit_steps.specs.Edits.{Merge}
use Rattle.arrangement.specs.Answers.{merge_said}
use Rattle.planar_run.proofs.Worlds.{if_answered, if_done, if_kept, if_refused}
use Rattle.planar_run.proofs.world.World.merge_edge.Goals as goal

pub returns-clause-done : goal.returns-clause-done
returns-clause-done g c = if_done c.merge_edge.result (Merge c.args.r.now) _ _ _ _ _ _ c.requires.kept.current c.laws.ensures.apart c.merge_edge.ensures.edit

pub returns-clause-refused : goal.returns-clause-refused
returns-clause-refused g c = if_answered merge_said c.merge_edge.result (Merge c.args.r.now) _ c.requires.kept.current c.merge_edge.ensures.refused

pub returns-clause-err : goal.returns-clause-err
returns-clause-err g c = if_refused c.merge_edge.result _ _ _ _ _ _ c.merge_edge.ensures.as_before

pub returns-clause-kept : goal.returns-clause-kept
returns-clause-kept g c = if_kept c.merge_edge.result (Merge c.args.r.now) _ _ _ c.requires.kept c.laws.ensures.apart c.merge_edge.ensures.edit c.merge_edge.ensures.as_before c.merge_edge.ensures.limits c.merge_edge.ensures.watched
