use Rattle.arrangement.specs.Answers.{insert_said}
use Rattle.planar_run.proofs.Worlds.{if_done, if_insert_answered, if_kept, if_refused}
use Rattle.planar_run.proofs.world.World.insert_path.Goals as goal

pub returns-clause-done : goal.returns-clause-done
returns-clause-done g c = if_done c.insert_path.result _ _ _ _ _ _ _ c.requires.kept.current c.laws.ensures.apart c.insert_path.ensures.edit

pub returns-clause-refused : goal.returns-clause-refused
returns-clause-refused g c = if_insert_answered insert_said c.insert_path.result c.args.path.now _ c.requires.kept.current c.insert_path.ensures.refused

pub returns-clause-err : goal.returns-clause-err
returns-clause-err g c = if_refused c.insert_path.result _ _ _ _ _ _ c.insert_path.ensures.as_before

pub returns-clause-kept : goal.returns-clause-kept
returns-clause-kept g c = if_kept c.insert_path.result _ _ _ _ c.requires.kept c.laws.ensures.apart c.insert_path.ensures.edit c.insert_path.ensures.as_before c.insert_path.ensures.limits c.insert_path.ensures.watched
