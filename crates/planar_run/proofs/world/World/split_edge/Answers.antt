use Rattle.arrangement.specs.Answers.{split_at, split_said}
use Rattle.planar_run.proofs.Worlds.{if_answered, if_done, if_kept, if_refused}
use Rattle.planar_run.proofs.world.World.split_edge.Goals as goal

pub returns-clause-done : goal.returns-clause-done
returns-clause-done g c = if_done c.split_edge.result (split_at c.args.p.now c.args.q.now c.args.r.now) _ _ _ _ _ _ c.requires.kept.current c.laws.ensures.apart c.split_edge.ensures.edit

pub returns-clause-refused : goal.returns-clause-refused
returns-clause-refused g c = if_answered split_said c.split_edge.result (split_at c.args.p.now c.args.q.now c.args.r.now) _ c.requires.kept.current c.split_edge.ensures.refused

pub returns-clause-err : goal.returns-clause-err
returns-clause-err g c = if_refused c.split_edge.result _ _ _ _ _ _ c.split_edge.ensures.as_before

pub returns-clause-kept : goal.returns-clause-kept
returns-clause-kept g c = if_kept c.split_edge.result (split_at c.args.p.now c.args.q.now c.args.r.now) _ _ _ c.requires.kept c.laws.ensures.apart c.split_edge.ensures.edit c.split_edge.ensures.as_before c.split_edge.ensures.limits c.split_edge.ensures.watched
