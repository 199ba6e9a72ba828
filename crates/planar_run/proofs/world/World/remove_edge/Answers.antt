use Rattle.arrangement.specs.Answers.{cut_between, cut_said}
use Rattle.planar_run.proofs.Worlds.{if_answered, if_done, if_kept, if_refused}
use Rattle.planar_run.proofs.world.World.remove_edge.Goals as goal

pub returns-clause-done : goal.returns-clause-done
returns-clause-done g c = if_done c.remove_edge.result (cut_between c.args.p.now c.args.q.now) _ _ _ _ _ _ c.requires.kept.current c.laws.ensures.apart c.remove_edge.ensures.edit

pub returns-clause-refused : goal.returns-clause-refused
returns-clause-refused g c = if_answered cut_said c.remove_edge.result (cut_between c.args.p.now c.args.q.now) _ c.requires.kept.current c.remove_edge.ensures.refused

pub returns-clause-err : goal.returns-clause-err
returns-clause-err g c = if_refused c.remove_edge.result _ _ _ _ _ _ c.remove_edge.ensures.as_before

pub returns-clause-kept : goal.returns-clause-kept
returns-clause-kept g c = if_kept c.remove_edge.result (cut_between c.args.p.now c.args.q.now) _ _ _ c.requires.kept c.laws.ensures.apart c.remove_edge.ensures.edit c.remove_edge.ensures.as_before c.remove_edge.ensures.limits c.remove_edge.ensures.watched
