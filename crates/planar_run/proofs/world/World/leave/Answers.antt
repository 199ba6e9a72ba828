use Rattle.std.proofs.Common.{sym, ◌∙◌, rules}
use Rattle.planar_run.proofs.Worlds.{if_left_there, if_not_left, left_here, left_kept, seated_here, seated_there}
use Rattle.planar_run.proofs.world.World.leave.Goals as goal

pub returns-in-Ok-clause-seated : goal.returns-in-Ok-clause-seated
returns-in-Ok-clause-seated g c = seated_here c.args.number _ _ c.requires.kept c.in-Ok.ensures.seated

pub returns-in-Ok-clause-left : goal.returns-in-Ok-clause-left
returns-in-Ok-clause-left g c = left_here c.args.number _ _ c.requires.kept _ _ _ c.in-Ok.ensures.seated c.args.when _ c.leave.ensures.layer c.in-Ok.ensures.left

pub returns-in-Ok-clause-kept : goal.returns-in-Ok-clause-kept
returns-in-Ok-clause-kept g c = record {
  current = left_kept c.leave.result c.args.number c.args.when _ _ c.requires.kept.current c.leave.ensures.layer c.leave.ensures.left c.leave.ensures.err c.leave.ensures.watched;
  other = c.requires.kept.other;
}

pub returns-in-Err-clause-seated : goal.returns-in-Err-clause-seated
returns-in-Err-clause-seated g c = c.leave-in-Err.ensures.seated ∙ sym (seated_there c.args.number _ _ c.requires.kept c.in-Err.ensures.seated)

pub returns-in-Err-clause-left : goal.returns-in-Err-clause-left
returns-in-Err-clause-left g c =
    if_left_there c.args.number _ _ c.requires.kept _ _ _ c.leave-in-Err.result c.in-Err.ensures.seated c.args.when _ _ c.leave.ensures.layer c.in-Err.ensures.err c.leave-in-Err.ensures.layer c.leave-in-Err.ensures.left

pub returns-in-Err-clause-err : goal.returns-in-Err-clause-err
returns-in-Err-clause-err g c =
    if_not_left c.args.number _ _ c.requires.kept _ _ _ c.leave-in-Err.result _ _ c.leave.ensures.layer c.in-Err.ensures.err c.leave-in-Err.ensures.layer c.leave-in-Err.ensures.err

pub returns-in-Err-clause-kept : goal.returns-in-Err-clause-kept
returns-in-Err-clause-kept g c = record {
  current = left_kept c.leave.result c.args.number c.args.when _ _ c.requires.kept.current c.leave.ensures.layer c.leave.ensures.left c.leave.ensures.err c.leave.ensures.watched;
  other = left_kept c.leave-in-Err.result c.args.number c.args.when _ _ c.requires.kept.other c.leave-in-Err.ensures.layer c.leave-in-Err.ensures.left c.leave-in-Err.ensures.err c.leave-in-Err.ensures.watched;
}

pub returns-in-Ok-clause-err : goal.returns-in-Ok-clause-err
returns-in-Ok-clause-err g c = search rules
