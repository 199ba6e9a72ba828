use Rattle.std.proofs.Common.{refl}
use Rattle.arrangement.proofs.Watched.{left_watched}
use Rattle.arrangement.proofs.arrangement.Arrangement.leave.Goals as goal

pub returns : goal.returns
returns g c = record {
  seated = c.leave.ensures.seated;
  err = c.leave.ensures.err;
  left = c.leave.ensures.left;
  layer = record { graph = refl; faces = refl; past = refl; limits = refl };
  watched = left_watched _ c.args.name c.leave.result c.args.when _ _ c.leave.ensures.err c.leave.ensures.left;
}
