use Rattle.std.proofs.Common.{arith}
use Rattle.mirror_observer.proofs.FillingFaces.{bare_more}
use Rattle.mirror_observer.proofs.fill_faces.faces_of_vertices.Goals as goal

pub loop-row-preserved : goal.loop-row-preserved
loop-row-preserved c = bare_more c.args.list.now c.requires c.loop-row.row-index c.row-item.result c.row-item.result _ _ (omega arith) c.row-item.is c.loop-row.invariant c.in_ok-keep_bare.ensures
