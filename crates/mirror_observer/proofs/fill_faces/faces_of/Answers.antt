use Rattle.mirror_observer.proofs.FillingFaces.{faces_more}
use Rattle.mirror_observer.proofs.fill_faces.faces_of.Goals as goal

pub loop-face-preserved : goal.loop-face-preserved
loop-face-preserved c = faces_more c.args.list.now c.requires c.loop-face.face-index _ _ _ c.loop-face-test.true c.loop-face.invariant c.in_ok-insert.ensures.keys
