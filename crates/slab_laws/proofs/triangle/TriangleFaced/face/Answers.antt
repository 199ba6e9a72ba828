use Rattle.slab_laws.proofs.TriangleLemmas.{face_0, face_1}
use Rattle.slab_laws.proofs.triangle.TriangleFaced.face.Goals as goal

pub returns-then-c-eq0-clause-face : goal.returns-then-c-eq0-clause-face
returns-then-c-eq0-clause-face c = face_0 c.args.c c.if-c-eq0.true

pub returns-else-c-eq0-clause-face : goal.returns-else-c-eq0-clause-face
returns-else-c-eq0-clause-face c = face_1 c.args.c c.requires c.if-c-eq0.false
