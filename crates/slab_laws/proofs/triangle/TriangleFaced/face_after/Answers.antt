use Rattle.slab_laws.proofs.TriangleLemmas.{face_first, face_then, face_last}
use Rattle.slab_laws.proofs.triangle.TriangleFaced.face_after.Goals as goal

pub returns-in-None-clause-after : goal.returns-in-None-clause-after
returns-in-None-clause-after c = face_first c.args.f c.in-None.is

pub returns-in-Some-clause-after : goal.returns-in-Some-clause-after
returns-in-Some-clause-after c = face_then c.args.f c.in-Some.f c.in-Some.is c.if-f-lt1.true

pub returns-in-Some-2-clause-after : goal.returns-in-Some-2-clause-after
returns-in-Some-2-clause-after c = face_last c.args.f c.in-Some.f c.in-Some.is c.if-f-lt1.false
