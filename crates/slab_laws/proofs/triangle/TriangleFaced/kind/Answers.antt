use Rattle.slab_laws.proofs.TriangleLemmas.{kind_0, kind_1}
use Rattle.slab_laws.proofs.triangle.TriangleFaced.kind.Goals as goal

pub returns-then-c-eq0 : goal.returns-then-c-eq0
returns-then-c-eq0 c = kind_0 c.args.c c.if-c-eq0.true

pub returns-else-c-eq0 : goal.returns-else-c-eq0
returns-else-c-eq0 c = kind_1 c.args.c c.requires c.if-c-eq0.false
