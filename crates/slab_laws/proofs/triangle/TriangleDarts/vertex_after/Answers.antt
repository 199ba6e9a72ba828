use Rattle.slab_laws.proofs.TriangleLemmas.{vertex_first, vertex_then, vertex_last}
use Rattle.slab_laws.proofs.triangle.TriangleDarts.vertex_after.Goals as goal

pub returns-in-None-clause-after : goal.returns-in-None-clause-after
returns-in-None-clause-after c = vertex_first c.args.self.now c.args.v c.in-None.is

pub returns-in-Some-clause-after : goal.returns-in-Some-clause-after
returns-in-Some-clause-after c = vertex_then c.args.self.now c.args.v c.in-Some.v c.in-Some.is c.if-v-lt2.true

pub returns-in-Some-2-clause-after : goal.returns-in-Some-2-clause-after
returns-in-Some-2-clause-after c = vertex_last c.args.self.now c.args.v c.in-Some.v c.in-Some.is c.if-v-lt2.false
