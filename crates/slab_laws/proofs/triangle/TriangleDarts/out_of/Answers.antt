use Rattle.slab_laws.proofs.TriangleLemmas.{out_of_a, out_of_b, out_of_c}
use Rattle.slab_laws.proofs.triangle.TriangleDarts.out_of.Goals as goal

pub returns-then-v-eq0-clause-some : goal.returns-then-v-eq0-clause-some
returns-then-v-eq0-clause-some c = out_of_a c.args.self.now c.args.v c.if-v-eq0.true

pub returns-then-v-eq1-clause-some : goal.returns-then-v-eq1-clause-some
returns-then-v-eq1-clause-some c = out_of_b c.args.self.now c.args.v c.if-v-eq1.true

pub returns-else-v-eq1-clause-some : goal.returns-else-v-eq1-clause-some
returns-else-v-eq1-clause-some c = out_of_c c.args.self.now c.args.v c.requires c.if-v-eq0.false c.if-v-eq1.false
