use Rattle.std.proofs.Common.{ap, ◌∙◌}
use Rattle.slab_laws.proofs.TriangleLemmas.{point_a, point_b, point_c}
use Rattle.slab_laws.proofs.triangle.TriangleDarts.point.Goals as goal

pub returns-then-v-eq0 : goal.returns-then-v-eq0
returns-then-v-eq0 c = ap (λ z. z.a) c.self.view_is ∙ point_a c.args.self.now c.args.v c.if-v-eq0.true

pub returns-then-v-eq1 : goal.returns-then-v-eq1
returns-then-v-eq1 c = ap (λ z. z.b) c.self.view_is ∙ point_b c.args.self.now c.args.v c.if-v-eq1.true

pub returns-else-v-eq1 : goal.returns-else-v-eq1
returns-else-v-eq1 c = ap (λ z. z.c) c.self.view_is ∙ point_c c.args.self.now c.args.v c.requires c.if-v-eq0.false c.if-v-eq1.false
