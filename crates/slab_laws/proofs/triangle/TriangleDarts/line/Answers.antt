use Rattle.std.proofs.Common.{ap, ◌∙◌}
use Rattle.slab_laws.proofs.TriangleLemmas.{line_ab, line_bc, line_ca}
use Rattle.slab_laws.proofs.TriangleSound.{is_twinned}
use Rattle.slab_laws.proofs.triangle.TriangleDarts.line.Goals as goal

pub returns-then-d-lt2-clause-line : goal.returns-then-d-lt2-clause-line
returns-then-d-lt2-clause-line c = ap (λ z. z.ab) c.self.view_is ∙ line_ab c.args.self.now c.args.d c.requires c.if-d-lt2.true

pub returns-then-d-lt2-clause-twins : goal.returns-then-d-lt2-clause-twins
returns-then-d-lt2-clause-twins c = (is_twinned c.args.self.now).line c.args.d c.requires

pub returns-then-d-lt4-clause-line : goal.returns-then-d-lt4-clause-line
returns-then-d-lt4-clause-line c = ap (λ z. z.bc) c.self.view_is ∙ line_bc c.args.self.now c.args.d c.requires c.if-d-lt2.false c.if-d-lt4.true

pub returns-then-d-lt4-clause-twins : goal.returns-then-d-lt4-clause-twins
returns-then-d-lt4-clause-twins c = (is_twinned c.args.self.now).line c.args.d c.requires

pub returns-else-d-lt4-clause-line : goal.returns-else-d-lt4-clause-line
returns-else-d-lt4-clause-line c = ap (λ z. z.ca) c.self.view_is ∙ line_ca c.args.self.now c.args.d c.requires c.if-d-lt4.false

pub returns-else-d-lt4-clause-twins : goal.returns-else-d-lt4-clause-twins
returns-else-d-lt4-clause-twins c = (is_twinned c.args.self.now).line c.args.d c.requires
