use Rattle.slab_laws.proofs.TriangleLemmas.{dart_first, dart_then, dart_last}
use Rattle.slab_laws.proofs.triangle.TriangleDarts.dart_after.Goals as goal

pub returns-in-None-clause-after : goal.returns-in-None-clause-after
returns-in-None-clause-after c = dart_first c.args.self.now c.args.d c.in-None.is

pub returns-in-Some-clause-after : goal.returns-in-Some-clause-after
returns-in-Some-clause-after c = dart_then c.args.self.now c.args.d c.in-Some.d c.in-Some.is c.if-d-lt5.true

pub returns-in-Some-2-clause-after : goal.returns-in-Some-2-clause-after
returns-in-Some-2-clause-after c = dart_last c.args.self.now c.args.d c.in-Some.d c.in-Some.is c.if-d-lt5.false
