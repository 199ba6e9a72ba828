use Rattle.slab_laws.proofs.TriangleLemmas.{cycle_first, cycle_then, cycle_last}
use Rattle.slab_laws.proofs.triangle.TriangleFaced.cycle_after.Goals as goal

pub returns-in-None-clause-after : goal.returns-in-None-clause-after
returns-in-None-clause-after c = cycle_first c.args.c c.in-None.is

pub returns-in-Some-clause-after : goal.returns-in-Some-clause-after
returns-in-Some-clause-after c = cycle_then c.args.c c.in-Some.c c.in-Some.is c.if-c-lt1.true

pub returns-in-Some-2-clause-after : goal.returns-in-Some-2-clause-after
returns-in-Some-2-clause-after c = cycle_last c.args.c c.in-Some.c c.in-Some.is c.if-c-lt1.false
