use Rattle.std.proofs.Common.{refl}
use Rattle.slab_laws.specs.Tables.{name_after}
use Rattle.planar_tests.proofs.observers.empty.EmptyPlaneDarts.vertex_after.Goals as goal

pub returns-clause-after : goal.returns-clause-after
unfolding name_after
returns-clause-after c = refl
