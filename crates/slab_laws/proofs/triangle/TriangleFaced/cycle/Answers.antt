use Rattle.std.proofs.Common.{arith}
use Rattle.slab_laws.proofs.TriangleLemmas.{dart_below, cycle_is, cycle_has}
use Rattle.slab_laws.proofs.triangle.TriangleFaced.cycle.Goals as goal

pub offset_bounds-self-inside-d : goal.offset_bounds-self-inside-d
offset_bounds-self-inside-d c = let h = dart_below c.args.self.now c.args.d c.requires in omega arith

pub bounds-self-inside-d : goal.bounds-self-inside-d
bounds-self-inside-d c = dart_below c.args.self.now c.args.d c.requires

pub returns-clause-cycle : goal.returns-clause-cycle
returns-clause-cycle c = cycle_is c.args.self.now c.self.inside.darts c.self.invariant c.args.d c.requires

pub returns-clause-has : goal.returns-clause-has
returns-clause-has c = cycle_has c.args.self.now c.self.inside.darts c.self.invariant c.args.d c.requires
