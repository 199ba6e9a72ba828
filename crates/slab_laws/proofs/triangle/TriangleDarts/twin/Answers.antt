use Rattle.std.proofs.Common.{arith}
use Rattle.slab_laws.proofs.TriangleLemmas.{dart_below, twin_is, twin_has, twin_back}
use Rattle.slab_laws.proofs.triangle.TriangleDarts.twin.Goals as goal

pub offset_bounds-self-inside-d : goal.offset_bounds-self-inside-d
offset_bounds-self-inside-d c = let h = dart_below c.args.self.now c.args.d c.requires in omega arith

pub bounds-self-inside-d : goal.bounds-self-inside-d
bounds-self-inside-d c = dart_below c.args.self.now c.args.d c.requires

pub returns-clause-twin : goal.returns-clause-twin
returns-clause-twin c = twin_is c.args.self.now c.self.inside.darts c.self.invariant c.args.d c.requires

pub returns-clause-has : goal.returns-clause-has
returns-clause-has c = twin_has c.args.self.now c.self.inside.darts c.self.invariant c.args.d c.requires

pub returns-clause-back : goal.returns-clause-back
returns-clause-back c = twin_back c.args.self.now c.self.inside.darts c.self.invariant c.args.d c.requires
