use Rattle.std.proofs.Common.{arith}
use Rattle.slab_laws.proofs.TriangleLemmas.{dart_below, source_is}
use Rattle.slab_laws.proofs.triangle.TriangleDarts.source.Goals as goal

pub offset_bounds-self-inside-d : goal.offset_bounds-self-inside-d
offset_bounds-self-inside-d c = let h = dart_below c.args.self.now c.args.d c.requires in omega arith

pub bounds-self-inside-d : goal.bounds-self-inside-d
bounds-self-inside-d c = dart_below c.args.self.now c.args.d c.requires

pub returns : goal.returns
returns c = source_is c.args.self.now c.self.inside.darts c.self.invariant c.args.d c.requires
