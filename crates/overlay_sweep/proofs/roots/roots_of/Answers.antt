use Rattle.std.proofs.Common.{arith}
use Rattle.slab_laws.specs.SpansDrawn.{drawn}
use Rattle.overlay_sweep.proofs.RootLists.{none_yet, one_more, all_roots}
use Rattle.overlay_sweep.proofs.roots.roots_of.Goals as goal

pub loop-cycle-init : goal.loop-cycle-init
loop-cycle-init c = none_yet (drawn c.args.points.now c.args.edges.now) c.in_ok-roots.roots.items c.in_ok-roots.ensures.items

pub loop-cycle-preserved : goal.loop-cycle-preserved
loop-cycle-preserved c = one_more (drawn c.args.points.now c.args.edges.now) c.loop-cycle.cycle c.loop-cycle.roots.items c.push.new.self.items c.root_of.result c.root_of.ensures c.in_ok-push.ensures.items c.loop-cycle.invariant

pub returns : goal.returns
returns c = all_roots (drawn c.args.points.now c.args.edges.now) c.args.orbits.now c.loop-cycle.cycle c.loop-cycle.roots.items c.requires.orbits (let a = c.loop-cycle-test.false in let b = c.loop-cycle.auto.cycle-end in let e = c.len-count.ensures in omega arith) c.loop-cycle.invariant
