use Rattle.slab_laws.specs.View.{HasCycle}
use Rattle.zone_walk.proofs.CycleLists.{first_listed, next_listed, some_is}
use Rattle.zone_walk.proofs.walk.has_many_cycles.Goals as goal

pub cycles-init : goal.cycles-init
cycles-init g c = first_listed (g.T.NameCalls.graph c.args.sight.now) (g.T.NameCalls.faces c.args.sight.now) (g.T.NameCalls.lists c.args.sight.now) c.requires.lists c.args.face c.first_cycle_of-at.result c.first_cycle_of-at.ensures

pub cycle_after_in_face-at-requires : goal.cycle_after_in_face-at-requires
cycle_after_in_face-at-requires g c = some_is (HasCycle (g.T.NameCalls.faces c.args.sight.now)) c.cycles.at c.in-Some.cycle c.in-Some.is c.cycles.invariant

pub cycles-preserved : goal.cycles-preserved
cycles-preserved g c = next_listed (g.T.NameCalls.graph c.args.sight.now) (g.T.NameCalls.faces c.args.sight.now) (g.T.NameCalls.lists c.args.sight.now) c.requires.lists c.in-Some.cycle c.cycle_after_in_face-at.result c.cycle_after_in_face-at.ensures
