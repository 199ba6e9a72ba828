use Rattle.std.specs.Prelude.{IfSome}
use Rattle.slab_laws.specs.View.{HasCycle}
use Rattle.zone_walk.proofs.walk.has_many_cycles.Given as goal

abbrev pub invariant-cycles : goal.invariant-cycles
invariant-cycles g l = IfSome l.at (HasCycle (g.T.NameCalls.faces l.sight))
