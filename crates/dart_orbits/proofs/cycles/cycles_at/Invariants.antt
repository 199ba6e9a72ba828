use Rattle.std.proofs.Common.{◌≡◌, take}
use Rattle.slab_laws.specs.SpansDrawn.{drawn}
use Rattle.slab_laws.specs.Rows.{cycle_places}
use Rattle.dart_orbits.proofs.cycles.cycles_at.Given as goal

abbrev pub invariant-loop-lead : goal.invariant-loop-lead
invariant-loop-lead l = l.places.items ≡ take l.lead-index (cycle_places (drawn l.points l.edges))
