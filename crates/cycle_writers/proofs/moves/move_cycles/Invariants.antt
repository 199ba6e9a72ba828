use Rattle.std.proofs.Common.{List}
use Rattle.slab_laws.specs.declared.names.CycleId.{CycleId}
use Rattle.cycle_writers.proofs.MovedCycles.{AreCyclesMoving, cycles_left}
use Rattle.cycle_writers.proofs.moves.move_cycles.Given as goal

abbrev pub invariant-cycles : goal.invariant-cycles
invariant-cycles l = (done : List CycleId) × (rest : List CycleId) × AreCyclesMoving l.fn.which l.fn.but l.fn.from l.fn.to l.fn.records l.fn.moved l.records l.moved l.next done rest

abbrev pub decreases-cycles : goal.decreases-cycles
decreases-cycles l = cycles_left l.records l.fn.from l.next
