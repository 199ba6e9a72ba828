use Rattle.std.proofs.Common.{◌≡◌, ◌++◌, map, length, refl}
use Rattle.slab_laws.specs.declared.names.CycleId.{CycleId}
use Rattle.slab_laws.specs.Tables.{names}
use Rattle.slab_laws.specs.View.{cycle_id}
use Rattle.arr_notes.proofs.After.{left}
use Rattle.arr_notes.proofs.walks.cycle_names.Given as goal

abbrev pub invariant-loop-name : goal.invariant-loop-name
invariant-loop-name g l = map cycle_id (names (g.R.Faced.faces l.records).cycles) ≡ l.found.items ++ left cycle_id (λ (u : CycleId). u.0) (λ n. refl) (names (g.R.Faced.faces l.records).cycles) l.last

abbrev pub decreases-loop-name : goal.decreases-loop-name
decreases-loop-name g l = length (left cycle_id (λ (u : CycleId). u.0) (λ n. refl) (names (g.R.Faced.faces l.records).cycles) l.last)
