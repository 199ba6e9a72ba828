use Rattle.std.proofs.Common.{◌≡◌, ◌++◌, map, length, refl}
use Rattle.slab_laws.specs.declared.names.DartId.{DartId}
use Rattle.slab_laws.specs.Tables.{names}
use Rattle.slab_laws.specs.View.{dart_id}
use Rattle.arr_notes.proofs.After.{left}
use Rattle.arr_notes.proofs.walks.dart_names.Given as goal

abbrev pub invariant-loop-name : goal.invariant-loop-name
invariant-loop-name g l = map dart_id (names (g.R.Darts.graph l.records).darts) ≡ l.found.items ++ left dart_id (λ (u : DartId). u.0) (λ n. refl) (names (g.R.Darts.graph l.records).darts) l.last

abbrev pub decreases-loop-name : goal.decreases-loop-name
decreases-loop-name g l = length (left dart_id (λ (u : DartId). u.0) (λ n. refl) (names (g.R.Darts.graph l.records).darts) l.last)
