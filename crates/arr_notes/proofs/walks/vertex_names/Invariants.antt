use Rattle.std.proofs.Common.{◌≡◌, ◌++◌, map, length, refl}
use Rattle.slab_laws.specs.declared.names.VertexId.{VertexId}
use Rattle.slab_laws.specs.Tables.{names}
use Rattle.slab_laws.specs.View.{vertex_id}
use Rattle.arr_notes.proofs.After.{left}
use Rattle.arr_notes.proofs.walks.vertex_names.Given as goal

abbrev pub invariant-loop-name : goal.invariant-loop-name
invariant-loop-name g l = map vertex_id (names (g.R.Darts.graph l.records).vertices) ≡ l.found.items ++ left vertex_id (λ (u : VertexId). u.0) (λ n. refl) (names (g.R.Darts.graph l.records).vertices) l.last

abbrev pub decreases-loop-name : goal.decreases-loop-name
decreases-loop-name g l = length (left vertex_id (λ (u : VertexId). u.0) (λ n. refl) (names (g.R.Darts.graph l.records).vertices) l.last)
