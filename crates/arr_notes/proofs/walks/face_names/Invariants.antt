use Rattle.std.proofs.Common.{◌≡◌, ◌++◌, map, length, refl}
use Rattle.slab_laws.specs.declared.names.FaceId.{FaceId}
use Rattle.slab_laws.specs.View.{face_id}
use Rattle.arr_notes.proofs.After.{left}
use Rattle.arr_notes.proofs.walks.face_names.Given as goal

abbrev pub invariant-loop-name : goal.invariant-loop-name
invariant-loop-name g l = map face_id (g.R.Faced.faces l.records).faces ≡ l.found.items ++ left face_id (λ (u : FaceId). u.0) (λ n. refl) (g.R.Faced.faces l.records).faces l.last

abbrev pub decreases-loop-name : goal.decreases-loop-name
decreases-loop-name g l = length (left face_id (λ (u : FaceId). u.0) (λ n. refl) (g.R.Faced.faces l.records).faces l.last)
