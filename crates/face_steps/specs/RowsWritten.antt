-- Rows written one after another are those of the step, and what is read decides the tables (this project).
use Rattle.std.specs.Prelude.{◌≡◌, ◌↔◌, List, [], ◌∷◌, IsSome}
use Rattle.std.specs.List.{Contains}
use Rattle.slab_laws.specs.declared.names.CycleId.{CycleId}
use Rattle.slab_laws.specs.declared.names.DartId.{DartId}
use Rattle.slab_laws.specs.declared.names.VertexId.{VertexId}
use Rattle.slab_laws.specs.FacesSound.{lead_in, IsComplete}
use Rattle.slab_laws.specs.Sound.{IsGraphSound}
use Rattle.slab_laws.specs.Tables.{row_at, names, NamesAscend}
use Rattle.slab_laws.specs.View.{View, Faces, HasVertex, HasDart, HasCycle, cycle_in, kind_in, face_in, bare_face_in}
use Rattle.arr_notes.specs.FaceWriters.{on_cycle, orbit_on, recycled}
use Rattle.rotation_order.specs.VertexRings.{IsBare}

-- each dart of a list on the cycle, one after another
unfoldable pub all_on : List DartId → CycleId → Faces → Faces
all_on [] c f = f
all_on (d ∷ ds) c f = all_on ds c (on_cycle d c f)

-- just the darts of the view have rows, in the order of their names
pub record AreDartRows (v : View) (f : Faces) : Type 0 where
  pub cycle_of_ascend : NamesAscend (names f.cycle_of)
  pub cycle_rows : (k : DartId) → HasDart v k ↔ IsSome (row_at f.cycle_of k.0)

pub record RowsWritten : Type 0 where
  -- a walk that has met just the darts of the orbit of d has written what the step says
  pub orbit : (v : View) (f : Faces) (d : DartId) (c : CycleId) (ds : List DartId) → IsGraphSound v → AreDartRows v f → HasDart v d → ((k : DartId) → Contains ds k ↔ (HasDart v k × (lead_in v k ≡ lead_in v d))) → all_on ds c f ≡ orbit_on v d c f
  -- and where it is the orbit of a cycle, every dart of that cycle is on the other one
  pub cycle : (v : View) (f : Faces) (gone kept : CycleId) (ds : List DartId) → AreDartRows v f → ((k : DartId) → Contains ds k ↔ (HasDart v k × (cycle_in f k ≡ gone))) → all_on ds kept f ≡ recycled gone kept f
  -- tables with the right rows are the same where they are read alike
  pub one : (v : View) (f s : Faces) → IsComplete v f → IsComplete v s → ((k : DartId) → HasDart v k → cycle_in f k ≡ cycle_in s k) → ((c : CycleId) → HasCycle f c ↔ HasCycle s c) → ((c : CycleId) → HasCycle f c → (kind_in f c ≡ kind_in s c) × (face_in f c ≡ face_in s c)) → ((u : VertexId) → HasVertex v u → IsBare v u → bare_face_in f u ≡ bare_face_in s u) → f.faces ≡ s.faces → f ≡ s
