-- What a change makes of the names of cycles and faces: they stay, but for those that it tells to come or to go.
use Rattle.std.specs.Prelude.{◌≡◌, ◌≢◌, ◌⊎◌}
use Rattle.slab_laws.specs.declared.names.CycleId.{CycleId}
use Rattle.slab_laws.specs.declared.names.FaceId.{FaceId}
use Rattle.slab_laws.specs.FacesSound.{IsSound}
use Rattle.slab_laws.specs.View.{View, Faces, HasCycle, HasFace}
use Rattle.arr_notes.specs.Curves.{Curves}
use Rattle.arr_notes.specs.FacesTold.{faces_after}
use Rattle.arr_notes.specs.declared.change.Change.{Change}
use Rattle.arr_notes.specs.declared.change.Change.TheVariants.{AddEdge, RemoveEdge, Clear}
use Rattle.arr_notes.specs.declared.faces.Linked.{Linked}
use Rattle.arr_notes.specs.declared.faces.Linked.TheVariants.{NewHole, Joins, Splits}
use Rattle.arr_notes.specs.declared.faces.Unlinked.TheVariants.{Vanishes, Breaks, Unites}
use Rattle.sound_changes.specs.StepOfChange.{FitsChange}
use Rattle.face_changes.specs.FacesByPairs.{first_or}
use Rattle.face_steps.specs.ChangeLaws.{FitsNoted}

-- ---- the names that a change tells (CGAL manual, `Arr_observer`: boundaries and faces that come and go; the list is this project's)
abbrev pub LinkedComes : Linked → CycleId → Type 0
LinkedComes (NewHole cycle face) c = c ≡ cycle
LinkedComes (Splits kept fresh x fresh_face moved) c = c ≡ fresh
LinkedComes other c = ⊥

abbrev pub CycleComes : Change → CycleId → Type 0
CycleComes (AddEdge d m p q at_p at_q l k faces) c = LinkedComes faces c
CycleComes (RemoveEdge d m (Breaks kept fresh x)) c = c ≡ fresh
CycleComes other c = ⊥

abbrev pub CycleGoes : Change → CycleId → Type 0
CycleGoes (AddEdge d m p q at_p at_q l k (Joins kept gone)) c = c ≡ gone
CycleGoes (RemoveEdge d m (Vanishes cycle face)) c = c ≡ cycle
CycleGoes (RemoveEdge d m (Unites kept gone gone_face moved)) c = c ≡ gone
CycleGoes (Clear face) c = Unit {0}
CycleGoes other c = ⊥

abbrev pub LinkedSplitsOff : Linked → FaceId → Type 0
LinkedSplitsOff (Splits kept fresh x fresh_face moved) a = a ≡ fresh_face
LinkedSplitsOff other a = ⊥

abbrev pub FaceComes : Change → FaceId → Type 0
FaceComes (AddEdge d m p q at_p at_q l k faces) a = LinkedSplitsOff faces a
FaceComes other a = ⊥

abbrev pub FaceGoes : Change → FaceId → Type 0
FaceGoes (RemoveEdge d m (Unites kept gone gone_face moved)) a = a ≡ gone_face
FaceGoes (Clear face) a = a ≢ face
FaceGoes other a = ⊥

-- ---- the laws
-- the change fits a sound view with its tables (this project)
pub record IsToldOf (v : View) (f : Faces) (c : Change) : Type 0 where
  pub sound : IsSound v f
  pub curves : Curves
  pub fits : FitsChange v curves c
  pub noted : FitsNoted v f c

-- the first face name, the unbounded face's, stays first (book, the unbounded face)
abbrev pub ChangesKeepFirst : Type 0
ChangesKeepFirst = (v : View) (f : Faces) (c : Change) → IsToldOf v f c → first_or (faces_after v f c).faces ≡ first_or f.faces

-- names stay but for those told to go, and none is there but the old ones and those told to come (this project)
pub record ChangesKeepNames : Type 0 where
  pub cycle_stays : (v : View) (f : Faces) (c : Change) → IsToldOf v f c → (a : CycleId) → HasCycle f a → HasCycle (faces_after v f c) a ⊎ CycleGoes c a
  pub cycle_was : (v : View) (f : Faces) (c : Change) → IsToldOf v f c → (a : CycleId) → HasCycle (faces_after v f c) a → HasCycle f a ⊎ CycleComes c a
  pub cycle_comes : (v : View) (f : Faces) (c : Change) → IsToldOf v f c → (a : CycleId) → CycleComes c a → (¬ HasCycle f a) × HasCycle (faces_after v f c) a
  pub cycle_goes : (v : View) (f : Faces) (c : Change) → IsToldOf v f c → (a : CycleId) → CycleGoes c a → ¬ HasCycle (faces_after v f c) a
  pub face_stays : (v : View) (f : Faces) (c : Change) → IsToldOf v f c → (a : FaceId) → HasFace f a → HasFace (faces_after v f c) a ⊎ FaceGoes c a
  pub face_was : (v : View) (f : Faces) (c : Change) → IsToldOf v f c → (a : FaceId) → HasFace (faces_after v f c) a → HasFace f a ⊎ FaceComes c a
  pub face_comes : (v : View) (f : Faces) (c : Change) → IsToldOf v f c → (a : FaceId) → FaceComes c a → (¬ HasFace f a) × HasFace (faces_after v f c) a
  pub face_goes : (v : View) (f : Faces) (c : Change) → IsToldOf v f c → (a : FaceId) → FaceGoes c a → ¬ HasFace (faces_after v f c) a
