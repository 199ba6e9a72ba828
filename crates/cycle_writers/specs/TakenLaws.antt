-- What is taken from a face is what a split or a union of faces asks for (this project).
use Rattle.std.specs.Prelude.{◌≡◌, ◌≢◌, ◌⊎◌, ◌<◌, true, false, [], List}
use Rattle.slab_laws.specs.declared.names.CycleId.{CycleId}
use Rattle.slab_laws.specs.declared.names.CycleKind.TheVariants.{Outer}
use Rattle.slab_laws.specs.declared.names.DartId.{DartId}
use Rattle.slab_laws.specs.declared.names.FaceId.{FaceId}
use Rattle.slab_laws.specs.declared.names.VertexId.{VertexId}
use Rattle.slab_laws.specs.FaceLists.{Lists, AreLists, AreFacesListed}
use Rattle.slab_laws.specs.FacesSound.{IsSound}
use Rattle.slab_laws.specs.Sound.{skeleton_of, dart_in}
use Rattle.slab_laws.specs.View.{View, Faces, HasCycle, HasFace, cycle_in, kind_in, face_in}
use Rattle.arr_notes.specs.FaceSteps.{step_faces, splits}
use Rattle.arr_notes.specs.FaceWriters.{moved_to}
use Rattle.face_changes.specs.FacesByPairs.{first_or}
use Rattle.face_changes.specs.Kinds.{is_outer}
use Rattle.face_steps.specs.MovedLists.{ListsRest, ListsWithin}
use Rattle.face_steps.specs.StepPremises.{IsBetween, FitsSplitting, FitsUnite}
use Rattle.face_steps.specs.Tabled.{AreTabled}
use Rattle.cycle_writers.specs.declared.moves.Which.{Which}
use Rattle.cycle_writers.specs.declared.moves.Which.TheVariants.{All, Inside}
use Rattle.cycle_writers.specs.Taken.{cycles_taken, vertices_taken}

-- v is the view before the edge and w after it, f the tables and l the lists before it; the half is x's, which is outer, or y's, where that isn't
abbrev pub IsSideOf : View → DartId → DartId → Which → Type 0
IsSideOf w x y All = ⊥
IsSideOf w x y (Inside half extent) = (half ≡ x) ⊎ ((half ≡ y) × (is_outer (skeleton_of w) (dart_in w y) ≡ false))

pub record TakenFits : Type 0 where
  -- a split, where both places are on one cycle: what is taken of the face that the cycle had is what lies within the outer half
  pub split : (v w : View) (f : Faces) (l : Lists) (x y : DartId) (p q : VertexId) (a b : DartId) (which : Which) (kept fresh : CycleId) (fresh_face : FaceId) → IsBetween v w x y p q a b → AreTabled v f → AreLists v f l → cycle_in f a ≡ kept → cycle_in f b ≡ kept → ¬ HasCycle f fresh → ¬ HasFace f fresh_face → (first_or f.faces).0 < fresh_face.0 → is_outer (skeleton_of w) (dart_in w x) ≡ true → IsSideOf w x y which → FitsSplitting v w f x a b kept fresh fresh_face (cycles_taken w which kept l (face_in f kept)) (vertices_taken w which l (face_in f kept))
  -- a union: all that the face of the cycle that goes has, but that cycle
  pub unite : (w : View) (s : Faces) (l : Lists) (x y : DartId) (kept gone : CycleId) → AreFacesListed s l → cycle_in s x ≡ gone → cycle_in s y ≡ kept → kept ≢ gone → kind_in s gone ≡ Outer → FitsUnite s x y kept gone (face_in s gone) (cycles_taken w All gone l (face_in s gone)) (vertices_taken w All l (face_in s gone))
  -- nothing else is taken, and each name once, where the tables after the split, and before the union, are those of a sound view
  pub split_lists : (v w : View) (f : Faces) (l : Lists) (x a b d m : DartId) (which : Which) (kept fresh : CycleId) (fresh_face : FaceId) → AreTabled v f → AreFacesListed f l → FitsSplitting v w f x a b kept fresh fresh_face (cycles_taken w which kept l (face_in f kept)) (vertices_taken w which l (face_in f kept)) → IsSound w (step_faces w f (splits d m kept fresh x fresh_face (cycles_taken w which kept l (face_in f kept)) (vertices_taken w which l (face_in f kept)))) → ListsWithin v w f x kept (cycles_taken w which kept l (face_in f kept)) (vertices_taken w which l (face_in f kept))
  pub unite_lists : (w : View) (s : Faces) (l : Lists) (kept gone : CycleId) → IsSound w s → AreFacesListed s l → HasCycle s gone → kind_in s gone ≡ Outer → face_in s kept ≢ face_in s gone → ListsRest s kept gone (face_in s gone) (cycles_taken w All gone l (face_in s gone)) (vertices_taken w All l (face_in s gone))
  -- what moves in two goes is what moves in one
  pub both : (cs : List CycleId) (us : List VertexId) (a : FaceId) (f : Faces) → moved_to [] us a (moved_to cs [] a f) ≡ moved_to cs us a f
