-- The records where one more edge parts a cycle: the orbit of x is a fresh cycle, which is outer in a fresh face.
use Rattle.std.specs.Prelude.{◌≡◌, ◌≢◌, ◌↔◌, ◌⊎◌, true}
use Rattle.slab_laws.specs.declared.names.CycleId.{CycleId}
use Rattle.slab_laws.specs.declared.names.CycleKind.TheVariants.{Outer}
use Rattle.slab_laws.specs.declared.names.DartId.{DartId}
use Rattle.slab_laws.specs.declared.names.FaceId.{FaceId}
use Rattle.slab_laws.specs.declared.names.VertexId.{VertexId}
use Rattle.slab_laws.specs.FacesSound.{lead_in, IsCycled, IsComplete}
use Rattle.slab_laws.specs.Rotation.{twin}
use Rattle.slab_laws.specs.Sound.{skeleton_of, dart_in, IsGraphSound}
use Rattle.slab_laws.specs.View.{View, Faces, HasVertex, HasDart, HasCycle, HasFace, IsOutOf, point_in, cycle_in, kind_in, face_in, bare_face_in}
use Rattle.face_changes.specs.Kinds.{odd_at, is_outer}
use Rattle.face_changes.specs.OneMoreEdge.{IsOneMoreEdge, PartsCycle}
use Rattle.face_changes.specs.FacesByPairs.{Item, beside, round, HasItem, cell_at, first_or, AreFacesTold}

-- w has two more darts than v: x, the dart of the fresh cycle, and y, its twin; x comes after the dart a, and the edge parts the cycle of a
pub record IsLinkedWithin (v w : View) (x y a : DartId) : Type 0 where
  pub sound : IsGraphSound v
  pub sound_more : IsGraphSound w
  pub is_more : IsOneMoreEdge (skeleton_of v) (skeleton_of w) (dart_in w x).edge
  pub parted : PartsCycle (skeleton_of v) (skeleton_of w) (dart_in w x) (dart_in v a)
  pub place : HasDart v a
  pub first : HasDart w x
  pub second : HasDart w y
  pub first_new : ¬ HasDart v x
  pub second_new : ¬ HasDart v y
  pub twins : dart_in w y ≡ twin (dart_in w x)
  pub old : (k : DartId) → HasDart v k → HasDart w k × (dart_in w k ≡ dart_in v k)
  pub new : (k : DartId) → HasDart w k → HasDart v k ⊎ (k ≡ x) ⊎ (k ≡ y)
  pub vertices : (u : VertexId) → HasVertex w u → HasVertex v u × (point_in w u ≡ point_in v u)
  pub bare : (u : VertexId) → HasVertex w u → ((k : DartId) → ¬ IsOutOf w u k) → (k : DartId) → ¬ IsOutOf v u k
  pub bare_up : (u : VertexId) → HasVertex v u → ((k : DartId) → ¬ IsOutOf v u k) → HasVertex w u × ((k : DartId) → ¬ IsOutOf w u k)

-- within the fresh cycle, by the parity of x's cycle at the cell of a thing
abbrev pub IsWithin : View → DartId → Item → Type 0
IsWithin w x i = odd_at (skeleton_of w) (dart_in w x) (cell_at w i) ≡ true

-- what the records are to say afterwards: the orbit of x is the cycle fresh, outer in fresh_face; what lay in the old face and is within it has moved
pub record IsSplitInto (v w : View) (f s : Faces) (x y a : DartId) (fresh : CycleId) (fresh_face : FaceId) : Type 0 where
  pub new_cycle : ¬ HasCycle f fresh
  pub new_face : ¬ HasFace f fresh_face
  pub first_stays : first_or s.faces ≡ first_or f.faces
  pub cycles : (c : CycleId) → HasCycle s c ↔ (HasCycle f c ⊎ (c ≡ fresh))
  pub faces : (b : FaceId) → HasFace s b ↔ (HasFace f b ⊎ (b ≡ fresh_face))
  pub on_fresh : (k : DartId) → HasDart w k → lead_in w k ≡ lead_in w x → cycle_in s k ≡ fresh
  pub on_kept : (k : DartId) → HasDart w k → lead_in w k ≡ lead_in w y → cycle_in s k ≡ cycle_in f a
  pub on_other : (k : DartId) → HasDart v k → cycle_in f k ≢ cycle_in f a → cycle_in s k ≡ cycle_in f k
  pub kind_fresh : kind_in s fresh ≡ Outer
  pub kind_old : (c : CycleId) → HasCycle f c → kind_in s c ≡ kind_in f c
  pub face_fresh : face_in s fresh ≡ fresh_face
  pub face_kept : face_in s (cycle_in f a) ≡ face_in f (cycle_in f a)
  pub moved : (k : DartId) → HasDart v k → cycle_in f k ≢ cycle_in f a → face_in f (cycle_in f k) ≡ face_in f (cycle_in f a) → IsWithin w x (beside k) → face_in s (cycle_in f k) ≡ fresh_face
  pub left : (k : DartId) → HasDart v k → cycle_in f k ≢ cycle_in f a → face_in f (cycle_in f k) ≡ face_in f (cycle_in f a) → ¬ IsWithin w x (beside k) → face_in s (cycle_in f k) ≡ face_in f (cycle_in f a)
  pub off : (k : DartId) → HasDart v k → face_in f (cycle_in f k) ≢ face_in f (cycle_in f a) → face_in s (cycle_in f k) ≡ face_in f (cycle_in f k)
  pub bare_moved : (u : VertexId) → HasItem v (round u) → bare_face_in f u ≡ face_in f (cycle_in f a) → IsWithin w x (round u) → bare_face_in s u ≡ fresh_face
  pub bare_left : (u : VertexId) → HasItem v (round u) → bare_face_in f u ≡ face_in f (cycle_in f a) → ¬ IsWithin w x (round u) → bare_face_in s u ≡ face_in f (cycle_in f a)
  pub bare_off : (u : VertexId) → HasItem v (round u) → bare_face_in f u ≢ face_in f (cycle_in f a) → bare_face_in s u ≡ bare_face_in f u

-- so cycles and faces are told again; the half of x must be outer
pub record RecordsAfterSplits : Type 0 where
  pub cycled : (v w : View) (f s : Faces) (x y a : DartId) (fresh : CycleId) (fresh_face : FaceId) → IsLinkedWithin v w x y a → IsComplete v f → IsCycled v f → IsSplitInto v w f s x y a fresh fresh_face → is_outer (skeleton_of w) (dart_in w x) ≡ true → IsCycled w s
  pub told : (v w : View) (f s : Faces) (x y a : DartId) (fresh : CycleId) (fresh_face : FaceId) → IsLinkedWithin v w x y a → IsComplete v f → IsCycled v f → AreFacesTold v f → IsSplitInto v w f s x y a fresh fresh_face → is_outer (skeleton_of w) (dart_in w x) ≡ true → AreFacesTold w s
