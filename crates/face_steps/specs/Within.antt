-- What lies within the fresh half of a cycle may be told by the other half: whichever is shorter may be counted.
use Rattle.std.specs.Prelude.{◌≡◌, ◌↔◌, true}
use Rattle.slab_laws.specs.declared.names.DartId.{DartId}
use Rattle.slab_laws.specs.declared.names.VertexId.{VertexId}
use Rattle.slab_laws.specs.Sound.{skeleton_of, dart_in}
use Rattle.slab_laws.specs.View.{View, Faces, HasDart, cycle_in, face_in, bare_face_in}
use Rattle.face_changes.specs.FacesByPairs.{Item, beside, round, HasItem, cell_at}
use Rattle.face_changes.specs.Kinds.{odd_at, is_outer}
use Rattle.face_changes.specs.RecordsAfterSplits.{IsWithin}
use Rattle.face_steps.specs.StepPremises.{IsBetween}
use Rattle.face_steps.specs.Tabled.{AreTabled}

-- the thing is on m's side: m's cycle has the parity there that it has beside m (book, ray shooting)
abbrev pub IsBesideHalf : View → DartId → Item → Type 0
IsBesideHalf w m i = odd_at (skeleton_of w) (dart_in w m) (cell_at w i) ≡ is_outer (skeleton_of w) (dart_in w m)

-- d is the outer half's dart, m the other's: of what had the old face, just what is not on m's side is within d's cycle (this project)
pub record WithinByEither : Type 0 where
  pub darts : (v w : View) (f : Faces) (d m : DartId) (p q : VertexId) (a b k : DartId) → IsBetween v w d m p q a b → AreTabled v f → cycle_in f a ≡ cycle_in f b → is_outer (skeleton_of w) (dart_in w d) ≡ true → HasDart v k → face_in f (cycle_in f k) ≡ face_in f (cycle_in f a) → IsWithin w d (beside k) ↔ (¬ IsBesideHalf w m (beside k))
  pub vertices : (v w : View) (f : Faces) (d m : DartId) (p q : VertexId) (a b : DartId) (u : VertexId) → IsBetween v w d m p q a b → AreTabled v f → cycle_in f a ≡ cycle_in f b → is_outer (skeleton_of w) (dart_in w d) ≡ true → HasItem v (round u) → bare_face_in f u ≡ face_in f (cycle_in f a) → IsWithin w d (round u) ↔ (¬ IsBesideHalf w m (round u))
  pub turned : (v w : View) (d m : DartId) (p q : VertexId) (a b : DartId) → IsBetween v w d m p q a b → IsBetween v w m d q p b a
