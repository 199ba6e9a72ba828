-- Landmarks that were built for records.
use Rattle.std.specs.Prelude.{◌≡◌, ℕ, ◌+◌, ◌<◌, ◌%◌, List, length, get_or, Option}
use Rattle.slab_laws.specs.View.{View, Faces}
use Rattle.dcel_records.specs.declared.spot.Spot.{Spot}
use Rattle.face_location.specs.Spots.{IsSpotOf}
use Rattle.locate_walk.specs.Looks.{IsBelowOrNone}
use Rattle.locate_walk.specs.declared.found.EdgeBelow.{EdgeBelow}
use Rattle.locate_landmarks.specs.Grid.{landmark_at}

-- each is where its landmark lies, of so many as the grid has (CGAL manual, landmarks point location)
pub record IsBuiltFor (spots : List Spot) (v : View) (f : Faces) : Type 0 where
  pub all : length spots ≡ 49
  pub there : (k : ℕ) (other : Spot) → k < 49 → IsSpotOf v f (landmark_at k) (get_or spots k other)

-- the landmark before sees the edge below it, unless the next one is the lowest of a column (this project)
abbrev pub IsColumnBelow : View → ℕ → Option EdgeBelow → Type 0
IsColumnBelow v n o = (k : ℕ) → k + 1 ≡ n → (n % 7 ≡ 0 → ⊥) → IsBelowOrNone v (landmark_at k) o
