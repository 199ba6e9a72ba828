-- The darts of each face, chained from the last one to the first.
use Rattle.std.specs.Prelude.{◌≡◌, ◌<◌, ℕ, List, length, slice_index_or, Option, None, Some}
use Rattle.polygon_sets.specs.declared.chains.Chains.{Chains}
use Rattle.polygon_sets.specs.declared.crossings.Crossing.{Crossing}
use Rattle.polygon_sets.specs.Crossings.{crossing_at}

-- of the first m darts the last one that has the face on its left, if there is one (this project)
abbrev pub IsLastOf : List Crossing → ℕ → ℕ → Option ℕ → Type 0
IsLastOf cs f m None = (j : ℕ) → j < m → (crossing_at cs j).left ≡ f → ⊥
IsLastOf cs f m (Some k) = (k < m) × ((crossing_at cs k).left ≡ f) × ((j : ℕ) → k < j → j < m → (crossing_at cs j).left ≡ f → ⊥)

-- each face with the last of all its darts, and each dart with the one before it (this project)
pub record AreChains (cs : List Crossing) (faces : ℕ) (chains : Chains) : Type 0 where
  pub of_faces : length chains.last.items ≡ faces
  pub of_darts : length chains.before.items ≡ length cs
  pub last : (f : ℕ) → f < faces → IsLastOf cs f (length cs) (slice_index_or chains.last.items f None)
  pub before : (k : ℕ) → k < length cs → IsLastOf cs (crossing_at cs k).left k (slice_index_or chains.before.items k None)
