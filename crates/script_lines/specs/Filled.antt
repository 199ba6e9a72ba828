-- Arrays whose first items are kept, and whose rest is filled.
use Rattle.std.specs.Prelude.{◌≡◌, ◌≤◌, ◌-◌, ℕ, List, ◌++◌, length, take, replicate}

-- the items in an array of so many, whose rest is a filler
abbrev pub filled : {A : Type 0} → ℕ → A → List A → List A
filled most filler items = items ++ replicate (most - length items) filler

-- the items are the first so many of an array
pub record IsFilled {A : Type 0} (most : ℕ) (filler : A) (array : List A) (count : ℕ) : Type 0 where
  pub few : count ≤ most
  pub room : length array ≡ most
  pub rest : array ≡ filled most filler (take count array)
