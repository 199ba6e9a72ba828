-- Cycles of numbers that follow one another, walked from their least ones.
use Rattle.std.specs.Prelude.{◌≡◌, ◌≢◌, ◌⊎◌, ◌<◌, ℕ, List, length, slice_index_or}

-- each number is followed by one of them, and follows one at most
pub record ArePermuted (nexts : List ℕ) : Type 0 where
  pub within : (k : ℕ) → k < length nexts → slice_index_or nexts k 0 < length nexts
  pub one : (j k : ℕ) → j < length nexts → k < length nexts → slice_index_or nexts j 0 ≡ slice_index_or nexts k 0 → j ≡ k

-- the number k has a lead
abbrev pub IsMet : List ℕ → List ℕ → ℕ → Type 0
IsMet nexts leads k = slice_index_or leads k 0 ≢ length nexts

-- a number has one exactly where the one that follows it has
abbrev pub AreWhole : List ℕ → List ℕ → Type 0
AreWhole nexts leads = (k : ℕ) → k < length nexts → (IsMet nexts leads k → IsMet nexts leads (slice_index_or nexts k 0)) × (IsMet nexts leads (slice_index_or nexts k 0) → IsMet nexts leads k)

-- whatever is kept along `nexts` is the same of both
abbrev pub IsOnCycle : List ℕ → ℕ → ℕ → Type 0
IsOnCycle nexts a b = (f : ℕ → ℕ) → ((k : ℕ) → k < length nexts → f (slice_index_or nexts k 0) ≡ f k) → f b ≡ f a

-- k was not met, and has this lead, which is on its cycle and wasn't met either
pub record IsLedBy (nexts : List ℕ) (first : ℕ) (old new : List ℕ) (k : ℕ) : Type 0 where
  pub unmet : IsMet nexts old first → ⊥
  pub lead : slice_index_or new k 0 ≡ first
  pub on : IsOnCycle nexts first k

-- the cycle of the first number has leads, whole, and all others are as before (this project)
pub record IsMarked (nexts : List ℕ) (first : ℕ) (old new : List ℕ) : Type 0 where
  pub counted : length new ≡ length nexts
  pub whole : AreWhole nexts new
  pub met : IsMet nexts new first
  pub kept : (k : ℕ) → k < length nexts → IsMet nexts old k → slice_index_or new k 0 ≡ slice_index_or old k 0
  pub marked : (k : ℕ) → k < length nexts → IsMet nexts new k → IsMet nexts old k ⊎ IsLedBy nexts first old new k
