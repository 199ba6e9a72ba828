-- What a read hands over and what a write takes, where it is told: bytes that aren't told stay so.
use Rattle.std.specs.Prelude.{◌≡◌, ◌↔◌, ℕ, ◌<◌, ◌≤◌, List, [], ◌∷◌, ◌++◌, length, take, Option, Some, None, IfSome, MatchOption, Result, MatchResult}

-- the told bytes lost these at their front
abbrev pub Loses : Option (List ℕ) → Option (List ℕ) → List ℕ → Type 0
Loses None new bytes = new ≡ None
Loses (Some xs) None bytes = ⊥
Loses (Some xs) (Some ys) bytes = xs ≡ bytes ++ ys

-- the told bytes gained these at their end
abbrev pub Gains : Option (List ℕ) → Option (List ℕ) → List ℕ → Type 0
Gains None new bytes = new ≡ None
Gains (Some xs) None bytes = ⊥
Gains (Some xs) (Some ys) bytes = ys ≡ xs ++ bytes

-- the told bytes gained some of these, from the first on, at their end
abbrev pub GainsPrefix : Option (List ℕ) → Option (List ℕ) → List ℕ → Type 0
GainsPrefix old new bytes = (part : List ℕ) × (rest : List ℕ) × (bytes ≡ part ++ rest) × Gains old new part

-- where the bytes are told, none are left
abbrev pub IsSpent : Option (List ℕ) → Type 0
IsSpent left = IfSome left (λ xs. xs ≡ [])

-- n bytes came, which stand first in the buffer; for a buffer that isn't empty, none came exactly where none were left
pub record GivesCount (old new : Option (List ℕ)) (n : ℕ) (buffer : List ℕ) : Type 0 where
  pub bound : n ≤ length buffer
  pub front : Loses old new (take n buffer)
  pub ended : 0 < length buffer → IfSome old (λ xs. (n ≡ 0) ↔ (xs ≡ []))

-- what a read gives: the next bytes, or a failure that hands over nothing
abbrev pub Gives : {E : Type 0} → Option (List ℕ) → Option (List ℕ) → Result ℕ E → List ℕ → Type 0
Gives old new result buffer = MatchResult result (λ n. GivesCount old new n buffer) (λ _. new ≡ old)

-- what a read of one byte gives: the next one, or none where none are left
abbrev pub GivesByte : Option (List ℕ) → Option (List ℕ) → Option ℕ → Type 0
GivesByte old new byte = MatchOption byte (IsSpent old × (new ≡ old)) (λ b. Loses old new (b ∷ []))

-- the first n bytes of the piece were taken, at least one where there is one
pub record TakesCount (old new : Option (List ℕ)) (n : ℕ) (piece : List ℕ) : Type 0 where
  pub bound : n ≤ length piece
  pub progress : 0 < length piece → 0 < n
  pub end : Gains old new (take n piece)

-- what a write takes: a prefix of the piece, or nothing in a failure
abbrev pub Takes : {E : Type 0} → Option (List ℕ) → Option (List ℕ) → Result ℕ E → List ℕ → Type 0
Takes old new result piece = MatchResult result (λ n. TakesCount old new n piece) (λ _. new ≡ old)
