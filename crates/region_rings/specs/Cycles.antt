-- Numbers that follow one another in cycles, written one cycle after another.
use Rattle.std.specs.Prelude.{◌≡◌, ◌≢◌, ◌+◌, ◌<◌, ◌≤◌, ◌==◌, ℕ, zero, suc, List, length, slice_index_or}
use Rattle.std.specs.List.{count_by}

-- ---- lists cut into rings
-- where a ring begins, and where it ends
abbrev pub ring_start : List ℕ → ℕ → ℕ
ring_start ends zero = 0
ring_start ends (suc r) = slice_index_or ends r 0

abbrev pub ring_end : List ℕ → ℕ → ℕ
ring_end ends r = slice_index_or ends r 0

-- one ring after another, none of them empty, up to n
pub record AreCut (n : ℕ) (ends : List ℕ) : Type 0 where
  pub some : (r : ℕ) → r < length ends → ring_start ends r < ring_end ends r
  pub whole : ring_start ends (length ends) ≡ n

-- in the ring r, j comes after i: it stands beside it, or is the first after the last
pub data IsAfter (ends : List ℕ) (r i j : ℕ) : Type 0 where
  along : r < length ends → ring_start ends r ≤ i → i + 1 < ring_end ends r → j ≡ i + 1 → IsAfter ends r i j
  back : r < length ends → ring_start ends r ≤ i → i + 1 ≡ ring_end ends r → j ≡ ring_start ends r → IsAfter ends r i j

-- ---- cycles
-- all numbers, each once, cut into rings along which each is followed by the next
pub record AreCycles (nexts order ends : List ℕ) : Type 0 where
  pub counted : length order ≡ length nexts
  pub within : (i : ℕ) → i < length order → slice_index_or order i 0 < length nexts
  pub once : (i j : ℕ) → i < length order → j < length order → slice_index_or order i 0 ≡ slice_index_or order j 0 → i ≡ j
  pub all : (k : ℕ) → k < length nexts → (i : ℕ) × (i < length order) × (slice_index_or order i 0 ≡ k)
  pub cut : AreCut (length order) ends
  pub follows : (r i j : ℕ) → IsAfter ends r i j → slice_index_or nexts (slice_index_or order i 0) 0 ≡ slice_index_or order j 0

-- ---- cycles that are walked one by one
-- where each number stands in the order; one that doesn't has the count of all for its place
pub record ArePlaced (nexts order places : List ℕ) : Type 0 where
  pub counted : length places ≡ length nexts
  pub rest : count_by (λ x. x == length nexts) places + length order ≡ length nexts
  pub within : (i : ℕ) → i < length order → slice_index_or order i 0 < length nexts
  pub told : (i : ℕ) → i < length order → slice_index_or places (slice_index_or order i 0) 0 ≡ i
  pub found : (k : ℕ) → k < length nexts → slice_index_or places k 0 ≢ length nexts → (slice_index_or places k 0 < length order) × (slice_index_or order (slice_index_or places k 0) 0 ≡ k)

-- what stands in the order follows something there
abbrev pub AreClosed : List ℕ → List ℕ → Type 0
AreClosed nexts order = (i : ℕ) → i < length order → (j : ℕ) × (j < length order) × (slice_index_or nexts (slice_index_or order j 0) 0 ≡ slice_index_or order i 0)

-- the cycle of `first` has come to the end of the order
pub record IsRingAdded (nexts : List ℕ) (first : ℕ) (old new places : List ℕ) : Type 0 where
  pub placed : ArePlaced nexts new places
  pub longer : length old < length new
  pub kept : (i : ℕ) → i < length old → slice_index_or new i 0 ≡ slice_index_or old i 0
  pub along : (i : ℕ) → length old ≤ i → i + 1 < length new → slice_index_or nexts (slice_index_or new i 0) 0 ≡ slice_index_or new (i + 1) 0
  pub closed : (i : ℕ) → i + 1 ≡ length new → slice_index_or nexts (slice_index_or new i 0) 0 ≡ slice_index_or new (length old) 0
  pub met : slice_index_or places first 0 ≢ length nexts

-- the cycles of the first numbers are walked
pub record AreWalked (nexts : List ℕ) (first : ℕ) (places order ends : List ℕ) : Type 0 where
  pub placed : ArePlaced nexts order places
  pub closed : AreClosed nexts order
  pub met : (k : ℕ) → k < first → slice_index_or places k 0 ≢ length nexts
  pub cut : AreCut (length order) ends
  pub follows : (r i j : ℕ) → IsAfter ends r i j → slice_index_or nexts (slice_index_or order i 0) 0 ≡ slice_index_or order j 0
