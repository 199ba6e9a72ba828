-- Where the elements that pass a test end, told by what stands on both sides.
use Rattle.std.specs.Prelude.{◌≡◌, ◌<◌, ◌-◌, ℕ, Bool, true, false, List, length, slice_index_or}

-- what stands at the place has this answer
abbrev pub StandsWith : {X : Type 0} → (X → Bool) → Bool → List X → ℕ → Type 0
StandsWith {X} p b xs n = (d : X) → (n < length xs) × (p (slice_index_or xs n d) ≡ b)

-- what stands just before the place passes, and what stands there doesn't
abbrev pub IsCutAt : {X : Type 0} → (X → Bool) → List X → ℕ → Type 0
IsCutAt p xs n = StandsWith p true xs (n - 1) × StandsWith p false xs n
