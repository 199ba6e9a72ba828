-- Replies that are gathered, and then handed to a sink together.
use Rattle.std.specs.Prelude.{◌≡◌, ℕ, List, ◌++◌, Option, Some, None}
use Rattle.outside.specs.Bytes.{Gains}

-- what a sink that tells its bytes will have taken, with what was gathered
abbrev pub with_gathered : Option (List ℕ) → List ℕ → Option (List ℕ)
with_gathered None gathered = None
with_gathered (Some taken) gathered = Some (taken ++ gathered)

-- a reply came behind what was gathered: of both the sink took a front, and the rest stays gathered
abbrev pub Passes : Option (List ℕ) → Option (List ℕ) → List ℕ → List ℕ → List ℕ → Type 0
Passes old new gathered gathered' reply = (part : List ℕ) × (gathered ++ reply ≡ part ++ gathered') × Gains old new part

-- the sink took some bytes, or none
abbrev pub Grows : Option (List ℕ) → Option (List ℕ) → Type 0
Grows old new = (part : List ℕ) × Gains old new part

-- of the bytes that would have brought the sink to there it took a front
abbrev pub IsFront : Option (List ℕ) → Option (List ℕ) → Option (List ℕ) → Type 0
IsFront old new whole = (part : List ℕ) × (rest : List ℕ) × Gains old new part × Gains old whole (part ++ rest)
