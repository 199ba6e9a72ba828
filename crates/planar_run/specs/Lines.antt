-- The lines of a script. A line ends before byte 10.
use Rattle.std.specs.Prelude.{ℕ, List, [], ◌∷◌, ◌==◌, if◌then◌else◌}

-- a byte in front of the first line, which is begun where there is none
abbrev pub put_first : ℕ → List (List ℕ) → List (List ℕ)
put_first b [] = (b ∷ []) ∷ []
put_first b (line ∷ more) = (b ∷ line) ∷ more

-- all lines: a last one without byte 10 counts where it isn't empty
abbrev pub lines : List ℕ → List (List ℕ)
lines [] = []
lines (b ∷ more) = if b == 10 then [] ∷ lines more else put_first b (lines more)

-- a byte in front of the first line, if there is one
abbrev pub put_before : ℕ → List (List ℕ) → List (List ℕ)
put_before b [] = []
put_before b (line ∷ more) = (b ∷ line) ∷ more

-- the lines whose byte 10 is there
abbrev pub ended_lines : List ℕ → List (List ℕ)
ended_lines [] = []
ended_lines (b ∷ more) = if b == 10 then [] ∷ ended_lines more else put_before b (ended_lines more)
