-- Texts that grow one line at a time.
use Rattle.std.specs.Prelude.{ℕ, List, [], ◌++◌, slice_set}
use Rattle.std.specs.List.{slice_index_or}

-- the texts, with bytes appended to the one at a place (this project)
abbrev pub appended_at : List (List ℕ) → ℕ → List ℕ → List (List ℕ)
appended_at texts place bytes = slice_set texts place (slice_index_or texts place [] ++ bytes)
