-- The numbers of the options, each within its bounds.
use Rattle.std.specs.Prelude.{List, ℕ, ℤ, pos, negsuc, ◌&&◌, nat_le, Option, Some, None, option_and_then, option_map, if◌then◌else◌}
use Rattle.script_lines.specs.Number.{number_of}
use Rattle.words_in.specs.declared.options.TheConstants.{MAX_SEGMENTS}

-- the number, where it is from the least to the greatest
abbrev pub within : ℕ → ℕ → ℤ → Option ℕ
within least greatest (pos n) = if nat_le least n && nat_le n greatest then Some n else None
within least greatest (negsuc n) = None

-- the number that a word is, where it is from the least to the greatest
abbrev pub number_between : ℕ → ℕ → List ℕ → Option ℕ
number_between least greatest word = option_and_then (within least greatest) (number_of word)

-- how many segments the value of `--make` asks for, none at all where it wasn't given
abbrev pub make_read : Option (List ℕ) → Option (Option ℕ)
make_read None = Some None
make_read (Some word) = option_map Some (number_between 1 MAX_SEGMENTS word)

-- the seed that the value of `--seed` says, or the default where it wasn't given
abbrev pub seed_read : Option (List ℕ) → Option ℕ
seed_read None = Some 1
seed_read (Some word) = number_between 0 4294967295 word
