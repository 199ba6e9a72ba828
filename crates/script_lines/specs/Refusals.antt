-- When a line is refused, and when it asks for nothing.
use Rattle.std.specs.Prelude.{◌≡◌, ◌≢◌, ℕ, ◌<◌, ◌≤◌, ◌⊎◌, List, [], ◌∷◌, length, All, Any, find, filter_map, Some, IsSome, IsNone, IsFalse, ⊤, slice_index}
use Rattle.script_lines.specs.declared.command.TheConstants.{MAX_LINE}
use Rattle.script_lines.specs.declared.command.Command.{Command}
use Rattle.script_lines.specs.declared.name.Name.{Name}
use Rattle.script_lines.specs.Number.{number_of}
use Rattle.script_lines.specs.Form.{Form, has_fixed, number_words}
use Rattle.script_lines.specs.Command.{row_of}

-- a byte that prints
abbrev pub IsPrintable : ℕ → Type 0
IsPrintable b = (32 ≤ b) × (b ≤ 126)

-- and one that doesn't
abbrev pub IsOtherByte : ℕ → Type 0
IsOtherByte b = (b < 32) ⊎ (126 < b)

-- the line has as few bytes as it may, and all of them print
pub record IsText (line : List ℕ) : Type 0 where
  pub short : length line ≤ MAX_LINE
  pub printable : All IsPrintable line

-- a comment's first word begins with `#`
abbrev pub IsComment : List ℕ → Type 0
IsComment word = slice_index word 0 ≡ 35

-- there is no word, or they are a comment
abbrev pub IsSilent : List (List ℕ) → Type 0
IsSilent [] = ⊤
IsSilent (word ∷ rest) = IsComment word

-- the first word is no command
pub record IsNoCommand (words : List (List ℕ)) : Type 0 where
  pub word : List ℕ
  pub rest : List (List ℕ)
  pub are : words ≡ word ∷ rest
  pub spoken : ¬ IsComment word
  pub unknown : (name : Name) → word ≢ (row_of name).name

-- the first word is a command, and no form of it has as many words
pub record HasWrongCount (words : List (List ℕ)) : Type 0 where
  pub name : Name
  pub rest : List (List ℕ)
  pub are : words ≡ (row_of name).name ∷ rest
  pub none : All (λ form. length rest ≢ length form.places) (row_of name).forms

-- one has, and no form of the command has its fixed words there
pub record HasWrongWord (words : List (List ℕ)) : Type 0 where
  pub name : Name
  pub rest : List (List ℕ)
  pub are : words ≡ (row_of name).name ∷ rest
  pub counted : Any (λ form. length rest ≡ length form.places) (row_of name).forms
  pub none : All (λ form. IsFalse (has_fixed rest form)) (row_of name).forms

-- these words come after the command, and this is the form that they have
pub record HasForm (words rest : List (List ℕ)) (form : Form Command) : Type 0 where
  pub name : Name
  pub are : words ≡ (row_of name).name ∷ rest
  pub found : find (has_fixed rest) (row_of name).forms ≡ Some form

-- a word in the place of a number is none
pub record HasNoNumber (words : List (List ℕ)) : Type 0 where
  pub rest : List (List ℕ)
  pub form : Form Command
  pub has : HasForm words rest form
  pub other : Any (λ word. IsNone (number_of word)) (number_words form.places rest)

-- all are numbers, and one of them is out of its range
pub record IsOutOfRange (words : List (List ℕ)) : Type 0 where
  pub rest : List (List ℕ)
  pub form : Form Command
  pub has : HasForm words rest form
  pub numbers : All (λ word. IsSome (number_of word)) (number_words form.places rest)
  pub out : IsNone (form.made (filter_map number_of (number_words form.places rest)))
