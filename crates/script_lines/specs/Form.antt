-- What may come after the name of a command, and which error comes where something else does.
use Rattle.std.specs.Prelude.{ℕ, ℤ, Bool, true, List, [], ◌∷◌, length, map, filter_map, find, ◌==◌, Option, Some, None, Result, Ok, Err, option_map, ok_or, bytes_eq, if◌then◌else◌}
use Rattle.std.specs.List.{list_any, list_all}
use Rattle.std.specs.Cmp.Lexicographic.{pointwise}
use Rattle.script_lines.specs.declared.error.LineError.{LineError}
use Rattle.script_lines.specs.declared.error.LineError.TheVariants.{Word, Count, Number, Range}
use Rattle.script_lines.specs.Number.{number_of, is_number, limited_number}

-- the place of a word: one that is fixed, or a number
pub data Place : Type 0 where
  Fixed : List ℕ → Place
  Numeral : Place

-- a form: the places of its words, and what their numbers make where none is out of its range
pub record Form (A : Type 0) : Type 0 where
  pub places : List Place
  pub made : List ℤ → Option A

-- the same words, for something that is made of what they make
abbrev pub form_map : {A B : Type 0} → (A → B) → Form A → Form B
form_map f form = record { places = form.places; made = λ numbers. option_map f (form.made numbers) }

-- there are as many words as places
abbrev pub has_count : {A : Type 0} → List (List ℕ) → Form A → Bool
has_count words form = length words == length form.places

abbrev pub is_at : Place → List ℕ → Bool
is_at (Fixed text) word = bytes_eq text word
is_at Numeral word = true

-- there are, and each fixed word is there
abbrev pub has_fixed : {A : Type 0} → List (List ℕ) → Form A → Bool
has_fixed words form = pointwise is_at form.places words

-- the words in the places of numbers
abbrev pub number_words : List Place → List (List ℕ) → List (List ℕ)
number_words (Numeral ∷ places) (word ∷ words) = word ∷ number_words places words
number_words (Fixed text ∷ places) (word ∷ words) = number_words places words
number_words places words = []

-- what words make as numbers: Number where one is no number, else Range where one is out of its range
abbrev pub numbers_reading : {A : Type 0} → (List ℤ → Option A) → List (List ℕ) → Result A LineError
numbers_reading made words = if list_all is_number words then ok_or (made (filter_map number_of words)) Range else Err Number

-- what words make by a form: Word where there is none for their fixed words
abbrev pub form_reading : {A : Type 0} → Option (Form A) → List (List ℕ) → Result A LineError
form_reading None words = Err Word
form_reading (Some form) words = numbers_reading form.made (number_words form.places words)

-- what words make by one of these forms: Count where none has as many
abbrev pub forms_reading : {A : Type 0} → List (Form A) → List (List ℕ) → Result A LineError
forms_reading forms words = if list_any (has_count words) forms then form_reading (find (has_fixed words) forms) words else Err Count

-- the numbers of so many words, each within the limit
abbrev pub numbers_of : ℕ → List (List ℕ) → Result (List ℤ) LineError
numbers_of count words = if length words == count then (if list_all is_number words then Ok (map limited_number (filter_map number_of words)) else Err Number) else Err Count
