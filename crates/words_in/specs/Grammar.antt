-- The grammar of the words of a command line, and what they give.
use Rattle.std.specs.Prelude.{◌≡◌, ◌≤◌, ◌⊎◌, ℕ, Bool, true, List, [], ◌∷◌, ◌++◌, Option, Some, codes, find, count_by, bytes_eq, option_map}
use Rattle.std.specs.List.{All, list_any}
use Rattle.words_in.specs.declared.options.Options.{Options}
use Rattle.words_in.specs.Values.{options_read}

-- the names of the options
abbrev pub option_names : List (List ℕ)
option_names = codes "locate" ∷ codes "make" ∷ codes "seed" ∷ []

-- the name is that of an option
abbrev pub is_option_name : List ℕ → Bool
is_option_name name = list_any (λ n. bytes_eq n name) option_names

-- an option that is given
pub record Given : Type 0 where
  pub name : List ℕ
  pub value : List ℕ

-- two hyphens and the name
abbrev pub flag : List ℕ → List ℕ
flag name = codes "--" ++ name

-- the options, each as one word `--name=value` or as two words `--name value`, are all of the words
abbrev pub AreSpelt : List Given → List (List ℕ) → Type 0
AreSpelt [] words = words ≡ []
AreSpelt (g ∷ given) words = (rest : List (List ℕ)) × (AreSpelt given rest
    × ((words ≡ (flag g.name ++ 61 ∷ g.value) ∷ rest) ⊎ (words ≡ flag g.name ∷ g.value ∷ rest)))

-- each name is given at most once
abbrev pub AreGivenOnce : List Given → Type 0
AreGivenOnce given = (name : List ℕ) → count_by (λ g. bytes_eq g.name name) given ≤ 1

-- the value that is given for a name
abbrev pub value_given : List ℕ → List Given → Option (List ℕ)
value_given name given = option_map (λ g. g.value) (find (λ g. bytes_eq g.name name) given)

-- what the given options say, where each value is one that its option has, with a default for each option that isn't given
abbrev pub options_given : List Given → Option Options
options_given given =
    options_read (value_given (codes "locate") given) (value_given (codes "make") given) (value_given (codes "seed") given)

-- the words are in the grammar and give these options: a first word, then options
pub record HasOptions (words : List (List ℕ)) (options : Options) : Type 0 where
  pub first : List ℕ
  pub rest : List (List ℕ)
  pub given : List Given
  pub words_are : words ≡ first ∷ rest
  pub spelt : AreSpelt given rest
  pub named : All (λ g. is_option_name g.name ≡ true) given
  pub once : AreGivenOnce given
  pub read : options_given given ≡ Some options

-- the words are in the grammar
abbrev pub AreInGrammar : List (List ℕ) → Type 0
AreInGrammar words = (options : Options) × HasOptions words options

-- the words are outside the grammar
abbrev pub AreOutside : List (List ℕ) → Type 0
AreOutside words = (options : Options) → HasOptions words options → ⊥
