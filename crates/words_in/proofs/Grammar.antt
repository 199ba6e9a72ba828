-- The grammar of the words, and what `clap` says of them.
use Rattle.std.proofs.Common.{◌≡◌, ◌&&◌, ◌||◌, Bool, true, false, not, List, [], ◌∷◌, map, Option, Some, None, if◌then◌else◌, refl, sym, ap, ◌∙◌, subst, codes}
use Rattle.std.specs.Prelude.{bytes_eq, drop, find, is_some, option_and_then, option_map, slice_get}
use Rattle.std.specs.Option.{option_map_or}
use Rattle.std.specs.List.{list_any}
use Rattle.clap.specs.Facts.{explicit_source}
use Rattle.clap.specs.Kinds.{Kinds, check_kinds, or_else}
use Rattle.clap.specs.Walk.{Row, Text, finished, first_of, has_row, nothing_held, settled, walk, walk_from}
use Rattle.clap.specs.Faults.{check_fault, defaults_fault, entered_fault, fault_of, settle_fault, walk_fault}
use Rattle.clap.specs.Simple.{built, entered, matches_of}
use Rattle.clap.proofs.WalkLemmas.{find-map}
use Rattle.words_in.specs.declared.options.Options.{Options}
use Rattle.words_in.specs.Values.{options_read}
use Rattle.words_in.specs.Grammar.{Given, HasOptions, option_names, options_given, value_given}
use Rattle.words_in.specs.Command.{planar_app}
use Rattle.words_in.proofs.Turns.{both_none, filled_option, idle_at, rules, shape}
use Rattle.words_in.proofs.Readings.{HasNoDashes, default_step, faultless_words, row_of, rows_found}
use Rattle.words_in.proofs.Passing.{IsPassed, given_pass}

-- the options of what is found first of each name
abbrev pub options_found : List Row → Option Options
options_found rows = options_read (first_of (codes "locate") rows) (first_of (codes "make") rows) (first_of (codes "seed") rows)

-- no word behind the first is `--`, and `clap` finds values that give the options
pub record IsTaken (words : List Text) (options : Options) : Type 0 where
  pub no_dashes : HasNoDashes (drop 1 words)
  pub faultless : fault_of planar_app words ≡ []
  pub read : options_found (matches_of planar_app words) ≡ Some options

-- what is found first of a name is the value that is given for it
first_given : (name : Text) (given : List Given) → first_of name (map row_of given) ≡ value_given name given
first_given name given =
    sym (ap (option_and_then (λ (r : Row). slice_get r.values 0)) (find-map (λ (r : Row). bytes_eq r.id name) row_of given))
    ∙ go (find (λ (g : Given). bytes_eq g.name name) given)
  where
    go : (o : Option Given) → option_and_then (λ (r : Row). slice_get r.values 0) (option_map row_of o) ≡ option_map (λ (g : Given). g.value) o
    go None = refl
    go (Some g) = refl

-- what is found gives the options that are given
found_given : (given : List Given) → options_found (map row_of given) ≡ options_given given
found_given given =
    rw (first_given (codes "locate") given, first_given (codes "make") given, first_given (codes "seed") given) refl

-- ---- words in the grammar are taken

-- no option has a default, which could be no value of it
default_fault_step : (name : Text) (rows : List Row) (later : Kinds) (more : Kinds) → later ≡ []
    → or_else (if has_row name rows || true then [] else more) later ≡ []
default_fault_step name rows later more e = go (has_row name rows) ∙ e
  where
    go : (b : Bool) → or_else (if b || true then [] else more) later ≡ later
    go true = refl
    go false = refl

no_default_fault : (names : List Text) (rows : List Row) → defaults_fault rows (map filled_option names) ≡ []
unfolding defaults_fault
no_default_fault [] rows = refl
no_default_fault (n ∷ names) rows =
    default_fault_step n rows _ _ (ap (λ t. defaults_fault t (map filled_option names)) (default_step n rows) ∙ no_default_fault names rows)

-- nothing is wanted that isn't there
nothing_wanted : (b c : Bool) → check_kinds (not b && (false && c)) (not b && false) (not (false && b) && false) ≡ []
nothing_wanted true c = refl
nothing_wanted false c = refl

nothing_below : {X : Type 0} (o : Option X) → ◌≡◌ {A = Kinds} (option_map_or (λ x. []) o []) []
nothing_below None = refl
nothing_below (Some x) = refl

none_of_five : (a b c d e : Kinds) → a ≡ [] → b ≡ [] → c ≡ [] → d ≡ [] → e ≡ [] → or_else a (or_else b (or_else c (or_else d e))) ≡ []
none_of_five a b c d e p q r s t =
    ap (λ x. or_else x (or_else b (or_else c (or_else d e)))) p ∙ ap (λ x. or_else x (or_else c (or_else d e))) q
    ∙ ap (λ x. or_else x (or_else d e)) r ∙ ap (λ x. or_else x e) s ∙ t

passed_faultless : (first : Text) (rest : List Text) (given : List Given) → IsPassed rest (idle_at [] None) given → fault_of planar_app (first ∷ rest) ≡ []
passed_faultless first rest given p =
    let end = (walk rules [] nothing_held rest).held in
    let stop = (walk rules [] nothing_held rest).stopped in
    none_of_five (walk_fault shape [] (walk_from nothing_held) rest) (entered_fault (built planar_app) stop) (settle_fault rules false end)
    (defaults_fault (settled rules end).rows rules) (check_fault shape (finished rules end) (is_some (entered (built planar_app) stop)))
    p.steps (nothing_below stop) p.end (no_default_fault option_names (settled rules end).rows)
    (nothing_wanted (is_some (entered (built planar_app) stop)) (not (list_any (λ (r : Row). explicit_source r.source) (finished rules end))))

pub taken_if_given : (words : List Text) (options : Options) → HasOptions words options → IsTaken words options
taken_if_given words options g =
    let p = given_pass g.rest g.given options g.spelt g.named g.once g.read in
    let taken : IsTaken (g.first ∷ g.rest) options = record {
      no_dashes = p.no_dashes;
      faultless = passed_faultless g.first g.rest g.given p;
      read = ap options_found (rows_found g.rest g.given p.rows) ∙ found_given g.given ∙ g.read;
    } in
    subst (λ (w : List Text). IsTaken w options) (sym g.words_are) taken

-- ---- words that are taken are in the grammar

-- `clap`'s walk over the words behind the first has no fault
walk_passes : (first : Text) (rest : List Text) → fault_of planar_app (first ∷ rest) ≡ []
    → (walk_fault shape [] (walk_from nothing_held) rest ≡ []) × (settle_fault rules false (walk rules [] nothing_held rest).held ≡ [])
walk_passes first rest h =
    let one = both_none _ _ h in
    let two = both_none _ _ one.1 in
    let three = both_none _ _ two.1 in
    (one.0, three.0)

pub given_if_taken : (first : Text) (rest : List Text) (options : Options) → IsTaken (first ∷ rest) options → HasOptions (first ∷ rest) options
given_if_taken first rest options t =
    let passes = walk_passes first rest t.faultless in
    let f = faultless_words rest t.no_dashes passes.0 passes.1 in
    record {
      first = first;
      rest = rest;
      given = f.given;
      words_are = refl;
      spelt = f.spelt;
      named = f.named;
      once = f.once;
      read = sym (found_given f.given) ∙ sym (ap options_found (rows_found rest f.given f.rows)) ∙ t.read;
    }
