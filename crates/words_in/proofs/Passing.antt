-- Words that spell options, each name once and each value plain, pass the command without a fault, which finds the options.
use Rattle.std.proofs.Common.{◌≡◌, ◌&&◌, ◌||◌, Bool, true, false, List, [], ◌∷◌, ◌++◌, map, Option, Some, None, if◌then◌else◌, refl, sym, ap, ap₂, ◌∙◌, subst, inl, inr, ◌⊎◌, append_assoc}
use Rattle.std.specs.Prelude.{bytes_eq, option_and_then}
use Rattle.std.specs.List.{All, list_any}
use Rattle.std.proofs.lemmas.List.{append-nil}
use Rattle.std.proofs.lemmas.List.Elements.{All-nil, All-cons, All-head, All-tail}
use Rattle.std.proofs.lemmas.Slice.Eq.{bytes_eq-Decides}
use Rattle.clap.specs.Kinds.{Kinds, or_else}
use Rattle.clap.specs.Lexer.{long_of, long_of_rest, short_of, short_of_rest, strip_byte}
use Rattle.clap.specs.Walk.{Row, Text, Walk, has_row, idle, option, settled, used, walked}
use Rattle.clap.specs.Faults.{settle_fault, turn_fault, walk_fault}
use Rattle.clap.specs.declared.error.kind.ErrorKind.TheVariants.{ArgumentConflict}
use Rattle.words_in.specs.declared.options.Options.{Options}
use Rattle.words_in.specs.Grammar.{AreGivenOnce, AreSpelt, Given, flag, options_given}
use Rattle.words_in.proofs.Once.{new_name, value_given-at}
use Rattle.words_in.proofs.Turns.{IsName, asked, dashes, fault_idle, fault_waiting, fault_with, filled_option, held_with, idle_at, letters_fault, letters_next, long_fault_with, long_next_with, next_idle, next_waiting, next_with, pushed_word, rows_at, rules, shape, waiting_at}
use Rattle.words_in.proofs.Readings.{HasNoDashes, end_of, no_row, pending_fault, pending_rows, row_of, used_given}
use Rattle.words_in.proofs.Rows.{IsPlain, IsReadAs, name_read_as, plain_value}

-- ---- turns

conflict_free : (s : Kinds) (b : Bool) → s ≡ [] → b ≡ false
    → or_else (or_else s (or_else (if b && true then ArgumentConflict ∷ [] else []) [])) [] ≡ []
conflict_free s b e f = ap₂ (λ t c. or_else (or_else t (or_else (if c && true then ArgumentConflict ∷ [] else []) [])) []) e f

-- an option as one word
one_fault : (rows : List Row) (pending : Option (Text × List Text)) (g : Given) → IsReadAs g.name
    → settle_fault rules false (held_with rows pending) ≡ [] → has_row g.name (rows_at rows pending) ≡ false
    → turn_fault shape [] (idle_at rows pending) (flag g.name ++ 61 ∷ g.value) ≡ []
one_fault rows pending g r e f =
    let word = flag g.name ++ 61 ∷ g.value in
    let hold = held_with rows pending in
    fault_idle word hold ∙ ap (λ b. fault_with idle b (long_of word) word hold) (r.not_dashes_with g.value)
    ∙ ap (λ l. fault_with idle false l word hold) (r.with_value g.value)
    ∙ ap (λ found. long_fault_with idle found (Some g.value) word hold) r.found
    ∙ conflict_free (settle_fault rules false hold) (has_row g.name (settled rules hold).rows) e f

one_next : (rows : List Row) (pending : Option (Text × List Text)) (g : Given) → IsReadAs g.name
    → walked rules [] (idle_at rows pending) (flag g.name ++ 61 ∷ g.value)
    ≡ idle_at (used (filled_option g.name) (g.value ∷ []) (rows_at rows pending)) None
one_next rows pending g r =
    let word = flag g.name ++ 61 ∷ g.value in
    let hold = held_with rows pending in
    next_idle word hold ∙ ap (λ b. next_with idle b (long_of word) word hold) (r.not_dashes_with g.value)
    ∙ ap (λ l. next_with idle false l word hold) (r.with_value g.value)
    ∙ ap (λ found. long_next_with idle found (Some g.value) word hold) r.found

-- an option's name
name_fault : (rows : List Row) (pending : Option (Text × List Text)) (name : Text) → IsReadAs name
    → settle_fault rules false (held_with rows pending) ≡ [] → turn_fault shape [] (idle_at rows pending) (flag name) ≡ []
name_fault rows pending name r e =
    let hold = held_with rows pending in
    fault_idle (flag name) hold ∙ ap (λ b. fault_with idle b (long_of (flag name)) (flag name) hold) r.not_dashes
    ∙ ap (λ l. fault_with idle false l (flag name) hold) r.alone
    ∙ ap (λ found. long_fault_with idle found None (flag name) hold) r.found
    ∙ ap (λ s. or_else s []) e

name_next : (rows : List Row) (pending : Option (Text × List Text)) (name : Text) → IsReadAs name
    → walked rules [] (idle_at rows pending) (flag name) ≡ waiting_at (rows_at rows pending) name
name_next rows pending name r =
    let hold = held_with rows pending in
    next_idle (flag name) hold ∙ ap (λ b. next_with idle b (long_of (flag name)) (flag name) hold) r.not_dashes
    ∙ ap (λ l. next_with idle false l (flag name) hold) r.alone
    ∙ ap (λ found. long_next_with idle found None (flag name) hold) r.found

-- a plain value
plain_long : (v : Text) → IsPlain v → long_of v ≡ None
plain_long v h = ap (λ o. option_and_then long_of_rest (option_and_then (strip_byte 45) o)) h

plain_short : (v : Text) → IsPlain v → short_of v ≡ None
plain_short v h = ap (λ o. option_and_then short_of_rest o) h

plain_dashes : (v : Text) → IsPlain v → bytes_eq v dashes ≡ false
plain_dashes v h = go (bytes_eq v dashes) refl
  where
    go : (b : Bool) → bytes_eq v dashes ≡ b → bytes_eq v dashes ≡ false
    go true e = let bad : ◌≡◌ {A = Option Text} (Some (45 ∷ [])) None = sym (ap (strip_byte 45) ((bytes_eq-Decides v dashes).0 e)) ∙ h in cc
    go false e = e

value_fault : (rows : List Row) (g : Given) → IsPlain g.value → turn_fault shape [] (waiting_at rows g.name) g.value ≡ []
value_fault rows g plain =
    let hold = asked rows g.name in
    fault_waiting g.name g.value hold ∙ ap (λ b. fault_with (option g.name) b (long_of g.value) g.value hold) (plain_dashes g.value plain)
    ∙ ap (λ l. fault_with (option g.name) false l g.value hold) (plain_long g.value plain)
    ∙ ap (λ m. letters_fault (option g.name) m g.value hold) (plain_short g.value plain)

value_next : (rows : List Row) (g : Given) → IsName g.name → IsPlain g.value
    → walked rules [] (waiting_at rows g.name) g.value ≡ idle_at rows (Some (g.name, g.value ∷ []))
value_next rows g known plain =
    let hold = asked rows g.name in
    next_waiting g.name g.value hold ∙ ap (λ b. next_with (option g.name) b (long_of g.value) g.value hold) (plain_dashes g.value plain)
    ∙ ap (λ l. next_with (option g.name) false l g.value hold) (plain_long g.value plain)
    ∙ ap (λ m. letters_next (option g.name) m g.value hold) (plain_short g.value plain)
    ∙ pushed_word rows g.name g.value known

-- ---- the walk

-- the words pass without a fault, and all of these options are found at the end
pub record IsPassed (words : List Text) (start : Walk) (all : List Given) : Type 0 where
  pub steps : walk_fault shape [] start words ≡ []
  pub end : settle_fault rules false (end_of start words) ≡ []
  pub rows : (settled rules (end_of start words)).rows ≡ map row_of all
  pub no_dashes : HasNoDashes words

no_words : (start : Walk) (all : List Given) → settle_fault rules false start.held ≡ [] → (settled rules start.held).rows ≡ map row_of all
    → IsPassed [] start all
unfolding walk_fault
no_words start all e f = record { steps = refl; end = e; rows = f; no_dashes = refl }

one_more : (word : Text) (rest : List Text) (start next : Walk) (all : List Given) → turn_fault shape [] start word ≡ []
    → walked rules [] start word ≡ next → bytes_eq word dashes ≡ false → IsPassed rest next all → IsPassed (word ∷ rest) start all
unfolding walk_fault
one_more word rest start next all e f d p =
    let q = subst (λ (w : Walk). IsPassed rest w all) (sym f) p in
    record {
      steps = ap (λ t. or_else t (walk_fault shape [] (walked rules [] start word) rest)) e ∙ q.steps;
      end = q.end;
      rows = q.rows;
      no_dashes = ap (λ b. b || list_any (λ w. bytes_eq w dashes) rest) d ∙ q.no_dashes;
    }

abbrev ArePassed : List Given → Type 0
ArePassed given = (words : List Text) (rows : List Row) (pending : Option (Text × List Text)) (before : List Given)
    → AreSpelt given words → All (λ g. IsName g.name) given → All (λ g. IsPlain g.value) given → AreGivenOnce (before ++ given)
    → settle_fault rules false (held_with rows pending) ≡ [] → rows_at rows pending ≡ map row_of before
    → IsPassed words (idle_at rows pending) (before ++ given)

none_pass : ArePassed []
none_pass words rows pending before is named plain once e f =
    subst (λ (w : List Text). IsPassed w (idle_at rows pending) (before ++ [])) (sym is)
    (no_words (idle_at rows pending) (before ++ []) e (f ∙ ap (map row_of) (sym (append-nil before))))

pass_step : (g : Given) (given : List Given) → ArePassed given → ArePassed (g ∷ given)
pass_step g given later words rows pending before is named plain once e f =
    subst (IsPassed words (idle_at rows pending)) joined (go is.1.1)
  where
    joined : (before ++ g ∷ []) ++ given ≡ before ++ g ∷ given
    joined = append_assoc before (g ∷ []) given

    known : IsName g.name
    known = All-head (λ (x : Given). IsName x.name) g given named

    read : IsReadAs g.name
    read = name_read_as g.name known

    new : has_row g.name (rows_at rows pending) ≡ false
    new = no_row g.name (rows_at rows pending) before f (new_name before g given once)

    more : used (filled_option g.name) (g.value ∷ []) (rows_at rows pending) ≡ map row_of (before ++ g ∷ [])
    more = used_given g (rows_at rows pending) before f new

    go_on : (rest : List Text) → AreSpelt given rest → (r : List Row) (p : Option (Text × List Text)) → settle_fault rules false (held_with r p) ≡ []
        → (settled rules (held_with r p)).rows ≡ map row_of (before ++ g ∷ []) → IsPassed rest (idle_at r p) ((before ++ g ∷ []) ++ given)
    go_on rest spells r p a b =
        later rest r p (before ++ g ∷ []) spells (All-tail (λ (x : Given). IsName x.name) g given named)
        (All-tail (λ (x : Given). IsPlain x.value) g given plain) (subst AreGivenOnce (sym joined) once) a b

    go : ((words ≡ (flag g.name ++ 61 ∷ g.value) ∷ is.0) ⊎ (words ≡ flag g.name ∷ g.value ∷ is.0))
        → IsPassed words (idle_at rows pending) ((before ++ g ∷ []) ++ given)
    go (inl h) =
        subst (λ (w : List Text). IsPassed w (idle_at rows pending) ((before ++ g ∷ []) ++ given)) (sym h)
        (one_more (flag g.name ++ 61 ∷ g.value) is.0 (idle_at rows pending)
        (idle_at (used (filled_option g.name) (g.value ∷ []) (rows_at rows pending)) None) ((before ++ g ∷ []) ++ given)
        (one_fault rows pending g read e new) (one_next rows pending g read) (read.not_dashes_with g.value)
        (go_on is.0 is.1.0 (used (filled_option g.name) (g.value ∷ []) (rows_at rows pending)) None refl more))
    go (inr h) =
        let r = rows_at rows pending in
        let value = All-head (λ (x : Given). IsPlain x.value) g given plain in
        let all = (before ++ g ∷ []) ++ given in
        let sound = pending_fault r g known ∙ ap (λ b. or_else (if b && true then ArgumentConflict ∷ [] else []) []) new in
        let behind = go_on is.0 is.1.0 r (Some (g.name, g.value ∷ [])) sound (pending_rows r g known ∙ more) in
        subst (λ (w : List Text). IsPassed w (idle_at rows pending) all) (sym h)
        (one_more (flag g.name) (g.value ∷ is.0) (idle_at rows pending) (waiting_at r g.name) all (name_fault rows pending g.name read e)
        (name_next rows pending g.name read) read.not_dashes
        (one_more g.value is.0 (waiting_at r g.name) (idle_at r (Some (g.name, g.value ∷ []))) all (value_fault r g value)
        (value_next r g known value) (plain_dashes g.value value) behind))

all_pass : (given : List Given) → ArePassed given
all_pass [] = none_pass
all_pass (g ∷ given) = pass_step g given (all_pass given)

-- ---- values

plain_step : (given : List Given) (before : List Given) (options : Options) → All (λ g. IsName g.name) given → AreGivenOnce (before ++ given)
    → options_given (before ++ given) ≡ Some options → All (λ g. IsPlain g.value) given
plain_step [] before options named once read = All-nil (λ (x : Given). IsPlain x.value)
plain_step (g ∷ given) before options named once read =
    let joined = sym (append_assoc before (g ∷ []) given) in
    let known = All-head (λ (x : Given). IsName x.name) g given named in
    All-cons (λ (x : Given). IsPlain x.value) g given
    (plain_value g (before ++ g ∷ given) options known (value_given-at before g given (new_name before g given once)) read)
    (plain_step given (before ++ g ∷ []) options (All-tail (λ (x : Given). IsName x.name) g given named) (subst AreGivenOnce joined once)
    (sym (ap options_given joined) ∙ read))

pub given_pass : (words : List Text) (given : List Given) (options : Options) → AreSpelt given words → All (λ g. IsName g.name) given
    → AreGivenOnce given → options_given given ≡ Some options → IsPassed words (idle_at [] None) given
given_pass words given options is named once read =
    all_pass given words [] None [] is named (plain_step given [] options named once read) once refl refl
