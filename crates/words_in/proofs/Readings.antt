-- The words that the command takes without a fault, and what it finds in them.
use Rattle.std.proofs.Common.{◌≡◌, Bool, true, false, List, [], ◌∷◌, ◌++◌, map, Option, Some, None, if◌then◌else◌, refl, sym, ap, ◌∙◌, subst, inl, inr, ◌⊎◌, append_assoc, arith}
use Rattle.std.specs.Prelude.{fold, bytes_eq}
use Rattle.std.specs.List.{All, list_any}
use Rattle.std.proofs.lemmas.Bool.{or_parts}
use Rattle.std.proofs.lemmas.List.{append-nil, map-append}
use Rattle.std.proofs.lemmas.List.Elements.{All-nil, All-cons}
use Rattle.clap.specs.Lexer.{long_of}
use Rattle.clap.specs.Walk.{Held, Row, Text, Walk, at_row, has_row, more_values, nothing_held, reading_by, rows_after, settled, used, used_by_id, walk, walk_from, walked, with_default}
use Rattle.clap.specs.Faults.{settle_fault, turn_fault, use_fault, walk_fault}
use Rattle.clap.specs.declared.parser.matches.ValueSource.TheVariants.{CommandLine}
use Rattle.clap.proofs.WalkLemmas.{list_any-map}
use Rattle.std.specs.Option.{option_map_or}
use Rattle.words_in.specs.Grammar.{AreGivenOnce, AreSpelt, Given, flag, option_names}
use Rattle.words_in.proofs.Once.{is_given, once_push}
use Rattle.words_in.proofs.Cut.{one_word, name_word}
use Rattle.words_in.proofs.Turns.{IsName, IsOptionIn, IsOptionTaken, both_none, by_id, dashes, filled_option, held_with, idle_at, idle_turn, no_value, not_repeated, rows_at, rules, shape, waiting_at, waiting_turn}

-- ---- rows

-- what is found of an option
abbrev pub row_of : Given → Row
row_of g = record {
  id = g.name;
  values = g.value ∷ [];
  count = None;
  source = Some CommandLine;
  reading = reading_by (filled_option g.name);
}

row_step : (id : Text) (change : Row → List Row) (missing : List Row) (r : Row) (rows : List Row)
    → at_row id change missing rows ≡ rows ++ missing → bytes_eq r.id id ≡ false → at_row id change missing (r ∷ rows) ≡ (r ∷ rows) ++ missing
row_step id change missing r rows later e =
    ap (λ t. if t then change r ++ rows else r ∷ at_row id change missing rows) e ∙ ap (λ t. r ∷ t) later

-- what no row has comes at the end
at_row-none : (id : Text) (change : Row → List Row) (missing : List Row) (rows : List Row) → has_row id rows ≡ false
    → at_row id change missing rows ≡ rows ++ missing
at_row-none id change missing [] h = refl
at_row-none id change missing (r ∷ rows) h =
    let both = or_parts (bytes_eq r.id id) (has_row id rows) h in
    row_step id change missing r rows (at_row-none id change missing rows both.1) both.0

used_new : (g : Given) (rows : List Row) → has_row g.name rows ≡ false → used (filled_option g.name) (g.value ∷ []) rows ≡ rows ++ row_of g ∷ []
used_new g rows h =
    ap (λ t. at_row g.name (more_values CommandLine (g.value ∷ [])) (row_of g ∷ []) t) (at_row-none g.name (λ _. []) [] rows h ∙ append-nil rows)
    ∙ at_row-none g.name (more_values CommandLine (g.value ∷ [])) (row_of g ∷ []) rows h

-- a row more, over what was given before
pub used_given : (g : Given) (rows : List Row) (before : List Given) → rows ≡ map row_of before → has_row g.name rows ≡ false
    → used (filled_option g.name) (g.value ∷ []) rows ≡ map row_of (before ++ g ∷ [])
used_given g rows before are h = used_new g rows h ∙ ap (λ t. t ++ row_of g ∷ []) are ∙ sym (map-append row_of before (g ∷ []))

has_row-given : (name : Text) (rows : List Row) (before : List Given) → rows ≡ map row_of before → has_row name rows ≡ is_given name before
has_row-given name rows before are = ap (λ t. has_row name t) are ∙ sym (list_any-map (λ (r : Row). bytes_eq r.id name) row_of before)

pub not_given : (name : Text) (rows : List Row) (before : List Given) → rows ≡ map row_of before → has_row name rows ≡ false → is_given name before ≡ false
not_given name rows before are h = sym (has_row-given name rows before are) ∙ h

pub no_row : (name : Text) (rows : List Row) (before : List Given) → rows ≡ map row_of before → is_given name before ≡ false → has_row name rows ≡ false
no_row name rows before are h = has_row-given name rows before are ∙ h

-- no option has a default
pub default_step : (name : Text) (rows : List Row) → with_default rows (filled_option name) ≡ rows
default_step name rows = go (has_row name rows)
  where
    go : (b : Bool) → (if b then rows else rows) ≡ rows
    go true = refl
    go false = refl

pub no_defaults : (names : List Text) (rows : List Row) → fold with_default rows (map filled_option names) ≡ rows
no_defaults [] rows = refl
no_defaults (n ∷ names) rows = ap (λ t. fold with_default t (map filled_option names)) (default_step n rows) ∙ no_defaults names rows

-- ---- the walk

-- no word is `--`
abbrev pub HasNoDashes : List Text → Type 0
HasNoDashes words = list_any (λ word. bytes_eq word dashes) words ≡ false

-- what is held at the end of a walk
abbrev pub end_of : Walk → List Text → Held
end_of start words = (fold (walked rules []) start words).held

-- the walk goes over all of the words without a fault
pub record IsFaultless (start : Walk) (words : List Text) : Type 0 where
  pub steps : walk_fault shape [] start words ≡ []
  pub end : settle_fault rules false (end_of start words) ≡ []

first_turn : (start : Walk) (word : Text) (rest : List Text) → IsFaultless start (word ∷ rest)
    → (turn_fault shape [] start word ≡ []) × IsFaultless (walked rules [] start word) rest
unfolding walk_fault
first_turn start word rest p =
    let both = both_none (turn_fault shape [] start word) (walk_fault shape [] (walked rules [] start word) rest) p.steps in
    (both.0, record { steps = both.1; end = p.end })

-- what is held stands for the options given so far, where what is pending is sound
abbrev pub IsSettled : List Row → Option (Text × List Text) → List Given → Type 0
IsSettled rows pending before = settle_fault rules false (held_with rows pending) ≡ []
    → (rows_at rows pending ≡ map row_of before) × AreGivenOnce before

-- an option's value is pending
pub pending_rows : (rows : List Row) (g : Given) → IsName g.name
    → (settled rules (held_with rows (Some (g.name, g.value ∷ [])))).rows ≡ used (filled_option g.name) (g.value ∷ []) rows
pending_rows rows g known = ap (λ found. used_by_id found (g.value ∷ []) rows) (by_id g.name known)

pub pending_fault : (rows : List Row) (g : Given) → IsName g.name
    → settle_fault rules false (held_with rows (Some (g.name, g.value ∷ []))) ≡ use_fault false (filled_option g.name) (g.value ∷ []) rows
pending_fault rows g known = ap (λ found. option_map_or (λ a. use_fault false a (g.value ∷ []) rows) found []) (by_id g.name known)

pending_settled : (rows : List Row) (g : Given) (before : List Given) → IsName g.name → rows ≡ map row_of before → AreGivenOnce before
    → IsSettled rows (Some (g.name, g.value ∷ [])) (before ++ g ∷ [])
pending_settled rows g before known are once e =
    let faultless = sym (pending_fault rows g known) ∙ e in
    let new = not_repeated (has_row g.name rows) (both_none _ _ faultless).0 in
    (pending_rows rows g known ∙ used_given g rows before are new, once_push before g once (not_given g.name rows before are new))

-- ---- what the words give

-- options that the words spell, over those before them, with what is held at the end
pub record AreFound (words : List Text) (end : Held) (before : List Given) : Type 0 where
  pub given : List Given
  pub spelt : AreSpelt given words
  pub named : All (λ g. IsName g.name) given
  pub once : AreGivenOnce (before ++ given)
  pub rows : (settled rules end).rows ≡ map row_of (before ++ given)

-- the same behind an option's name: the first word is its value
record AreFoundBehind (name : Text) (words : List Text) (end : Held) (before : List Given) : Type 0 where
  value : Text
  rest : List Text
  words_are : words ≡ value ∷ rest
  found : AreFound rest end (before ++ record { name = name; value = value } ∷ [])

abbrev AreFoundFromIdle : List Text → Type 0
AreFoundFromIdle words = (rows : List Row) (pending : Option (Text × List Text)) (before : List Given) → IsSettled rows pending before → HasNoDashes words
    → IsFaultless (idle_at rows pending) words → AreFound words (end_of (idle_at rows pending) words) before

abbrev AreFoundFromWaiting : List Text → Type 0
AreFoundFromWaiting words = (rows : List Row) (name : Text) (before : List Given) → IsName name → rows ≡ map row_of before → AreGivenOnce before
    → HasNoDashes words → IsFaultless (waiting_at rows name) words → AreFoundBehind name words (end_of (waiting_at rows name) words) before

-- one more option in front
with_first : (rest words : List Text) (g : Given) (end : Held) (before : List Given) → IsName g.name
    → ((words ≡ (flag g.name ++ 61 ∷ g.value) ∷ rest) ⊎ (words ≡ flag g.name ∷ g.value ∷ rest))
    → AreFound rest end (before ++ g ∷ []) → AreFound words end before
with_first rest words g end before known is f =
    let joined = append_assoc before (g ∷ []) f.given in
    record {
      given = g ∷ f.given;
      spelt = (rest, (f.spelt, is));
      named = All-cons (λ (x : Given). IsName x.name) g f.given known f.named;
      once = subst AreGivenOnce joined f.once;
      rows = f.rows ∙ ap (map row_of) joined;
    }

finds_none : AreFoundFromIdle []
finds_none rows pending before s free p =
    let h = s p.end in
    let same = sym (append-nil before) in
    record {
      given = [];
      spelt = refl;
      named = All-nil (λ (x : Given). IsName x.name);
      once = subst AreGivenOnce same h.1;
      rows = h.0 ∙ ap (map row_of) same;
    }

value_missing : AreFoundFromWaiting []
value_missing rows name before known are once free p = let bad = sym (no_value rows name known) ∙ p.end in cc

idle_step : (word : Text) (rest : List Text) → AreFoundFromIdle rest → AreFoundFromWaiting rest → AreFoundFromIdle (word ∷ rest)
idle_step word rest from_idle from_waiting rows pending before s free p = go taken.1
  where
    here : (bytes_eq word dashes ≡ false) × HasNoDashes rest
    here = or_parts (bytes_eq word dashes) (list_any (λ w. bytes_eq w dashes) rest) free

    turn : (turn_fault shape [] (idle_at rows pending) word ≡ []) × IsFaultless (walked rules [] (idle_at rows pending) word) rest
    turn = first_turn (idle_at rows pending) word rest p

    taken : IsOptionTaken rows pending (long_of word) (walked rules [] (idle_at rows pending) word)
    taken = idle_turn rows pending word here.0 turn.0

    h : (rows_at rows pending ≡ map row_of before) × AreGivenOnce before
    h = s taken.0

    go : IsOptionIn (rows_at rows pending) (long_of word) (walked rules [] (idle_at rows pending) word)
        → AreFound (word ∷ rest) (end_of (idle_at rows pending) (word ∷ rest)) before
    go (inl t) =
        let name = t.0 in
        let v = t.1.0 in
        let facts = t.1.1 in
        let g : Given = record { name = name; value = v } in
        let more = used_given g (rows_at rows pending) before h.0 facts.2 in
        let once = once_push before g h.1 (not_given name (rows_at rows pending) before h.0 facts.2) in
        let found = from_idle (used (filled_option name) (v ∷ []) (rows_at rows pending)) None (before ++ g ∷ [])
        (λ _. (more, once)) here.1 (subst (λ (w : Walk). IsFaultless w rest) facts.3 turn.1) in
        let found_here : AreFound rest (end_of (idle_at rows pending) (word ∷ rest)) (before ++ g ∷ []) =
        subst (λ (w : Walk). AreFound rest (end_of w rest) (before ++ g ∷ [])) (sym facts.3) found in
        with_first rest (word ∷ rest) g (end_of (idle_at rows pending) (word ∷ rest)) before facts.0
        (inl (ap (λ w. w ∷ rest) (one_word word name v facts.1))) found_here
    go (inr t) =
        let name = t.0 in
        let facts = t.1 in
        let behind = from_waiting (rows_at rows pending) name before facts.0 h.0 h.1 here.1
        (subst (λ (w : Walk). IsFaultless w rest) facts.2 turn.1) in
        let g : Given = record { name = name; value = behind.value } in
        let found_here : AreFound behind.rest (end_of (idle_at rows pending) (word ∷ rest)) (before ++ g ∷ []) =
        subst (λ (w : Walk). AreFound behind.rest (end_of w rest) (before ++ g ∷ [])) (sym facts.2) behind.found in
        with_first behind.rest (word ∷ rest) g (end_of (idle_at rows pending) (word ∷ rest)) before facts.0
        (inr (ap (λ w. w ∷ rest) (name_word word name facts.1) ∙ ap (λ r. flag name ∷ r) behind.words_are)) found_here

waiting_step : (word : Text) (rest : List Text) → AreFoundFromIdle rest → AreFoundFromWaiting (word ∷ rest)
waiting_step word rest from_idle rows name before known are once free p =
    let here = or_parts (bytes_eq word dashes) (list_any (λ w. bytes_eq w dashes) rest) free in
    let turn = first_turn (waiting_at rows name) word rest p in
    let next = waiting_turn rows name known word here.0 turn.0 in
    let g : Given = record { name = name; value = word } in
    let found = from_idle rows (Some (name, word ∷ [])) (before ++ g ∷ []) (pending_settled rows g before known are once) here.1
    (subst (λ (w : Walk). IsFaultless w rest) next turn.1) in
    record {
      value = word;
      rest = rest;
      words_are = refl;
      found = subst (λ (w : Walk). AreFound rest (end_of w rest) (before ++ g ∷ [])) (sym next) found;
    }

finds : (words : List Text) → AreFoundFromIdle words × AreFoundFromWaiting words
finds [] = (finds_none, value_missing)
finds (word ∷ rest) = (idle_step word rest (finds rest).0 (finds rest).1, waiting_step word rest (finds rest).0)

-- words that are taken without a fault spell options, each name at most once
pub faultless_words : (words : List Text) → HasNoDashes words
    → walk_fault shape [] (walk_from nothing_held) words ≡ [] → settle_fault rules false (walk rules [] nothing_held words).held ≡ []
    → AreFound words (walk rules [] nothing_held words).held []
faultless_words words free s e =
    (finds words).0 [] None [] (λ _. (refl, λ name. omega arith)) free (record { steps = s; end = e })

-- what is found in them is what they give
pub rows_found : (words : List Text) (given : List Given) → (settled rules (walk rules [] nothing_held words).held).rows ≡ map row_of given
    → rows_after rules [] words ≡ map row_of given
rows_found words given e = no_defaults option_names (settled rules (walk rules [] nothing_held words).held).rows ∙ e
