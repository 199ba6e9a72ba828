-- What the command makes of one more word, where an option may come and where a value has to come.
use Rattle.std.proofs.Common.{◌≡◌, ℕ, zero, suc, ◌&&◌, ◌||◌, Bool, true, false, cond, List, [], ◌∷◌, length, map, Option, Some, None, if◌then◌else◌, refl, sym, ap, ◌∙◌, subst, inl, inr, ◌⊎◌}
use Rattle.std.specs.Prelude.{slice_get, bytes_eq, nat_lt, is_some}
use Rattle.std.specs.List.{list_any}
use Rattle.std.specs.Option.{option_map_or}
use Rattle.std.specs.Str.{chars}
use Rattle.std.proofs.lemmas.Slice.Eq.{bytes_eq-Decides}
use Rattle.clap.specs.Lexer.{long_of, short_of}
use Rattle.clap.specs.Kinds.{Kinds, or_else}
use Rattle.clap.specs.Walk.{Held, Row, Rule, Step, Text, Waiting, Walk, after_flag, after_step, arg_by_id, arg_by_long, bundle_met, bundle_step, has_row, idle, long_met, long_or_other, next, option, option_word, plain, pushed, settled, short_or_plain, takes_values, trailing, used, walked}
use Rattle.clap.specs.Faults.{bundle_fault, bundle_step_fault, flag_word_fault, flags_fault, long_fault, option_fault, react_fault, settle_fault, step_fault, turn_fault, use_fault}
use Rattle.clap.specs.Simple.{Shape, built, filled, with_index}
use Rattle.clap.specs.declared.error.kind.ErrorKind.TheVariants.{ArgumentConflict, InvalidValue, TooManyValues}
use Rattle.words_in.specs.Grammar.{option_names}
use Rattle.words_in.specs.Command.{option_rule, planar_app}
use Rattle.words_in.proofs.Once.{same_bytes}

abbrev pub shape : Shape
shape = (built planar_app).top

abbrev pub rules : List Rule
rules = shape.rules

abbrev pub dashes : Text
dashes = 45 ∷ 45 ∷ []

-- the rule of an option, as the built command has it
abbrev pub filled_option : Text → Rule
filled_option name = with_index 1 (filled (option_rule name))

-- the name is that of an option
abbrev pub IsName : Text → Type 0
IsName name = list_any (λ n. bytes_eq n name) option_names ≡ true

-- ---- the rule of a name

module _ (n : Text) (names : List Text) (name : Text) where
  long_here : (arg_by_long (map filled_option names) name ≡ None)
      ⊎ ((arg_by_long (map filled_option names) name ≡ Some (filled_option name)) × (list_any (λ m. bytes_eq m name) names ≡ true))
      → (arg_by_long (map filled_option (n ∷ names)) name ≡ None)
      ⊎ ((arg_by_long (map filled_option (n ∷ names)) name ≡ Some (filled_option name)) × (list_any (λ m. bytes_eq m name) (n ∷ names) ≡ true))
  long_here later = go (bytes_eq n name) refl later
    where
      go : (b : Bool) → bytes_eq n name ≡ b
          → (arg_by_long (map filled_option names) name ≡ None)
          ⊎ ((arg_by_long (map filled_option names) name ≡ Some (filled_option name)) × (list_any (λ m. bytes_eq m name) names ≡ true))
          → (arg_by_long (map filled_option (n ∷ names)) name ≡ None)
          ⊎ ((arg_by_long (map filled_option (n ∷ names)) name ≡ Some (filled_option name)) × (list_any (λ m. bytes_eq m name) (n ∷ names) ≡ true))
      go true e h = inr (
        ap (λ t. cond (t || false) (Some (filled_option n)) (arg_by_long (map filled_option names) name)) e
            ∙ ap (λ m. Some (filled_option m)) ((bytes_eq-Decides n name).0 e),
        ap (λ t. t || list_any (λ m. bytes_eq m name) names) e,
      )
      go false e (inl h) = inl (ap (λ t. cond (t || false) (Some (filled_option n)) (arg_by_long (map filled_option names) name)) e ∙ h)
      go false e (inr h) = inr (
        ap (λ t. cond (t || false) (Some (filled_option n)) (arg_by_long (map filled_option names) name)) e ∙ h.0,
        ap (λ t. t || list_any (λ m. bytes_eq m name) names) e ∙ h.1,
      )

  id_here : (list_any (λ m. bytes_eq m name) names ≡ true → arg_by_id (map filled_option names) name ≡ Some (filled_option name))
      → list_any (λ m. bytes_eq m name) (n ∷ names) ≡ true → arg_by_id (map filled_option (n ∷ names)) name ≡ Some (filled_option name)
  id_here later h = go (bytes_eq n name) refl
    where
      go : (b : Bool) → bytes_eq n name ≡ b → arg_by_id (map filled_option (n ∷ names)) name ≡ Some (filled_option name)
      go true e =
          ap (λ t. cond t (Some (filled_option n)) (arg_by_id (map filled_option names) name)) e
          ∙ ap (λ m. Some (filled_option m)) ((bytes_eq-Decides n name).0 e)
      go false e =
          ap (λ t. cond t (Some (filled_option n)) (arg_by_id (map filled_option names) name)) e
          ∙ later (sym (ap (λ t. t || list_any (λ m. bytes_eq m name) names) e) ∙ h)

-- a name that is looked up is an option's, or there is none
long_in : (names : List Text) (name : Text)
    → (arg_by_long (map filled_option names) name ≡ None)
    ⊎ ((arg_by_long (map filled_option names) name ≡ Some (filled_option name)) × (list_any (λ m. bytes_eq m name) names ≡ true))
long_in [] name = inl refl
long_in (n ∷ names) name = long_here n names name (long_in names name)

id_in : (names : List Text) (name : Text) → list_any (λ m. bytes_eq m name) names ≡ true
    → arg_by_id (map filled_option names) name ≡ Some (filled_option name)
id_in [] name h = cc
id_in (n ∷ names) name h = id_here n names name (id_in names name) h

looked_up : (name : Text) → (arg_by_long rules name ≡ None) ⊎ ((arg_by_long rules name ≡ Some (filled_option name)) × IsName name)
looked_up name = long_in option_names name

pub by_id : (name : Text) → IsName name → arg_by_id rules name ≡ Some (filled_option name)
by_id name known = id_in option_names name known

-- ---- a step of the walk

-- what is held between two words
abbrev pub held_with : List Row → Option (Text × List Text) → Held
held_with rows pending = record { rows = rows; pending = pending; skip = 0 }

-- the rows, once what is pending is used
abbrev pub rows_at : List Row → Option (Text × List Text) → List Row
rows_at rows pending = (settled rules (held_with rows pending)).rows

abbrev pub at_rest : Waiting → Held → Walk
at_rest waiting h = record { held = h; waiting = waiting; position = 1; is_trailing = false; stopped = None }

-- the walk, where the next word may be an option
abbrev pub idle_at : List Row → Option (Text × List Text) → Walk
idle_at rows pending = at_rest idle (held_with rows pending)

-- the walk behind an option's name
abbrev pub waiting_at : List Row → Text → Walk
waiting_at rows name = at_rest (option name) (held_with rows (Some (name, [])))

-- a step by whether the word is `--`, and by the name and the value that are read of it
abbrev pub met_with : Waiting → Bool → Option (Text × Option Text) → Text → Held → Held × Step
met_with waiting b l word h = if b then (h, trailing 1) else long_or_other rules waiting word l h

abbrev pub fault_with : Waiting → Bool → Option (Text × Option Text) → Text → Held → Kinds
fault_with waiting b l word h =
    or_else (if b then [] else flag_word_fault rules false l word h)
    (step_fault shape 1 (met_with waiting b l word h).0 (met_with waiting b l word h).1)

abbrev pub next_with : Waiting → Bool → Option (Text × Option Text) → Text → Held → Walk
next_with waiting b l word h =
    after_step rules word (at_rest waiting h) (met_with waiting b l word h).0 (met_with waiting b l word h).1

-- the same of a word that has no name, by its letters
abbrev pub letters_fault : Waiting → Option Text → Text → Held → Kinds
letters_fault waiting m word h =
    or_else (option_map_or (λ flags. bundle_fault rules false flags h) m [])
    (step_fault shape 1 (short_or_plain rules waiting word m h).0 (short_or_plain rules waiting word m h).1)

abbrev pub letters_next : Waiting → Option Text → Text → Held → Walk
letters_next waiting m word h =
    after_step rules word (at_rest waiting h) (short_or_plain rules waiting word m h).0 (short_or_plain rules waiting word m h).1

-- the same of a word that has a name, by the rule of that name
abbrev pub long_fault_with : Waiting → Option Rule → Option Text → Text → Held → Kinds
long_fault_with waiting found v word h =
    let met = after_flag rules waiting word (long_met rules found v h).0 (long_met rules found v h).1 in
    or_else (long_fault rules false found v h) (step_fault shape 1 met.0 met.1)

abbrev pub long_next_with : Waiting → Option Rule → Option Text → Text → Held → Walk
long_next_with waiting found v word h =
    let met = after_flag rules waiting word (long_met rules found v h).0 (long_met rules found v h).1 in
    after_step rules word (at_rest waiting h) met.0 met.1

pub fault_idle : (word : Text) (h : Held) → turn_fault shape [] (at_rest idle h) word ≡ fault_with idle (bytes_eq word dashes) (long_of word) word h
fault_idle word h = refl

pub next_idle : (word : Text) (h : Held) → walked rules [] (at_rest idle h) word ≡ next_with idle (bytes_eq word dashes) (long_of word) word h
unfolding walked
next_idle word h = refl

pub fault_waiting : (name word : Text) (h : Held)
    → turn_fault shape [] (at_rest (option name) h) word ≡ fault_with (option name) (bytes_eq word dashes) (long_of word) word h
fault_waiting name word h = refl

pub next_waiting : (name word : Text) (h : Held)
    → walked rules [] (at_rest (option name) h) word ≡ next_with (option name) (bytes_eq word dashes) (long_of word) word h
unfolding walked
next_waiting name word h = refl

pub both_none : (a b : Kinds) → or_else a b ≡ [] → (a ≡ []) × (b ≡ [])
both_none [] b h = (refl, h)
both_none (k ∷ ks) b h = cc

-- ---- where an option may come

pub not_repeated : (b : Bool) → (if b && true then ArgumentConflict ∷ [] else []) ≡ [] → b ≡ false
not_repeated true h = cc
not_repeated false h = refl

-- a word is an option with its value, or an option's name, and the walk after it
abbrev pub IsOptionIn : List Row → Option (Text × Option Text) → Walk → Type 0
IsOptionIn left l after =
    ((name : Text) × ((v : Text) × (IsName name × (l ≡ Some (name, Some v)) × (has_row name left ≡ false)
    × (after ≡ idle_at (used (filled_option name) (v ∷ []) left) None))))
    ⊎ ((name : Text) × (IsName name × (l ≡ Some (name, None)) × (after ≡ waiting_at left name)))

-- what holds of a word that is taken where an option may come: what was pending is sound, and the word is an option's
abbrev pub IsOptionTaken : List Row → Option (Text × List Text) → Option (Text × Option Text) → Walk → Type 0
IsOptionTaken rows pending l after =
    (settle_fault rules false (held_with rows pending) ≡ []) × IsOptionIn (rows_at rows pending) l after

long_taken : (rows : List Row) (pending : Option (Text × List Text)) (name : Text) (v : Option Text) (word : Text) → IsName name
    → long_fault_with idle (Some (filled_option name)) v word (held_with rows pending) ≡ []
    → IsOptionTaken rows pending (Some (name, v)) (long_next_with idle (Some (filled_option name)) v word (held_with rows pending))
long_taken rows pending name (Some v) word known h =
    let h1 = both_none _ _ h in
    let h2 = both_none _ _ h1.0 in
    let h3 = both_none _ _ h2.1 in
    (h2.0, inl (name, (v, (known, refl, not_repeated _ h3.0, refl))))
long_taken rows pending name None word known h =
    let h1 = both_none _ _ h in
    (h1.0, inr (name, (known, refl, refl)))

-- what a bundle of letters comes to, of which so many are read at most; and the same by its first letter
abbrev letters_met : Waiting → ℕ → Text → Text → Held → Held × Step
letters_met waiting n flags word h = let met = bundle_met rules n flags 0 plain h in after_flag rules waiting word met.0 met.1

abbrev first_letter_met : Waiting → Option ℕ → ℕ → Text → Text → Held → Held × Step
first_letter_met waiting first n flags word h =
    let met = bundle_step rules first flags 0 plain h (bundle_met rules n) in after_flag rules waiting word met.0 met.1

abbrev letters_fault_by : Waiting → ℕ → Text → Text → Held → Kinds
letters_fault_by waiting n flags word h =
    let met = letters_met waiting n flags word h in or_else (flags_fault rules false n flags 0 h) (step_fault shape 1 met.0 met.1)

abbrev first_letter_fault : Waiting → Option ℕ → ℕ → Text → Text → Held → Kinds
first_letter_fault waiting first n flags word h =
    let met = first_letter_met waiting first n flags word h in
    or_else (bundle_step_fault rules false first flags 0 h (flags_fault rules false n)) (step_fault shape 1 met.0 met.1)

-- a bundle of letters has no option
letters_refused : (n : ℕ) (flags word : Text) (h : Held) → letters_fault_by idle n flags word h ≡ [] → ⊥
unfolding flags_fault bundle_met
letters_refused zero flags word h e = cc
letters_refused (suc n) flags word h e = go (slice_get (chars flags) 0) e
  where
    go : (first : Option ℕ) → first_letter_fault idle first n flags word h ≡ [] → ⊥
    go None e = cc
    go (Some x) e = cc

-- a word without a name is no option
no_option : (m : Option Text) (word : Text) (rows : List Row) (pending : Option (Text × List Text))
    → letters_fault idle m word (held_with rows pending) ≡ [] → ⊥
no_option None word rows pending e = cc
no_option (Some flags) word rows pending e = letters_refused (length flags) flags word (held_with rows pending) e

option_taken : (rows : List Row) (pending : Option (Text × List Text)) (l : Option (Text × Option Text)) (word : Text)
    → fault_with idle false l word (held_with rows pending) ≡ []
    → IsOptionTaken rows pending l (next_with idle false l word (held_with rows pending))
option_taken rows pending (Some (name, v)) word h =
    elim (looked_up name) [
      | inl e ↦
          let bad : long_fault_with idle None v word (held_with rows pending) ≡ [] =
          subst (λ (found : Option Rule). long_fault_with idle found v word (held_with rows pending) ≡ []) e h in
          cc
      | inr e ↦
          let good : long_fault_with idle (Some (filled_option name)) v word (held_with rows pending) ≡ [] =
          subst (λ (found : Option Rule). long_fault_with idle found v word (held_with rows pending) ≡ []) e.0 h in
          subst (λ (found : Option Rule). IsOptionTaken rows pending (Some (name, v)) (long_next_with idle found v word (held_with rows pending))) (sym e.0)
          (long_taken rows pending name v word e.1 good)
    ]
option_taken rows pending None word h = absurd (no_option (short_of word) word rows pending h)

pub idle_turn : (rows : List Row) (pending : Option (Text × List Text)) (word : Text) → bytes_eq word dashes ≡ false
    → turn_fault shape [] (idle_at rows pending) word ≡ []
    → IsOptionTaken rows pending (long_of word) (walked rules [] (idle_at rows pending) word)
idle_turn rows pending word e h =
    let hold = held_with rows pending in
    let none : fault_with idle false (long_of word) word hold ≡ [] =
    sym (ap (λ b. fault_with idle b (long_of word) word hold) e) ∙ sym (fault_idle word hold) ∙ h in
    let after : next_with idle false (long_of word) word hold ≡ walked rules [] (idle_at rows pending) word =
    sym (ap (λ b. next_with idle b (long_of word) word hold) e) ∙ sym (next_idle word hold) in
    subst (λ (w : Walk). IsOptionTaken rows pending (long_of word) w) after (option_taken rows pending (long_of word) word none)

-- ---- where a value has to come

-- what is held behind an option's name
abbrev pub asked : List Row → Text → Held
asked rows name = held_with rows (Some (name, []))

-- a name without a value is a fault
pub no_value : (rows : List Row) (name : Text) → IsName name → settle_fault rules false (asked rows name) ≡ InvalidValue ∷ []
no_value rows name known = ap (λ found. option_map_or (λ a. use_fault false a [] rows) found []) (by_id name known)

-- a word that is a value is pending
pub pushed_word : (rows : List Row) (name word : Text) → IsName name
    → after_step rules word (waiting_at rows name) (option_word (arg_by_id rules name) name word (asked rows name)).0
    (next (option_word (arg_by_id rules name) name word (asked rows name)).1) ≡ idle_at rows (Some (name, word ∷ []))
pushed_word rows name word known =
    ap (λ found. after_step rules word (waiting_at rows name) (option_word found name word (asked rows name)).0 (next (option_word found name word (asked rows name)).1)) (by_id name known)
    ∙ ap (λ b. after_step rules word (waiting_at rows name) (pushed name word (asked rows name))
    (next (if nat_lt (if b then 1 else 0) 1 then option name else idle))) (same_bytes name)

letters_taken : (n : ℕ) (flags word : Text) (rows : List Row) (name : Text) → IsName name
    → letters_fault_by (option name) n flags word (asked rows name) ≡ []
    → after_step rules word (waiting_at rows name) (letters_met (option name) n flags word (asked rows name)).0 (letters_met (option name) n flags word (asked rows name)).1
    ≡ idle_at rows (Some (name, word ∷ []))
unfolding flags_fault bundle_met
letters_taken zero flags word rows name known e = pushed_word rows name word known
letters_taken (suc n) flags word rows name known e = go (slice_get (chars flags) 0) e
  where
    go : (first : Option ℕ) → first_letter_fault (option name) first n flags word (asked rows name) ≡ []
        → after_step rules word (waiting_at rows name) (first_letter_met (option name) first n flags word (asked rows name)).0
        (first_letter_met (option name) first n flags word (asked rows name)).1 ≡ idle_at rows (Some (name, word ∷ []))
    go None e = pushed_word rows name word known
    go (Some x) e = cc

-- a word without a name is the value
no_letters : (m : Option Text) (word : Text) (rows : List Row) (name : Text) → IsName name
    → letters_fault (option name) m word (asked rows name) ≡ [] → letters_next (option name) m word (asked rows name) ≡ idle_at rows (Some (name, word ∷ []))
no_letters None word rows name known e = pushed_word rows name word known
no_letters (Some flags) word rows name known e = letters_taken (length flags) flags word rows name known e

-- a name in a value's place is a fault
name_refused : (rows : List Row) (name : Text) → IsName name → (rule : Rule) (v : Option Text)
    → long_fault rules false (Some rule) v (asked rows name) ≡ [] → takes_values rule ≡ true → ⊥
name_refused rows name known rule v h takes = go v (subst (λ (t : Bool). (if t then option_fault rules false rule v (asked rows name) else (if is_some v then TooManyValues ∷ [] else react_fault rules false rule [] (asked rows name))) ≡ []) takes h)
  where
    clash : settle_fault rules false (asked rows name) ≡ [] → ⊥
    clash e = let bad : InvalidValue ∷ [] ≡ [] = sym (no_value rows name known) ∙ e in cc

    go : (v : Option Text) → option_fault rules false rule v (asked rows name) ≡ [] → ⊥
    go None e = clash e
    go (Some v) e = clash (both_none _ _ e).0

value_taken : (rows : List Row) (name : Text) → IsName name → (l : Option (Text × Option Text)) (word : Text)
    → fault_with (option name) false l word (asked rows name) ≡ []
    → next_with (option name) false l word (asked rows name) ≡ idle_at rows (Some (name, word ∷ []))
value_taken rows name known (Some (other, v)) word h = absurd (refused (looked_up other))
  where
    refused : (arg_by_long rules other ≡ None) ⊎ ((arg_by_long rules other ≡ Some (filled_option other)) × IsName other) → ⊥
    refused (inl e) =
        let bad : long_fault_with (option name) None v word (asked rows name) ≡ [] =
        subst (λ (found : Option Rule). long_fault_with (option name) found v word (asked rows name) ≡ []) e h in
        cc
    refused (inr e) =
        let good : long_fault_with (option name) (Some (filled_option other)) v word (asked rows name) ≡ [] =
        subst (λ (found : Option Rule). long_fault_with (option name) found v word (asked rows name) ≡ []) e.0 h in
        name_refused rows name known (filled_option other) v (both_none _ _ good).0 refl
value_taken rows name known None word h = no_letters (short_of word) word rows name known h

pub waiting_turn : (rows : List Row) (name : Text) → IsName name → (word : Text) → bytes_eq word dashes ≡ false
    → turn_fault shape [] (waiting_at rows name) word ≡ []
    → walked rules [] (waiting_at rows name) word ≡ idle_at rows (Some (name, word ∷ []))
waiting_turn rows name known word e h =
    let hold = asked rows name in
    let none : fault_with (option name) false (long_of word) word hold ≡ [] =
    sym (ap (λ b. fault_with (option name) b (long_of word) word hold) e) ∙ sym (fault_waiting name word hold) ∙ h in
    next_waiting name word hold ∙ ap (λ b. next_with (option name) b (long_of word) word hold) e
    ∙ value_taken rows name known (long_of word) word none
