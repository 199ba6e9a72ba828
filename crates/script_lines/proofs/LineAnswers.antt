-- What a line is answered, by cases.
use Rattle.std.proofs.Common.{◌≡◌, ℕ, ◌<◌, ◌≤◌, Bool, true, false, ◌&&◌, cond, eqb, ltb, leb, List, [], ◌∷◌, length, Option, Some, None, Result, Ok, Err, refl, sym, ap, subst, ◌∙◌, arith, inl, inr}
use Rattle.std.specs.Prelude.{◌⊎◌, ◌↔◌, IsErrOf, Any}
use Rattle.std.specs.List.{list_all}
use Rattle.std.proofs.lemmas.Bool.{eqb-true, eq-eqb, leb-true, le-leb, ltb-true, ltb-false, lt-ltb, le-ltb, leb-false, lt-leb, and_parts}
use Rattle.std.proofs.Math.Bool.{and-false}
use Rattle.std.proofs.lemmas.List.Elements.{All-weaker}
use Rattle.std.proofs.lemmas.List.Sums.{AllPass-from_list_all, list_all-from_AllPass}
use Rattle.script_lines.specs.declared.command.TheConstants.{MAX_LINE}
use Rattle.script_lines.specs.declared.command.Command.{Command}
use Rattle.script_lines.specs.declared.command.Command.TheVariants.{Nothing}
use Rattle.script_lines.specs.declared.error.LineError.{LineError}
use Rattle.script_lines.specs.declared.error.LineError.TheVariants.{Word, Count, Number, Range, Long, Byte}
use Rattle.script_lines.specs.declared.name.Name.{Name}
use Rattle.script_lines.specs.Words.{words}
use Rattle.script_lines.specs.Form.{has_fixed, forms_reading}
use Rattle.script_lines.specs.Command.{row_of, name_of, name_reading, is_comment, words_reading, is_printable, command_of}
use Rattle.script_lines.specs.Refusals.{IsPrintable, IsOtherByte, IsText, IsComment, IsSilent, IsNoCommand, HasWrongCount, HasWrongWord, HasNoNumber, IsOutOfRange}
use Rattle.script_lines.proofs.ListTests.{Any-from_list_all, list_all-from_Any}
use Rattle.script_lines.proofs.FormAnswers.{Says, says, forms_reading-count, forms_reading-word, forms_reading-number, forms_reading-range}
use Rattle.script_lines.proofs.CommandTable.{name_of-name, no_comment, ask_for, found_asks, name-from_name_of, name_of-unknown, unknown-from_name_of}

-- what each answer says of the words of a line
abbrev pub SaysOfWords : List (List ℕ) → Result Command LineError → Type 0
SaysOfWords ws (Ok Nothing) = IsSilent ws
SaysOfWords ws (Ok command) = Unit {0}
SaysOfWords ws (Err Word) = IsNoCommand ws ⊎ HasWrongWord ws
SaysOfWords ws (Err Count) = HasWrongCount ws
SaysOfWords ws (Err Number) = HasNoNumber ws
SaysOfWords ws (Err Range) = IsOutOfRange ws
SaysOfWords ws (Err Long) = ⊥
SaysOfWords ws (Err Byte) = ⊥

-- of words that name a row
row_says : (ws : List (List ℕ)) (n : Name) (rest : List (List ℕ)) → ws ≡ (row_of n).name ∷ rest → (r : Result Command LineError) → Says (row_of n).forms rest r → SaysOfWords ws r
row_says ws n rest are (Ok Nothing) h = absurd (found_asks (has_fixed rest) (row_of n).forms h.0 (ask_for n) h.1 h.2 h.3)
row_says ws n rest are (Ok command) h = tt
row_says ws n rest are (Err Word) h = inr (record { name = n; rest = rest; are = are; counted = h.0; none = h.1 })
row_says ws n rest are (Err Count) h = record { name = n; rest = rest; are = are; none = h }
row_says ws n rest are (Err Number) h = record { rest = rest; form = h.0; has = record { name = n; are = are; found = h.1 }; other = h.2 }
row_says ws n rest are (Err Range) h = record { rest = rest; form = h.0; has = record { name = n; are = are; found = h.1 }; numbers = h.2; out = h.3 }
row_says ws n rest are (Err Long) h = h
row_says ws n rest are (Err Byte) h = h

named_says : (word : List ℕ) (rest : List (List ℕ)) → (IsComment word → ⊥) → (o : Option Name) → name_of word ≡ o → SaysOfWords (word ∷ rest) (name_reading o rest)
named_says word rest spoken None e = inl (record { word = word; rest = rest; are = refl; spoken = spoken; unknown = unknown-from_name_of word e })
named_says word rest spoken (Some n) e =
    row_says (word ∷ rest) n rest (ap (λ (w : List ℕ). w ∷ rest) (name-from_name_of word n e)) (forms_reading (row_of n).forms rest) (says (row_of n).forms rest)

comment-true : (word : List ℕ) → is_comment word ≡ true → IsComment word
comment-true [] e = absurd cc
comment-true (b ∷ more) e = eqb-true b 35 e

comment-false : (word : List ℕ) → is_comment word ≡ false → IsComment word → ⊥
comment-false [] e h = absurd cc
comment-false (b ∷ more) e h = let there : eqb b 35 ≡ true = eq-eqb b 35 h in cc

word_says : (word : List ℕ) (rest : List (List ℕ)) (comment : Bool) → is_comment word ≡ comment → SaysOfWords (word ∷ rest) (cond comment (Ok Nothing) (name_reading (name_of word) rest))
word_says word rest true e = comment-true word e
word_says word rest false e = named_says word rest (comment-false word e) (name_of word) refl

pub words_say : (ws : List (List ℕ)) → SaysOfWords ws (words_reading ws)
words_say [] = tt
words_say (word ∷ rest) = word_says word rest (is_comment word) refl

-- what each answer says of a line
abbrev pub SaysOfLine : List ℕ → Result Command LineError → Type 0
SaysOfLine line (Ok Nothing) = IsText line × IsSilent (words line)
SaysOfLine line (Ok command) = Unit {0}
SaysOfLine line (Err Word) = IsText line × (IsNoCommand (words line) ⊎ HasWrongWord (words line))
SaysOfLine line (Err Count) = IsText line × HasWrongCount (words line)
SaysOfLine line (Err Number) = IsText line × HasNoNumber (words line)
SaysOfLine line (Err Range) = IsText line × IsOutOfRange (words line)
SaysOfLine line (Err Long) = MAX_LINE < length line
SaysOfLine line (Err Byte) = (length line ≤ MAX_LINE) × Any IsOtherByte line

text_says : (line : List ℕ) → IsText line → (r : Result Command LineError) → SaysOfWords (words line) r → SaysOfLine line r
text_says line text (Ok Nothing) h = (text, h)
text_says line text (Ok command) h = tt
text_says line text (Err Word) h = (text, h)
text_says line text (Err Count) h = (text, h)
text_says line text (Err Number) h = (text, h)
text_says line text (Err Range) h = (text, h)
text_says line text (Err Long) h = absurd h
text_says line text (Err Byte) h = absurd h

prints : (b : ℕ) → is_printable b ≡ true → IsPrintable b
prints b e = let h = and_parts (leb 32 b) (leb b 126) e in (leb-true 32 b h.0, leb-true b 126 h.1)

is_printable-true : (b : ℕ) → IsPrintable b → is_printable b ≡ true
is_printable-true b h = rw (le-leb 32 b h.0, le-leb b 126 h.1) refl

other_by : (b : ℕ) (low high : Bool) → leb 32 b ≡ low → leb b 126 ≡ high → (low && high) ≡ false → IsOtherByte b
other_by b true true e f h = absurd cc
other_by b true false e f h = inr (leb-false b 126 f)
other_by b false high e f h = inl (leb-false 32 b e)

is_printable-false : (b : ℕ) → IsOtherByte b → is_printable b ≡ false
is_printable-false b (inl low) = rw (lt-leb 32 b low) refl
is_printable-false b (inr high) = rw (lt-leb b 126 high) (and-false (leb 32 b))

byte_says : (line : List ℕ) (printable : Bool) → length line ≤ MAX_LINE → list_all is_printable line ≡ printable → SaysOfLine line (cond printable (words_reading (words line)) (Err Byte))
byte_says line true short e = text_says line (record { short = short; printable = All-weaker (λ b. is_printable b ≡ true) IsPrintable prints line (AllPass-from_list_all is_printable line e) }) (words_reading (words line)) (words_say (words line))
byte_says line false short e =
    let other = Any-from_list_all is_printable line e in
    (short, (other.0, other.1, other.2, other.3, other_by other.1 (leb 32 other.1) (leb other.1 126) refl refl other.4))

long_says : (line : List ℕ) (long : Bool) → ltb MAX_LINE (length line) ≡ long → SaysOfLine line (cond long (Err Long) (cond (list_all is_printable line) (words_reading (words line)) (Err Byte)))
long_says line true e = ltb-true MAX_LINE (length line) e
long_says line false e = byte_says line (list_all is_printable line) (ltb-false MAX_LINE (length line) e) refl

pub line_says : (line : List ℕ) → SaysOfLine line (command_of line)
line_says line = long_says line (ltb MAX_LINE (length line)) refl

-- and what says it has that answer
command-long : (line : List ℕ) → MAX_LINE < length line → command_of line ≡ Err Long
command-long line long = rw (lt-ltb MAX_LINE (length line) long) refl

command-byte : (line : List ℕ) → length line ≤ MAX_LINE → Any IsOtherByte line → command_of line ≡ Err Byte
command-byte line short h =
    let other : list_all is_printable line ≡ false = list_all-from_Any is_printable line (h.0, h.1, h.2, h.3, is_printable-false h.1 h.4) in
    rw (le-ltb MAX_LINE (length line) short, other) refl

command-text : (line : List ℕ) → IsText line → command_of line ≡ words_reading (words line)
command-text line text =
    let all : list_all is_printable line ≡ true = list_all-from_AllPass is_printable line (All-weaker IsPrintable (λ b. is_printable b ≡ true) is_printable-true line text.printable) in
    rw (le-ltb MAX_LINE (length line) text.short, all) refl

is_comment-true : (word : List ℕ) → IsComment word → is_comment word ≡ true
is_comment-true [] h = absurd (omega arith)
is_comment-true (b ∷ more) h = eq-eqb b 35 h

is_comment-by : (word : List ℕ) (comment : Bool) → is_comment word ≡ comment → (IsComment word → ⊥) → comment ≡ false
is_comment-by word true e h = absurd (h (comment-true word e))
is_comment-by word false e h = refl

words_reading-silent : (ws : List (List ℕ)) → IsSilent ws → words_reading ws ≡ Ok Nothing
words_reading-silent [] h = refl
words_reading-silent (word ∷ rest) h = rw (is_comment-true word h) refl

words_reading-unknown : (ws : List (List ℕ)) → IsNoCommand ws → words_reading ws ≡ Err Word
words_reading-unknown ws h = rw (h.are, is_comment-by h.word (is_comment h.word) refl h.spoken, name_of-unknown h.word h.unknown) refl

words_reading-row : (ws : List (List ℕ)) (n : Name) (rest : List (List ℕ)) → ws ≡ (row_of n).name ∷ rest → words_reading ws ≡ forms_reading (row_of n).forms rest
words_reading-row ws n rest are = rw (are, no_comment n, name_of-name n) refl

words_reading-word : (ws : List (List ℕ)) → IsNoCommand ws ⊎ HasWrongWord ws → words_reading ws ≡ Err Word
words_reading-word ws (inl h) = words_reading-unknown ws h
words_reading-word ws (inr h) = words_reading-row ws h.name h.rest h.are ∙ forms_reading-word (row_of h.name).forms h.rest h.counted h.none

words_reading-count : (ws : List (List ℕ)) → HasWrongCount ws → words_reading ws ≡ Err Count
words_reading-count ws h = words_reading-row ws h.name h.rest h.are ∙ forms_reading-count (row_of h.name).forms h.rest h.none

words_reading-number : (ws : List (List ℕ)) → HasNoNumber ws → words_reading ws ≡ Err Number
words_reading-number ws h = words_reading-row ws h.has.name h.rest h.has.are ∙ forms_reading-number (row_of h.has.name).forms h.rest h.form h.has.found h.other

words_reading-range : (ws : List (List ℕ)) → IsOutOfRange ws → words_reading ws ≡ Err Range
words_reading-range ws h = words_reading-row ws h.has.name h.rest h.has.are ∙ forms_reading-range (row_of h.has.name).forms h.rest h.form h.has.found h.numbers h.out

-- each answer comes exactly where what it says holds
module _ (line : List ℕ) (r : Result Command LineError) (is : r ≡ command_of line) where
  said : (answer : Result Command LineError) → r ≡ answer → SaysOfLine line answer
  said answer e = subst (SaysOfLine line) (sym is ∙ e) (line_says line)

  pub long_exactly : IsErrOf r Long ↔ (MAX_LINE < length line)
  long_exactly = (said (Err Long), λ h. is ∙ command-long line h)

  pub byte_exactly : IsErrOf r Byte ↔ ((length line ≤ MAX_LINE) × Any IsOtherByte line)
  byte_exactly = (said (Err Byte), λ h. is ∙ command-byte line h.0 h.1)

  pub word_exactly : IsErrOf r Word ↔ (IsText line × (IsNoCommand (words line) ⊎ HasWrongWord (words line)))
  word_exactly = (said (Err Word), λ h. is ∙ command-text line h.0 ∙ words_reading-word (words line) h.1)

  pub count_exactly : IsErrOf r Count ↔ (IsText line × HasWrongCount (words line))
  count_exactly = (said (Err Count), λ h. is ∙ command-text line h.0 ∙ words_reading-count (words line) h.1)

  pub number_exactly : IsErrOf r Number ↔ (IsText line × HasNoNumber (words line))
  number_exactly = (said (Err Number), λ h. is ∙ command-text line h.0 ∙ words_reading-number (words line) h.1)

  pub range_exactly : IsErrOf r Range ↔ (IsText line × IsOutOfRange (words line))
  range_exactly = (said (Err Range), λ h. is ∙ command-text line h.0 ∙ words_reading-range (words line) h.1)

  pub nothing_exactly : (r ≡ Ok Nothing) ↔ (IsText line × IsSilent (words line))
  nothing_exactly = (said (Ok Nothing), λ h. is ∙ command-text line h.0 ∙ words_reading-silent (words line) h.1)
