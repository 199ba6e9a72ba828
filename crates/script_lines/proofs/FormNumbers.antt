-- What a form of so many numbers makes of words, by their numbers.
use Rattle.std.proofs.Common.{◌≡◌, ℕ, zero, suc, Bool, true, false, cond, eqb, ℤ, List, [], ◌∷◌, ◌++◌, length, Option, Some, None, Result, Ok, Err, refl, sym, ap, ◌∙◌}
use Rattle.std.specs.Prelude.{map, filter_map, ok_or, replicate}
use Rattle.std.specs.List.{list_all, list_any}
use Rattle.std.specs.Cmp.Lexicographic.{pointwise}
use Rattle.std.proofs.Math.Bool.{and-false, or-false}
use Rattle.std.proofs.Math.Dec.{eqb-zero-suc, eqb-suc-zero, eqb-suc-suc}
use Rattle.std.proofs.lemmas.Bool.{eqb-true, or_parts}
use Rattle.std.proofs.lemmas.List.{length-replicate}
use Rattle.script_lines.specs.declared.error.LineError.{LineError}
use Rattle.script_lines.specs.declared.error.LineError.TheVariants.{Count, Number, Range}
use Rattle.script_lines.specs.Number.{number_of, is_number, limited_number}
use Rattle.script_lines.specs.Form.{Numeral, Form, is_at, has_count, number_words, numbers_reading, form_reading, forms_reading, numbers_of}
use Rattle.script_lines.proofs.FormAnswers.{forms_reading-without}

-- so many words fit so many places of numbers
pointwise-numerals : (n : ℕ) (ws : List (List ℕ)) → pointwise is_at (replicate n Numeral) ws ≡ eqb (length ws) n
pointwise-numerals zero [] = refl
pointwise-numerals zero (w ∷ ws) = sym (eqb-suc-zero (length ws))
pointwise-numerals (suc n) [] = sym (eqb-zero-suc n)
pointwise-numerals (suc n) (w ∷ ws) = pointwise-numerals n ws ∙ sym (eqb-suc-suc (length ws) n)

-- and all of them are read
number_words-numerals : (ws : List (List ℕ)) → number_words (replicate (length ws) Numeral) ws ≡ ws
number_words-numerals [] = refl
number_words-numerals (w ∷ ws) = ap (λ (us : List (List ℕ)). w ∷ us) (number_words-numerals ws)

module _ {A : Type 0} (n : ℕ) (made : List ℤ → Option A) (ws : List (List ℕ)) where
  by_count : (fits : Bool) → eqb (length ws) n ≡ fits
      → cond fits (form_reading (cond {A = Option (Form A)} fits (Some (record { places = replicate n Numeral; made = made })) None) ws) (Err Count)
      ≡ cond fits (numbers_reading made ws) (Err Count)
  by_count true e =
      let places : number_words (replicate n Numeral) ws ≡ ws = rw (eqb-true (length ws) n e) at (number_words-numerals ws) in
      ap (numbers_reading made) places
  by_count false e = refl

  -- a form of so many numbers
  pub forms_reading-numbers : forms_reading (record { places = replicate n Numeral; made = made } ∷ []) ws ≡ cond (eqb (length ws) n) (numbers_reading made ws) (Err Count)
  forms_reading-numbers = rw (length-replicate n Numeral, or-false (eqb (length ws) n), pointwise-numerals n ws) (by_count (eqb (length ws) n) refl)

  by_error : (counted read : Bool) (x : Result A LineError) (zs : List ℤ) (e : LineError)
      → cond counted (cond read (Ok zs) (Err Number)) (Err Count) ≡ Err e → cond counted (cond read x (Err Number)) (Err Count) ≡ Err e
  by_error true true x zs e is = absurd cc
  by_error true false x zs e is = cc
  by_error false read x zs e is = cc

  -- which is refused as its numbers are
  pub forms_reading-err : (e : LineError) → numbers_of n ws ≡ Err e → forms_reading (record { places = replicate n Numeral; made = made } ∷ []) ws ≡ Err e
  forms_reading-err e is = forms_reading-numbers ∙ by_error (eqb (length ws) n) (list_all is_number ws) (ok_or (made (filter_map number_of ws)) Range) (map limited_number (filter_map number_of ws)) e is

  by_ok : (counted read : Bool) (x y : Result A LineError) (all zs : List ℤ)
      → cond counted (cond read (Ok all) (Err Number)) (Err Count) ≡ Ok zs → (all ≡ zs → x ≡ y) → cond counted (cond read x (Err Number)) (Err Count) ≡ y
  by_ok true true x y all zs is same = same cc
  by_ok true false x y all zs is same = absurd cc
  by_ok false read x y all zs is same = absurd cc

  -- and is made of them, where what is made of numbers doesn't change when they are kept at the limit
  pub forms_reading-ok : ((zs : List ℤ) → made (map limited_number zs) ≡ made zs) → (zs : List ℤ) → numbers_of n ws ≡ Ok zs
      → forms_reading (record { places = replicate n Numeral; made = made } ∷ []) ws ≡ ok_or (made zs) Range
  forms_reading-ok blind zs is =
      forms_reading-numbers ∙ by_ok (eqb (length ws) n) (list_all is_number ws) (ok_or (made (filter_map number_of ws)) Range) (ok_or (made zs) Range) (map limited_number (filter_map number_of ws)) zs is
      (λ (same : map limited_number (filter_map number_of ws) ≡ zs). ap (λ (o : Option A). ok_or o Range) (sym (blind (filter_map number_of ws)) ∙ ap made same))

-- of forms of several counts only the one counts that has as many numbers as there are words
module _ {A : Type 0} (made : List ℤ → Option A) (ws : List (List ℕ)) where
  abbrev form : ℕ → Form A
  form n = record { places = replicate n Numeral; made = made }

  apart : (n : ℕ) → eqb (length ws) n ≡ false → has_count ws (form n) ≡ false
  apart n e = rw (length-replicate n Numeral) e

  before-apart : (counts : List ℕ) (rest : List (Form A)) → list_any (eqb (length ws)) counts ≡ false → forms_reading (map form counts ++ rest) ws ≡ forms_reading rest ws
  before-apart [] rest e = refl
  before-apart (n ∷ counts) rest e =
      let parts = or_parts (eqb (length ws) n) (list_any (eqb (length ws)) counts) e in
      forms_reading-without ws (form n) (apart n parts.0) [] (map form counts ++ rest) ∙ before-apart counts rest parts.1

  after-apart : (first : Form A) (counts : List ℕ) → list_any (eqb (length ws)) counts ≡ false → forms_reading (first ∷ map form counts) ws ≡ forms_reading (first ∷ []) ws
  after-apart first [] e = refl
  after-apart first (n ∷ counts) e =
      let parts = or_parts (eqb (length ws) n) (list_any (eqb (length ws)) counts) e in
      forms_reading-without ws (form n) (apart n parts.0) (first ∷ []) (map form counts) ∙ after-apart first counts parts.1

  pub forms_reading-chosen : (before : List ℕ) (n : ℕ) (after : List ℕ) → length ws ≡ n → list_any (eqb n) before ≡ false → list_any (eqb n) after ≡ false
      → forms_reading (map form before ++ form n ∷ map form after) ws ≡ forms_reading (form n ∷ []) ws
  forms_reading-chosen before n after count e f =
      before-apart before (form n ∷ map form after) (ap (λ (m : ℕ). list_any (eqb m) before) count ∙ e)
      ∙ after-apart (form n) after (ap (λ (m : ℕ). list_any (eqb m) after) count ∙ f)

-- what two words make as numbers
module _ {A : Type 0} (made : List ℤ → Option A) (first second : List ℕ) where
  pub numbers_reading-second : number_of second ≡ None → numbers_reading made (first ∷ second ∷ []) ≡ Err Number
  numbers_reading-second none = rw (none, and-false (is_number first)) refl

  pub numbers_reading-both : ((zs : List ℤ) → made (map limited_number zs) ≡ made zs) → (x y : ℤ) → number_of first ≡ Some x → number_of second ≡ Some y
      → numbers_reading made (first ∷ second ∷ []) ≡ ok_or (made (limited_number x ∷ limited_number y ∷ [])) Range
  numbers_reading-both blind x y e f = rw (e, f) (ap (λ (o : Option A). ok_or o Range) (sym (blind (x ∷ y ∷ []))))
