-- What forms answer to words, by cases.
use Rattle.std.proofs.Common.{◌≡◌, ℕ, Bool, true, false, cond, ℤ, List, [], ◌∷◌, ◌++◌, length, get_or, Option, Some, None, Result, Ok, Err, refl, sym, ap, ◌∙◌}
use Rattle.std.specs.Prelude.{◌≢◌, find, filter_map, ok_or, is_some, ◌||◌, All, Any, IsSome, IsNone, IsFalse}
use Rattle.std.specs.List.{list_any, list_all}
use Rattle.std.specs.Cmp.Lexicographic.{as_long}
use Rattle.std.proofs.lemmas.Bool.{eqb-true, eq-eqb, ne_eqb}
use Rattle.std.proofs.lemmas.List.Folds.{Any-from_list_any, list_any-from_Any, list_any_none}
use Rattle.std.proofs.lemmas.List.Sums.{AllPass-from_list_all, list_all-from_AllPass}
use Rattle.script_lines.specs.declared.error.LineError.{LineError}
use Rattle.script_lines.specs.declared.error.LineError.TheVariants.{Word, Count, Number, Range, Long, Byte}
use Rattle.script_lines.specs.Number.{number_of, is_number}
use Rattle.script_lines.specs.Form.{Form, is_at, has_count, has_fixed, number_words, numbers_reading, form_reading, forms_reading}
use Rattle.integers.proofs.Tests.{not_true}
use Rattle.script_lines.proofs.ListTests.{none-from_list_any, Any-from_list_all, list_all-from_Any, none-from_find, find-from_none, list_any-from_find}

none_made : {A : Type 0} (o : Option A) → IsNone o → ok_or o Range ≡ Err Range
none_made None e = refl
none_made (Some x) e = absurd cc

module _ {A : Type 0} (forms : List (Form A)) (words : List (List ℕ)) where
  -- what each answer says
  abbrev pub Says : Result A LineError → Type 0
  Says (Ok x) = (form : Form A) × (find (has_fixed words) forms ≡ Some form) × (numbers : List ℤ) × (form.made numbers ≡ Some x)
  Says (Err Word) = Any (λ form. length words ≡ length form.places) forms × All (λ form. IsFalse (has_fixed words form)) forms
  Says (Err Count) = All (λ form. length words ≢ length form.places) forms
  Says (Err Number) = (form : Form A) × (find (has_fixed words) forms ≡ Some form) × Any (λ word. IsNone (number_of word)) (number_words form.places words)
  Says (Err Range) = (form : Form A) × (find (has_fixed words) forms ≡ Some form) × All (λ word. IsSome (number_of word)) (number_words form.places words) × IsNone (form.made (filter_map number_of (number_words form.places words)))
  Says (Err Long) = ⊥
  Says (Err Byte) = ⊥

  range_says : (form : Form A) → find (has_fixed words) forms ≡ Some form → All (λ word. IsSome (number_of word)) (number_words form.places words)
      → (o : Option A) → form.made (filter_map number_of (number_words form.places words)) ≡ o → Says (ok_or o Range)
  range_says form found numbers None e = (form, found, numbers, ap is_some e)
  range_says form found numbers (Some x) e = (form, found, filter_map number_of (number_words form.places words), e)

  read_says : (form : Form A) → find (has_fixed words) forms ≡ Some form → (read : Bool) → list_all is_number (number_words form.places words) ≡ read
      → Says (cond read (ok_or (form.made (filter_map number_of (number_words form.places words))) Range) (Err Number))
  read_says form found true e = range_says form found (AllPass-from_list_all is_number (number_words form.places words) e) _ refl
  read_says form found false e = (form, found, Any-from_list_all is_number (number_words form.places words) e)

  form_says : Any (λ form. has_count words form ≡ true) forms → (o : Option (Form A)) → find (has_fixed words) forms ≡ o → Says (form_reading o words)
  form_says counted None e = ((counted.0, counted.1, counted.2, counted.3, eqb-true (length words) (length counted.1.places) counted.4), none-from_find (has_fixed words) forms e)
  form_says counted (Some form) e = read_says form e (list_all is_number (number_words form.places words)) refl

  count_says : (counted : Bool) → list_any (has_count words) forms ≡ counted → Says (cond counted (form_reading (find (has_fixed words) forms) words) (Err Count))
  count_says true e = form_says (Any-from_list_any (has_count words) forms e) (find (has_fixed words) forms) refl
  count_says false e = λ k d lt same.
      let here : has_count words (get_or forms k d) ≡ false = none-from_list_any (has_count words) forms e k d lt in
      let other : has_count words (get_or forms k d) ≡ true = eq-eqb (length words) (length (get_or forms k d).places) same in
      cc

  pub says : Says (forms_reading forms words)
  says = count_says (list_any (has_count words) forms) refl

  -- and what says it has that answer
  pub forms_reading-count : All (λ form. length words ≢ length form.places) forms → forms_reading forms words ≡ Err Count
  forms_reading-count h =
      let none : list_any (has_count words) forms ≡ false = list_any_none (has_count words) forms (λ k d lt. ne_eqb (length words) (length (get_or forms k d).places) (h k d lt)) in
      rw none refl

  pub forms_reading-word : Any (λ form. length words ≡ length form.places) forms → All (λ form. IsFalse (has_fixed words form)) forms → forms_reading forms words ≡ Err Word
  forms_reading-word h none =
      let counted : list_any (has_count words) forms ≡ true = list_any-from_Any (has_count words) forms (h.0, h.1, h.2, h.3, eq-eqb (length words) (length h.1.places) h.4) in
      rw (counted, find-from_none (has_fixed words) forms none) refl

  pub fixed-counted : (form : Form A) → has_fixed words form ≡ true → has_count words form ≡ true
  fixed-counted form e = eq-eqb (length words) (length form.places) (sym (as_long is_at form.places words e))

  forms_reading-found : (form : Form A) → find (has_fixed words) forms ≡ Some form → forms_reading forms words ≡ numbers_reading form.made (number_words form.places words)
  forms_reading-found form found =
      let counted : list_any (has_count words) forms ≡ true = list_any-from_find (has_fixed words) (has_count words) forms form fixed-counted found in
      rw (counted, found) refl

  pub forms_reading-number : (form : Form A) → find (has_fixed words) forms ≡ Some form → Any (λ word. IsNone (number_of word)) (number_words form.places words) → forms_reading forms words ≡ Err Number
  forms_reading-number form found other =
      forms_reading-found form found ∙ rw (list_all-from_Any is_number (number_words form.places words) other) refl

  pub forms_reading-range : (form : Form A) → find (has_fixed words) forms ≡ Some form → All (λ word. IsSome (number_of word)) (number_words form.places words)
      → IsNone (form.made (filter_map number_of (number_words form.places words))) → forms_reading forms words ≡ Err Range
  forms_reading-range form found numbers out =
      forms_reading-found form found ∙ rw (list_all-from_AllPass is_number (number_words form.places words) numbers) (none_made (form.made (filter_map number_of (number_words form.places words))) out)

-- a form with another count of words may go from anywhere among the forms
module _ {A : Type 0} (words : List (List ℕ)) (form : Form A) (other : has_count words form ≡ false) where
  unfixed : has_fixed words form ≡ false
  unfixed = not_true (has_fixed words form) (λ fixed. let counted = fixed-counted [] words form fixed in cc)

  any-without : (before after : List (Form A)) → list_any (has_count words) (before ++ form ∷ after) ≡ list_any (has_count words) (before ++ after)
  any-without [] after = rw other refl
  any-without (first ∷ before) after = ap (λ (b : Bool). has_count words first || b) (any-without before after)

  find-without : (before after : List (Form A)) → find (has_fixed words) (before ++ form ∷ after) ≡ find (has_fixed words) (before ++ after)
  find-without [] after = rw unfixed refl
  find-without (first ∷ before) after = ap (λ (o : Option (Form A)). cond (has_fixed words first) (Some first) o) (find-without before after)

  pub forms_reading-without : (before after : List (Form A)) → forms_reading (before ++ form ∷ after) words ≡ forms_reading (before ++ after) words
  forms_reading-without before after = rw (any-without before after, find-without before after) refl
