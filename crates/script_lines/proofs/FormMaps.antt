-- Forms for something that is made of what other forms make.
use Rattle.std.proofs.Common.{◌≡◌, ℕ, Bool, true, false, cond, List, [], ◌∷◌, Option, Some, None, Result, Ok, Err, refl, sym, ap, ◌∙◌}
use Rattle.std.specs.Prelude.{map, find, option_map, ok_or, ◌||◌, MatchResult, IsOkAnd}
use Rattle.std.specs.List.{list_any}
use Rattle.std.specs.Result.{result_map_both}
use Rattle.script_lines.specs.declared.error.LineError.{LineError}
use Rattle.script_lines.specs.declared.error.LineError.TheVariants.{Count, Number, Range}
use Rattle.script_lines.specs.Form.{Form, form_map, has_count, has_fixed, form_reading, forms_reading}

module _ {A B : Type 0} (f : A → B) where
  -- made of what was made
  abbrev pub made_of : Result A LineError → Result B LineError
  made_of r = result_map_both f (λ e. e) r

  by_range : (o : Option A) → ok_or (option_map f o) Range ≡ made_of (ok_or o Range)
  by_range None = refl
  by_range (Some x) = refl

  by_read : (read : Bool) (o : Option A) → cond read (ok_or (option_map f o) Range) (Err Number) ≡ made_of (cond read (ok_or o Range) (Err Number))
  by_read true o = by_range o
  by_read false o = refl

  by_form : (o : Option (Form A)) (ws : List (List ℕ)) → form_reading (option_map (form_map f) o) ws ≡ made_of (form_reading o ws)
  by_form None ws = refl
  by_form (Some form) ws = by_read _ _

  any-mapped : (forms : List (Form A)) (ws : List (List ℕ)) → list_any (has_count ws) (map (form_map f) forms) ≡ list_any (has_count ws) forms
  any-mapped [] ws = refl
  any-mapped (form ∷ forms) ws = ap (λ (b : Bool). has_count ws form || b) (any-mapped forms ws)

  find-cond : (here : Bool) (form : Form A) (later : Option (Form A)) → cond here (Some (form_map f form)) (option_map (form_map f) later) ≡ option_map (form_map f) (cond here (Some form) later)
  find-cond true form later = refl
  find-cond false form later = refl

  find-mapped : (forms : List (Form A)) (ws : List (List ℕ)) → find (has_fixed ws) (map (form_map f) forms) ≡ option_map (form_map f) (find (has_fixed ws) forms)
  find-mapped [] ws = refl
  find-mapped (form ∷ forms) ws = ap (λ (o : Option (Form B)). cond (has_fixed ws form) (Some (form_map f form)) o) (find-mapped forms ws) ∙ find-cond (has_fixed ws form) form (find (has_fixed ws) forms)

  by_count : (counted : Bool) (x y : Result A LineError) → cond counted (made_of x) (made_of y) ≡ made_of (cond counted x y)
  by_count true x y = refl
  by_count false x y = refl

  pub forms_reading-mapped : (forms : List (Form A)) (ws : List (List ℕ)) → forms_reading (map (form_map f) forms) ws ≡ made_of (forms_reading forms ws)
  forms_reading-mapped forms ws =
      rw (any-mapped forms ws, find-mapped forms ws, by_form (find (has_fixed ws) forms) ws) (by_count (list_any (has_count ws) forms) (form_reading (find (has_fixed ws) forms) ws) (Err Count))

  module _ (Makes : A → B → Type 0) (makes : (x : A) (y : B) → Makes x y → y ≡ f x) where
    mapped : (r : Result A LineError) (s : Result B LineError) → MatchResult r (λ x. IsOkAnd s (Makes x)) (λ e. s ≡ Err e) → s ≡ made_of r
    mapped (Ok x) (Ok y) h = ap Ok (makes x y h)
    mapped (Ok x) (Err d) h = absurd h
    mapped (Err e) s h = h

    -- as `map` makes it, by a closure that makes no other
    pub forms_reading-map : (forms : List (Form A)) (ws : List (List ℕ)) (r : Result A LineError) (s : Result B LineError) → r ≡ forms_reading forms ws
        → MatchResult r (λ x. IsOkAnd s (Makes x)) (λ e. s ≡ Err e) → s ≡ forms_reading (map (form_map f) forms) ws
    forms_reading-map forms ws r s is h = mapped r s h ∙ ap made_of is ∙ sym (forms_reading-mapped forms ws)
