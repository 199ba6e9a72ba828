-- The numbers of the words of a line, taken one by one.
use Rattle.std.proofs.Common.{◌≡◌, ℕ, zero, suc, pos, negsuc, subst, ◌+◌, ◌<◌, ◌≤◌, Bool, true, false, cond, ℤ, List, [], ◌∷◌, length, get_or, take, drop, set, Option, Some, None, Ok, Err, refl, sym, ap, ◌∙◌, add-one, arith, length-drop, drop-cons}
use Rattle.std.specs.Prelude.{◌≢◌, ◌&&◌, map, filter_map, is_some, option_map, ok_or, neg_ℤ, FitsSigned}
use Rattle.std.specs.Option.{unwrap_or}
use Rattle.std.specs.Int.{w128}
use Rattle.std.specs.List.{list_all}
use Rattle.std.proofs.lemmas.Bool.{false≢true, and_parts, eq-eqb, ne_eqb}
use Rattle.std.proofs.lemmas.List.{take_more, take_more_set, take_all, map-append, length-set}
use Rattle.std.proofs.lemmas.List.Elements.{filter_map-append}
use Rattle.std.proofs.lemmas.List.Folds.{list_all_more}
use Rattle.script_lines.specs.declared.error.LineError.TheVariants.{Count, Number}
use Rattle.script_lines.specs.declared.number.TheConstants.{NUMBER_LIMIT}
use Rattle.script_lines.specs.Number.{number_of, is_number, limited_size, limited_number}
use Rattle.script_lines.specs.Form.{numbers_of}

-- the words in front are taken: whether all of them are numbers is known, and if they are, each stands in its slot; the others
-- are left
pub record Took (all : List (List ℕ)) (n i : ℕ) (slots : List ℤ) (read : Bool) (left : List (List ℕ)) : Type 0 where
  pub within : i ≤ length all
  pub room : length slots ≡ n
  pub read_is : read ≡ list_all is_number (take i all)
  pub kept : read ≡ true → take i slots ≡ map limited_number (filter_map number_of (take i all))
  pub rest : left ≡ drop i all

-- one more, or none
pub one_left : (all : List (List ℕ)) (i : ℕ) (word : List ℕ) (behind : List (List ℕ)) → word ∷ behind ≡ drop i all → i < length all
one_left all i word behind e =
    let l : suc (length behind) ≡ length (drop i all) = ap length e in
    omega (arith, length-drop i all)

pub none_left : (all : List (List ℕ)) (i : ℕ) → [] ≡ drop i all → length all ≤ i
none_left all i e =
    let l : 0 ≡ length (drop i all) = ap length e in
    omega (arith, length-drop i all)

pub numbered : (o : Option ℤ) (z : ℤ) → Some z ≡ option_map limited_number o → (n : ℤ) × (o ≡ Some n) × (z ≡ limited_number n)
numbered None z e = absurd cc
numbered (Some n) z e = (n, refl, cc)

-- what is kept of a number that is one
kept_of : (o m : Option ℤ) → o ≡ option_map limited_number m → is_some o ≡ true → (n : ℤ) × (m ≡ Some n) × (unwrap_or o (pos 0) ≡ limited_number n)
kept_of o None e t = absurd (false≢true (sym (ap is_some e) ∙ t))
kept_of o (Some n) e t = (n, refl, ap (λ (x : Option ℤ). unwrap_or x (pos 0)) e)

is_some_mapped : (m : Option ℤ) → is_some (option_map limited_number m) ≡ is_some m
is_some_mapped None = refl
is_some_mapped (Some n) = refl

one_number : (word : List ℕ) (n : ℤ) → number_of word ≡ Some n → filter_map number_of (word ∷ []) ≡ n ∷ []
one_number word n e = rw e refl

-- the word that comes next is read
pub Took-more : (all : List (List ℕ)) (n i : ℕ) (slots : List ℤ) (read : Bool) (word : List ℕ) (behind : List (List ℕ)) (o : Option ℤ) (b : Bool) (z : ℤ) → i < n → Took all n i slots read (word ∷ behind) → o ≡ option_map limited_number (number_of word) → b ≡ is_some o → z ≡ unwrap_or o (pos 0) → Took all n (i + 1) (set slots i z) (read && b) behind
Took-more all n i slots read word behind o b z lt took e there value =
    let more : i < length all = one_left all i word behind took.rest in
    let front : word ∷ behind ≡ get_or all i [] ∷ drop (suc i) all = took.rest ∙ drop-cons all i [] more in
    let here : get_or all i [] ≡ word = cc in
    record {
      within = omega arith;
      room = length-set slots i z ∙ took.room;
      read_is = rw (took.read_is, list_all_more is_number all i [] more, here, there, e, is_some_mapped (number_of word)) refl;
      kept = λ t.
          let parts = and_parts read b t in
          let one = kept_of o (number_of word) e (sym there ∙ parts.1) in
          take_more_set slots i z (omega (arith, took.room))
          ∙ rw (take_more all i [] more, filter_map-append, took.kept parts.0, here, one_number word one.0 one.1, map-append, value, one.2) refl;
      rest = rw (add-one) (cc);
    }

pub nothing_mapped : (o : Option ℤ) → None ≡ option_map limited_number o → o ≡ None
nothing_mapped None e = refl
nothing_mapped (Some n) e = absurd cc

-- the count isn't right
pub numbers_of-other : (all : List (List ℕ)) (n : ℕ) → length all ≢ n → numbers_of n all ≡ Err Count
numbers_of-other all n other = rw (ne_eqb (length all) n other) refl

-- every word was taken
pub numbers_of-all : (all : List (List ℕ)) (n i : ℕ) (slots : List ℤ) (read : Bool) → Took all n i slots read [] → n ≤ i → i ≤ n → numbers_of n all ≡ cond read (Ok slots) (Err Number)
numbers_of-all all n i slots read took over within =
    let least = none_left all i took.rest in
    let most = took.within in
    let count : length all ≡ n = omega arith in
    let every : take i all ≡ all = take_all i all (omega arith) in
    let each : take i slots ≡ slots = take_all i slots (omega (arith, took.room)) in
    rw (eq-eqb (length all) n count) (by_read read (rw every at took.read_is) (λ t. rw (every, each) at (took.kept t)))
  where
    by_read : (b : Bool) → b ≡ list_all is_number all → (b ≡ true → slots ≡ map limited_number (filter_map number_of all))
        → cond (list_all is_number all) (Ok (map limited_number (filter_map number_of all))) (Err Number) ≡ cond b (Ok slots) (Err Number)
    by_read true is kept = rw (← is) (ap Ok (sym (kept refl)))
    by_read false is kept = rw (← is) refl

-- what `ok_or` was given
pub ok_or-err : {X E : Type 0} (o : Option X) (e d : E) → ok_or o e ≡ Err d → (o ≡ None) × (e ≡ d)
ok_or-err None e d is = (refl, cc)
ok_or-err (Some x) e d is = absurd cc

pub ok_or-ok : {X E : Type 0} (o : Option X) (e : E) (x : X) → ok_or o e ≡ Ok x → o ≡ Some x
ok_or-ok None e x is = absurd cc
ok_or-ok (Some y) e x is = cc

-- a number that is kept at the limit fits
fits-neg : (n : ℕ) → n ≤ NUMBER_LIMIT → FitsSigned w128 (neg_ℤ (pos n))
fits-neg zero le = omega arith
fits-neg (suc n) le = omega arith

fits-limited_number : (z : ℤ) → FitsSigned w128 (limited_number z)
fits-limited_number (pos n) = omega arith
fits-limited_number (negsuc n) = fits-neg (limited_size (suc n)) (omega arith)

pub fits-numbered : (o : Option ℤ) (z : ℤ) → Some z ≡ option_map limited_number o → FitsSigned w128 z
fits-numbered o z e = let read = numbered o z e in subst (FitsSigned w128) (sym read.2) (fits-limited_number read.0)
