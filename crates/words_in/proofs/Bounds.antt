-- The numbers of the options: kept at the limit they are within the same bounds, and no word within bounds begins with a hyphen.
use Rattle.std.proofs.Common.{◌≡◌, ℕ, zero, suc, ◌+◌, ◌*◌, ◌<◌, ◌≤◌, ◌==◌, ◌&&◌, Bool, true, false, leb, ltb, ℤ, pos, negsuc, List, [], ◌∷◌, Option, Some, None, if◌then◌else◌, refl, sym, ap, ◌∙◌, subst, arith}
use Rattle.std.specs.Prelude.{neg_ℤ, option_and_then, option_map}
use Rattle.std.proofs.Math.Bool.{and-false}
use Rattle.std.proofs.lemmas.Bool.{and_parts, leb-true, leb-false, lt-leb}
use Rattle.std.proofs.lemmas.Bool.Decides.{nat_tests}
use Rattle.std.specs.Char.{digit_value, is_ascii_digit}
use Rattle.std.specs.Str.{all_ascii_digits}
use Rattle.std.specs.Str.Parse.{digits_value, digits_value_after}
use Rattle.clap.specs.Lexer.{strip_byte}
use Rattle.script_lines.specs.declared.number.TheConstants.{NUMBER_LIMIT}
use Rattle.script_lines.specs.Number.{limited_number, limited_size, positive_of}
use Rattle.words_in.specs.Numbers.{number_between, within}

-- ---- the limit

same_within : (least greatest n : ℕ) (t : Bool) → greatest < NUMBER_LIMIT → leb n greatest ≡ t
    → within least greatest (pos (limited_size n)) ≡ within least greatest (pos n)
same_within least greatest n true small e = let k : limited_size n ≡ n = (let h = leb-true n greatest e in omega arith) in rw k refl
same_within least greatest n false small e =
    let h = leb-false n greatest e in
    let k : leb (limited_size n) greatest ≡ false = lt-leb (limited_size n) greatest (omega arith) in
    rw (k, e, and-false (leb least (limited_size n)), and-false (leb least n)) refl

below_zero : (least greatest k : ℕ) → 0 < k → within least greatest (neg_ℤ (pos k)) ≡ None
below_zero least greatest zero h = absurd (omega arith)
below_zero least greatest (suc k) h = refl

-- a number is within bounds below the limit, whether or not it is kept at the limit
within-limited_number : (least greatest : ℕ) → greatest < NUMBER_LIMIT → (z : ℤ) → within least greatest (limited_number z) ≡ within least greatest z
within-limited_number least greatest small (pos n) = same_within least greatest n (leb n greatest) small refl
within-limited_number least greatest small (negsuc n) = below_zero least greatest (limited_size (suc n)) (omega arith)

-- the number that a word is, read with the limit, is within the same bounds
pub between-limited_number : (least greatest : ℕ) → greatest < NUMBER_LIMIT → (o : Option ℤ)
    → option_and_then (within least greatest) (option_map limited_number o) ≡ option_and_then (within least greatest) o
between-limited_number least greatest small None = refl
between-limited_number least greatest small (Some z) = within-limited_number least greatest small z

-- ---- hyphens

value_after : (n : ℕ) (ds : List ℕ) → n ≤ digits_value_after 10 n ds
value_after n [] = omega arith
value_after n (d ∷ ds) = omega (arith, value_after (n * 10 + digit_value d) ds)

digit_above : (d : ℕ) → ltb 48 d ≡ true → is_ascii_digit d ≡ true → 0 < digit_value d
digit_above d low digit = grind (arith, nat_tests)

-- digits without a leading 0 write a number above 0
positive_above : (ds : List ℕ) (n : ℕ) → positive_of ds ≡ Some n → 0 < n
positive_above [] n h = cc
positive_above (d ∷ ds) n h = go (ltb 48 d && all_ascii_digits (d ∷ ds)) refl h
  where
    go : (b : Bool) → (ltb 48 d && all_ascii_digits (d ∷ ds)) ≡ b → (if b then Some (digits_value 10 (d ∷ ds)) else None) ≡ Some n → 0 < n
    go false e k = cc
    go true e k =
        let both = and_parts (ltb 48 d) (all_ascii_digits (d ∷ ds)) e in
        let digit = and_parts (is_ascii_digit d) (all_ascii_digits ds) both.1 in
        let is : digits_value 10 (d ∷ ds) ≡ n = cc in
        let more = value_after (0 * 10 + digit_value d) ds in
        let some = digit_above d both.0 digit.0 in
        omega (arith, is, more, some)

no_minus : (least greatest n : ℕ) (xs : List ℕ) → number_between least greatest (45 ∷ xs) ≡ Some n → strip_byte 45 (45 ∷ xs) ≡ None
no_minus least greatest n xs h = go (positive_of xs) refl h
  where
    go : (o : Option ℕ) → positive_of xs ≡ o → option_and_then (within least greatest) (option_map (λ k. neg_ℤ (pos k)) o) ≡ Some n
        → strip_byte 45 (45 ∷ xs) ≡ None
    go None e k = cc
    go (Some size) e k =
        let bad : ◌≡◌ {A = Option ℕ} None (Some n) = sym (below_zero least greatest size (positive_above xs size e)) ∙ k in
        cc

-- a number within bounds is spelt without a hyphen
pub plain_number : (least greatest : ℕ) (v : List ℕ) (n : ℕ) → number_between least greatest v ≡ Some n → strip_byte 45 v ≡ None
plain_number least greatest [] n h = refl
plain_number least greatest (x ∷ xs) n h = go (x == 45) refl
  where
    go : (b : Bool) → (x == 45) ≡ b → strip_byte 45 (x ∷ xs) ≡ None
    go false e = ap (λ b. if b then Some xs else None) e
    go true e =
        let is : x ≡ 45 = grind (arith, nat_tests) in
        subst (λ y. strip_byte 45 (y ∷ xs) ≡ None) (sym is)
        (no_minus least greatest n xs (subst (λ y. number_between least greatest (y ∷ xs) ≡ Some n) is h))
