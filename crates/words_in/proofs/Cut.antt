-- What a word is of which `clap` reads a name, with a value or without one.
use Rattle.std.proofs.Common.{◌≡◌, ℕ, suc, ◌+◌, ◌==◌, Bool, true, false, List, [], ◌∷◌, ◌++◌, Option, Some, None, if◌then◌else◌, refl, sym, ap, ap₂, ◌∙◌, arith}
use Rattle.std.specs.Prelude.{option_and_then}
use Rattle.std.specs.List.{before_first, after_first, position_or_len}
use Rattle.std.proofs.lemmas.Bool.Decides.{nat_tests}
use Rattle.clap.specs.Lexer.{has_byte, long_of, long_of_rest, name_and_value, strip_byte}

abbrev is_equals : ℕ → Bool
is_equals x = x == 61

equals_step : (x : ℕ) (xs : List ℕ) → (has_byte 61 xs ≡ true → xs ≡ before_first is_equals xs ++ 61 ∷ after_first is_equals xs)
    → has_byte 61 (x ∷ xs) ≡ true → x ∷ xs ≡ before_first is_equals (x ∷ xs) ++ 61 ∷ after_first is_equals (x ∷ xs)
equals_step x xs later h = go (x == 61) refl
  where
    n : ℕ
    n = position_or_len is_equals xs

    go : (b : Bool) → (x == 61) ≡ b → x ∷ xs ≡ before_first is_equals (x ∷ xs) ++ 61 ∷ after_first is_equals (x ∷ xs)
    go true e = let is : x ≡ 61 = grind (arith, nat_tests) in rw (e, is) refl
    go false e =
        let rest : has_byte 61 xs ≡ true = rw e at h in
        let one : 1 + n ≡ suc n = omega arith in
        let two : 1 + n + 1 ≡ suc (n + 1) = omega arith in
        rw e (rw (two, one) (ap (λ t. x ∷ t) (later rest)))

-- a text is what stands before its first `=`, that, and what stands after it
before_equals : (text : List ℕ) → has_byte 61 text ≡ true → text ≡ before_first is_equals text ++ 61 ∷ after_first is_equals text
before_equals [] h = cc
before_equals (x ∷ xs) h = equals_step x xs (before_equals xs) h

without_step : (x : ℕ) (xs : List ℕ) → (has_byte 61 xs ≡ false → before_first is_equals xs ≡ xs)
    → has_byte 61 (x ∷ xs) ≡ false → before_first is_equals (x ∷ xs) ≡ x ∷ xs
without_step x xs later h = go (x == 61) refl
  where
    n : ℕ
    n = position_or_len is_equals xs

    go : (b : Bool) → (x == 61) ≡ b → before_first is_equals (x ∷ xs) ≡ x ∷ xs
    go true e = let bad : true ≡ false = rw e at h in cc
    go false e =
        let rest : has_byte 61 xs ≡ false = rw e at h in
        let one : 1 + n ≡ suc n = omega arith in
        rw e (rw one (ap (λ t. x ∷ t) (later rest)))

-- a text without `=` stands whole before the first one
without_equals : (text : List ℕ) → has_byte 61 text ≡ false → before_first is_equals text ≡ text
without_equals [] h = refl
without_equals (x ∷ xs) h = without_step x xs (without_equals xs) h

some_byte : (c : ℕ) (text rest : List ℕ) → strip_byte c text ≡ Some rest → text ≡ c ∷ rest
some_byte c [] rest h = cc
some_byte c (x ∷ xs) rest h = go (x == c) refl
  where
    go : (b : Bool) → (x == c) ≡ b → x ∷ xs ≡ c ∷ rest
    go true e =
        let is : x ≡ c = grind (arith, nat_tests) in
        let same : Some xs ≡ Some rest = rw e at h in
        cc
    go false e = let bad : ◌≡◌ {A = Option (List ℕ)} None (Some rest) = rw e at h in cc

-- a word of which something is read begins with two hyphens
two_hyphens : (word : List ℕ) (p : List ℕ × Option (List ℕ)) → long_of word ≡ Some p
    → (rest : List ℕ) × ((word ≡ 45 ∷ 45 ∷ rest) × (long_of_rest rest ≡ Some p))
two_hyphens word p h = first (strip_byte 45 word) refl h
  where
    second : (one : List ℕ) → word ≡ 45 ∷ one → (o : Option (List ℕ)) → strip_byte 45 one ≡ o → option_and_then long_of_rest o ≡ Some p
        → (rest : List ℕ) × ((word ≡ 45 ∷ 45 ∷ rest) × (long_of_rest rest ≡ Some p))
    second one at None e k = cc
    second one at (Some rest) e k = (rest, (at ∙ ap (λ t. 45 ∷ t) (some_byte 45 one rest e), k))

    first : (o : Option (List ℕ)) → strip_byte 45 word ≡ o → option_and_then long_of_rest (option_and_then (strip_byte 45) o) ≡ Some p
        → (rest : List ℕ) × ((word ≡ 45 ∷ 45 ∷ rest) × (long_of_rest rest ≡ Some p))
    first None e k = cc
    first (Some one) e k = second one (some_byte 45 word one e) (strip_byte 45 one) refl k

value_read : (rest name value : List ℕ) → long_of_rest rest ≡ Some (name, Some value) → rest ≡ name ++ 61 ∷ value
value_read [] name value h = cc
value_read (x ∷ xs) name value h = go (has_byte 61 (x ∷ xs)) refl
  where
    pair : name_and_value (x ∷ xs) ≡ (name, Some value)
    pair = cc

    front : before_first is_equals (x ∷ xs) ≡ name
    front = ap (λ p. p.0) pair

    back : (if has_byte 61 (x ∷ xs) then Some (after_first is_equals (x ∷ xs)) else None) ≡ Some value
    back = ap (λ p. p.1) pair

    go : (b : Bool) → has_byte 61 (x ∷ xs) ≡ b → x ∷ xs ≡ name ++ 61 ∷ value
    go true e =
        let some : Some (after_first is_equals (x ∷ xs)) ≡ Some value =
        sym (ap (λ b. if b then Some (after_first is_equals (x ∷ xs)) else None) e) ∙ back in
        let rest : after_first is_equals (x ∷ xs) ≡ value = cc in
        before_equals (x ∷ xs) e ∙ ap₂ (λ a b. a ++ 61 ∷ b) front rest
    go false e =
        let none : ◌≡◌ {A = Option (List ℕ)} None (Some value) =
        sym (ap (λ b. if b then Some (after_first is_equals (x ∷ xs)) else None) e) ∙ back in
        cc

name_read : (rest name : List ℕ) → long_of_rest rest ≡ Some (name, None) → rest ≡ name
name_read [] name h = cc
name_read (x ∷ xs) name h = go (has_byte 61 (x ∷ xs)) refl
  where
    pair : name_and_value (x ∷ xs) ≡ (name, None)
    pair = cc

    front : before_first is_equals (x ∷ xs) ≡ name
    front = ap (λ p. p.0) pair

    back : (if has_byte 61 (x ∷ xs) then Some (after_first is_equals (x ∷ xs)) else None) ≡ None
    back = ap (λ p. p.1) pair

    go : (b : Bool) → has_byte 61 (x ∷ xs) ≡ b → x ∷ xs ≡ name
    go true e =
        let some : ◌≡◌ {A = Option (List ℕ)} (Some (after_first is_equals (x ∷ xs))) None =
        sym (ap (λ b. if b then Some (after_first is_equals (x ∷ xs)) else None) e) ∙ back in
        cc
    go false e = sym (without_equals (x ∷ xs) e) ∙ front

-- `--name=value`
pub one_word : (word name value : List ℕ) → long_of word ≡ Some (name, Some value) → word ≡ 45 ∷ 45 ∷ (name ++ 61 ∷ value)
one_word word name value h =
    let p = two_hyphens word (name, Some value) h in
    p.1.0 ∙ ap (λ t. 45 ∷ 45 ∷ t) (value_read p.0 name value p.1.1)

-- `--name`
pub name_word : (word name : List ℕ) → long_of word ≡ Some (name, None) → word ≡ 45 ∷ 45 ∷ name
name_word word name h =
    let p = two_hyphens word (name, None) h in
    p.1.0 ∙ ap (λ t. 45 ∷ 45 ∷ t) (name_read p.0 name p.1.1)
