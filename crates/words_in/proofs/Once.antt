-- Options of which each name is given at most once.
use Rattle.std.proofs.Common.{◌≡◌, ◌≤◌, ℕ, ◌+◌, ◌||◌, Bool, true, false, cond, List, [], ◌∷◌, ◌++◌, Some, refl, sym, ap, ◌∙◌, subst, arith}
use Rattle.std.specs.Prelude.{bytes_eq, count_by, find, option_map}
use Rattle.std.specs.List.{list_any}
use Rattle.std.proofs.lemmas.Bool.{or_parts}
use Rattle.std.proofs.lemmas.List.Sums.{sum_by-append, sum_by-cons}
use Rattle.std.proofs.lemmas.Slice.Eq.{bytes_eq-Decides}
use Rattle.words_in.specs.Grammar.{AreGivenOnce, Given, value_given}

pub same_bytes : (text : List ℕ) → bytes_eq text text ≡ true
same_bytes text = (bytes_eq-Decides text text).1 refl

-- whether an option of the name is among them
abbrev pub is_given : List ℕ → List Given → Bool
is_given name given = list_any (λ g. bytes_eq g.name name) given

abbrev weight : List ℕ → Given → ℕ
weight name g = cond {A = ℕ} (bytes_eq g.name name) 1 0

abbrev counted : List ℕ → List Given → ℕ
counted name given = count_by (λ g. bytes_eq g.name name) given

counted-cons : (name : List ℕ) (g : Given) (given : List Given) → counted name (g ∷ given) ≡ weight name g + counted name given
counted-cons name g given = sum_by-cons (weight name) g given

counted-append : (name : List ℕ) (xs ys : List Given) → counted name (xs ++ ys) ≡ counted name xs + counted name ys
counted-append name xs ys = sum_by-append (weight name) xs ys

none_step : (name : List ℕ) (g : Given) (given : List Given) → counted name given ≡ 0 → bytes_eq g.name name ≡ false → counted name (g ∷ given) ≡ 0
none_step name g given later e =
    let w : weight name g ≡ 0 = ap (λ t. cond {A = ℕ} t 1 0) e in
    let all = counted-cons name g given in
    omega (arith, w, all, later)

counted-none : (name : List ℕ) (given : List Given) → is_given name given ≡ false → counted name given ≡ 0
counted-none name [] h = refl
counted-none name (g ∷ given) h =
    let both = or_parts (bytes_eq g.name name) (is_given name given) h in
    none_step name g given (counted-none name given both.1) both.0

some_step : (name : List ℕ) (g : Given) (given : List Given) → (is_given name given ≡ true → 1 ≤ counted name given)
    → is_given name (g ∷ given) ≡ true → 1 ≤ counted name (g ∷ given)
some_step name g given later h = go (bytes_eq g.name name) refl
  where
    all : counted name (g ∷ given) ≡ weight name g + counted name given
    all = counted-cons name g given

    go : (b : Bool) → bytes_eq g.name name ≡ b → 1 ≤ counted name (g ∷ given)
    go true e = let w : weight name g ≡ 1 = ap (λ t. cond {A = ℕ} t 1 0) e in omega (arith, w, all)
    go false e =
        let rest : is_given name given ≡ true = sym (ap (λ t. t || is_given name given) e) ∙ h in
        let some = later rest in
        omega (arith, all, some)

counted-some : (name : List ℕ) (given : List Given) → is_given name given ≡ true → 1 ≤ counted name given
counted-some name [] h = cc
counted-some name (g ∷ given) h = some_step name g given (counted-some name given) h

-- what is given once isn't given before
pub new_name : (before : List Given) (g : Given) (after : List Given) → AreGivenOnce (before ++ g ∷ after) → is_given g.name before ≡ false
new_name before g after once = go (is_given g.name before) refl
  where
    go : (b : Bool) → is_given g.name before ≡ b → is_given g.name before ≡ false
    go true e =
        let some = counted-some g.name before e in
        let all = counted-append g.name before (g ∷ after) in
        let last = counted-cons g.name g after in
        let w : weight g.name g ≡ 1 = ap (λ t. cond {A = ℕ} t 1 0) (same_bytes g.name) in
        let most = once g.name in
        absurd (omega (arith, some, all, last, w, most))
    go false e = e

pub once_push : (before : List Given) (g : Given) → AreGivenOnce before → is_given g.name before ≡ false → AreGivenOnce (before ++ g ∷ [])
once_push before g once new name = go (bytes_eq g.name name) refl
  where
    all : counted name (before ++ g ∷ []) ≡ counted name before + counted name (g ∷ [])
    all = counted-append name before (g ∷ [])

    last : counted name (g ∷ []) ≡ weight name g + counted name []
    last = counted-cons name g []

    go : (b : Bool) → bytes_eq g.name name ≡ b → counted name (before ++ g ∷ []) ≤ 1
    go true e =
        let is = (bytes_eq-Decides g.name name).0 e in
        let none = counted-none name before (subst (λ (n : List ℕ). is_given n before ≡ false) is new) in
        let w : weight name g ≡ 1 = ap (λ t. cond {A = ℕ} t 1 0) e in
        let zero_more : counted name [] ≡ 0 = refl in
        omega (arith, all, last, none, w, zero_more)
    go false e =
        let w : weight name g ≡ 0 = ap (λ t. cond {A = ℕ} t 1 0) e in
        let zero_more : counted name [] ≡ 0 = refl in
        let most = once name in
        omega (arith, all, last, w, zero_more, most)

-- its value is the one that is given for its name
pub value_given-at : (before : List Given) (g : Given) (after : List Given) → is_given g.name before ≡ false → value_given g.name (before ++ g ∷ after) ≡ Some g.value
value_given-at [] g after h =
    ap (λ t. option_map (λ (x : Given). x.value) (cond t (Some g) (find (λ x. bytes_eq x.name g.name) after))) (same_bytes g.name)
value_given-at (x ∷ before) g after h =
    let both = or_parts (bytes_eq x.name g.name) (is_given g.name before) h in
    ap (λ t. option_map (λ (y : Given). y.value) (cond t (Some x) (find (λ y. bytes_eq y.name g.name) (before ++ g ∷ after)))) both.0
    ∙ value_given-at before g after both.1
