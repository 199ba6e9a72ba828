-- Sums and counts over lists: terms that agree, terms that are even, a sum of sums, and strictly fewer.
use Rattle.std.proofs.Common.{◌≡◌, ℕ, ◌+◌, ◌*◌, ◌<◌, ◌≤◌, Bool, true, false, cond, arith, refl, sym, ap, ◌∙◌, List, [], ◌∷◌, get_or}
use Rattle.std.specs.Prelude.{◌&&◌, not}
use Rattle.std.specs.List.{sum_by, count_by, All, Contains}
use Rattle.std.proofs.lemmas.List.Sums.{sum_by-cons, get_or-le-sum_by}
use Rattle.std.proofs.lemmas.List.Elements.{All-head, All-tail, All-weaker, All-contains_itself}
use Rattle.std.proofs.lemmas.Bool.{false≢true}
use Rattle.slab_laws.specs.Weights.{Even}

-- what holds of each member holds of all
pub each : {X : Type 0} (P : X → Type 0) (xs : List X) → ((x : X) → Contains xs x → P x) → All P xs
each P xs h = All-weaker (Contains xs) P h xs (All-contains_itself xs)

pub even_sum : {X : Type 0} (f : X → ℕ) (xs : List X) → All (λ x. Even (f x)) xs → Even (sum_by f xs)
even_sum f [] h = refl
even_sum f (x ∷ xs) h =
    let a : Even (f x) = All-head (λ x. Even (f x)) x xs h in
    let b : Even (sum_by f xs) = even_sum f xs (All-tail (λ x. Even (f x)) x xs h) in
    rw (sum_by-cons f x xs) (omega arith)

pub sum_by-plus : {X : Type 0} (f g : X → ℕ) (xs : List X) → sum_by (λ x. f x + g x) xs ≡ sum_by f xs + sum_by g xs
sum_by-plus f g [] = refl
sum_by-plus f g (x ∷ xs) =
    omega (arith, sum_by-cons (λ x. f x + g x) x xs, sum_by-cons f x xs, sum_by-cons g x xs, sum_by-plus f g xs)

pub sum_by-none : {X : Type 0} (xs : List X) → sum_by (λ (x : X). 0) xs ≡ 0
sum_by-none [] = refl
sum_by-none {X} (x ∷ xs) = omega (arith, sum_by-cons (λ (x : X). 0) x xs, sum_by-none xs)

pub sum_by-same : {X : Type 0} (f g : X → ℕ) (xs : List X) → All (λ x. f x ≡ g x) xs → sum_by f xs ≡ sum_by g xs
sum_by-same f g [] h = refl
sum_by-same f g (x ∷ xs) h =
    let a : f x ≡ g x = All-head (λ x. f x ≡ g x) x xs h in
    let b : sum_by f xs ≡ sum_by g xs = sum_by-same f g xs (All-tail (λ x. f x ≡ g x) x xs h) in
    omega (arith, sum_by-cons f x xs, sum_by-cons g x xs)

pub sum_by-swap : {X Y : Type 0} (f : X → Y → ℕ) (xs : List X) (ys : List Y) → sum_by (λ x. sum_by (f x) ys) xs ≡ sum_by (λ y. sum_by (λ x. f x y) xs) ys
sum_by-swap {X} {Y} f [] ys = sym (sum_by-none ys)
sum_by-swap {X} {Y} f (x ∷ xs) ys =
    let F : X → ℕ = λ x. sum_by (f x) ys in
    let e : sum_by F (x ∷ xs) ≡ F x + sum_by F xs = sum_by-cons F x xs in
    let g : sum_by (λ (y : Y). f x y + sum_by (λ x. f x y) xs) ys ≡ sum_by (f x) ys + sum_by (λ y. sum_by (λ x. f x y) xs) ys =
    sum_by-plus (f x) (λ y. sum_by (λ x. f x y) xs) ys in
    let k : sum_by (λ (y : Y). sum_by (λ x. f x y) (x ∷ xs)) ys ≡ sum_by (λ (y : Y). f x y + sum_by (λ x. f x y) xs) ys =
    sum_by-same _ _ ys (each _ ys (λ y _. sum_by-cons (λ x. f x y) x xs)) in
    e ∙ ap (λ n. F x + n) (sum_by-swap f xs ys) ∙ sym g ∙ sym k

-- ---- counts
pub count_by-le : {X : Type 0} (p q : X → Bool) (xs : List X) → All (λ x. p x ≡ true → q x ≡ true) xs → count_by p xs ≤ count_by q xs
count_by-le p q [] h = omega arith
count_by-le {X} p q (x ∷ xs) h =
    let a = All-head (λ x. p x ≡ true → q x ≡ true) x xs h in
    let b = count_by-le p q xs (All-tail (λ x. p x ≡ true → q x ≡ true) x xs h) in
    let s : (b c : Bool) → (b ≡ true → c ≡ true) → cond b 1 0 ≤ cond c 1 0 = one_le in
    omega (arith, sum_by-cons (λ x. cond (p x) 1 0) x xs, sum_by-cons (λ x. cond (q x) 1 0) x xs, s (p x) (q x) a)
  where
    one_le : (b c : Bool) → (b ≡ true → c ≡ true) → cond b 1 0 ≤ cond c 1 0
    one_le true true h = omega arith
    one_le true false h = absurd (false≢true (h refl))
    one_le false c h = omega arith

pub sum_by-cond : {X : Type 0} (s : X → Bool) (n : ℕ) (xs : List X) → sum_by (λ x. cond (s x) n 0) xs ≡ count_by s xs * n
sum_by-cond s n [] = omega arith
sum_by-cond s n (x ∷ xs) =
    let e = sum_by-cons (λ x. cond (s x) n 0) x xs in
    let f : count_by s (x ∷ xs) ≡ cond (s x) 1 0 + count_by s xs = sum_by-cons (λ x. cond (s x) 1 0) x xs in
    let g : cond (s x) n 0 ≡ cond (s x) 1 0 * n = scale (s x) n in
    rw f (omega (arith, sum_by-cond s n xs))
  where
    scale : (b : Bool) (n : ℕ) → cond b n 0 ≡ cond b 1 0 * n
    scale true n = omega arith
    scale false n = omega arith

pub cond-sum_by : {X : Type 0} (b : Bool) (f : X → ℕ) (xs : List X) → cond b (sum_by f xs) 0 ≡ sum_by (λ x. cond b (f x) 0) xs
cond-sum_by true f xs = refl
cond-sum_by false f xs = sym (sum_by-none xs)

-- a sum over the members that pass a test, of a weight on the one that is p
pub sum_by-once : {X : Type 0} (a s : X → Bool) (p : X) (n : ℕ) (xs : List X) → ((x : X) → s x ≡ true → a x ≡ a p) → count_by s xs ≡ 1 → sum_by (λ x. cond (a x) (cond (s x) n 0) 0) xs ≡ cond (a p) n 0
sum_by-once {X} a s p n xs h once =
    let e : sum_by (λ x. cond (a x) (cond (s x) n 0) 0) xs ≡ sum_by (λ x. cond (s x) (cond (a p) n 0) 0) xs =
    sum_by-same _ _ xs (each _ xs (λ x _. turn (a x) (s x) (a p) n (h x))) in
    let f : sum_by (λ x. cond (s x) (cond (a p) n 0) 0) xs ≡ count_by s xs * cond (a p) n 0 = sum_by-cond s (cond (a p) n 0) xs in
    let f' = rw once at f in
    e ∙ f' ∙ omega arith
  where
    turn : (b c d : Bool) (n : ℕ) → (c ≡ true → b ≡ d) → cond b (cond c n 0) 0 ≡ cond c (cond d n 0) 0
    turn b true d n h = ap (λ z. cond z n 0) (h refl)
    turn true false d n h = refl
    turn false false d n h = refl

-- strictly fewer, where a member passes q alone
pub count_by-lt : {X : Type 0} (p q : X → Bool) (xs : List X) (w : X) → Contains xs w → p w ≡ false → q w ≡ true → All (λ x. p x ≡ true → q x ≡ true) xs → count_by p xs < count_by q xs
count_by-lt {X} p q xs w in' fails passes h =
    let r : X → Bool = λ x. q x && not (p x) in
    let a : count_by q xs ≡ sum_by (λ x. cond (p x) 1 0 + cond (r x) 1 0) xs =
    sum_by-same _ _ xs (All-weaker (λ x. p x ≡ true → q x ≡ true) (λ x. cond (q x) 1 0 ≡ cond (p x) 1 0 + cond (r x) 1 0) (λ x k. parts (p x) (q x) k) xs h) in
    let b = sum_by-plus (λ x. cond (p x) 1 0) (λ x. cond (r x) 1 0) xs in
    let c : cond (r (get_or xs in'.0 w)) 1 0 ≤ count_by r xs = get_or-le-sum_by (λ x. cond (r x) 1 0) xs in'.0 w in'.1 in
    let d : cond (r w) 1 0 ≤ count_by r xs = rw in'.2 at c in
    let f : 1 ≤ cond (r w) 1 0 = here (p w) (q w) fails passes in
    omega arith
  where
    parts : (b c : Bool) → (b ≡ true → c ≡ true) → cond c 1 0 ≡ cond b 1 0 + cond (c && not b) 1 0
    parts true c h = rw (h refl) refl
    parts false true h = refl
    parts false false h = refl

    here : (b c : Bool) → b ≡ false → c ≡ true → 1 ≤ cond (c && not b) 1 0
    here b c e f = rw (e, f) (omega arith)

-- the same, from what holds of each member
pub fewer : {X : Type 0} (p q : X → Bool) (xs : List X) → ((x : X) → Contains xs x → p x ≡ true → q x ≡ true) → count_by p xs ≤ count_by q xs
fewer p q xs h = count_by-le p q xs (each (λ x. p x ≡ true → q x ≡ true) xs h)

pub fewer_than : {X : Type 0} (p q : X → Bool) (xs : List X) (w : X) → Contains xs w → p w ≡ false → q w ≡ true → ((x : X) → Contains xs x → p x ≡ true → q x ≡ true) → count_by p xs < count_by q xs
fewer_than p q xs w in' a b h = count_by-lt p q xs w in' a b (each (λ x. p x ≡ true → q x ≡ true) xs h)
