-- Counting what a list without repeats can hold.
use Rattle.std.proofs.Common.{◌≡◌, ℕ, ◌≤◌, Bool, true, false, cond, arith, refl, ap, subst, inl, inr, List, [], ◌∷◌, length}
use Rattle.std.specs.List.{count_by, sum_by}
use Rattle.std.proofs.lemmas.List.Sums.{sum_by-cons}
use Rattle.plane_graphs.specs.Ascending.{Member}
use Rattle.slab_laws.specs.FaceLists.{AreOnce}
use Rattle.slab_faces.proofs.Sums.{sum_by-swap}

-- a sum by a bound for each term
pub sums_below : {X : Type 0} (f g : X → ℕ) (xs : List X) → ((x : X) → f x ≤ g x) → sum_by f xs ≤ sum_by g xs
sums_below f g [] h = omega arith
sums_below f g (x ∷ xs) h =
    let a = sum_by-cons f x xs in
    let b = sum_by-cons g x xs in
    let c = sums_below f g xs h in
    let d = h x in
    omega arith

-- each of xs stands for at least one of the ys that it matches; each of the ys is matched once at most, and only where it passes
pub matched : {X Y : Type 0} (t : X → Y → Bool) (p : Y → Bool) (xs : List X) (ys : List Y) → ((y : Y) → count_by (λ x. t x y) xs ≤ cond (p y) 1 0) → sum_by (λ x. count_by (t x) ys) xs ≤ count_by p ys
matched {X} {Y} t p xs ys h =
    let a : sum_by (λ x. count_by (t x) ys) xs ≡ sum_by (λ y. count_by (λ x. t x y) xs) ys = sum_by-swap (λ x y. cond (t x y) 1 0) xs ys in
    let b = sums_below (λ y. count_by (λ x. t x y) xs) (λ y. cond (p y) 1 0) ys h in
    omega arith

pub at_least : {X : Type 0} (f : X → ℕ) (xs : List X) → ((x : X) → Member x xs → 1 ≤ f x) → length xs ≤ sum_by f xs
at_least f [] h = omega arith
at_least f (x ∷ xs) h =
    let a = sum_by-cons f x xs in
    let b = at_least f xs (λ y m. h y (inr m)) in
    let c = h x (inl refl) in
    omega arith

-- in a list without repeats at most one thing passes a test that tells things apart
pub once_at_most : {X : Type 0} (p : X → Bool) (b : Bool) (xs : List X) → AreOnce xs → ((x y : X) → p x ≡ true → p y ≡ true → x ≡ y) → ((x : X) → Member x xs → p x ≡ true → b ≡ true) → count_by p xs ≤ cond b 1 0
once_at_most p b [] o same h = omega arith
once_at_most p b (x ∷ xs) o same h = go (once_at_most p b xs o.1 same (λ y m. h y (inr m))) (p x) refl
  where
    none_more : {X : Type 0} (p : X → Bool) (ys : List X) → ((y : X) → Member y ys → p y ≡ true → ⊥) → count_by p ys ≡ 0
    none_more p [] f = refl
    none_more p (y ∷ ys) f =
        let a = sum_by-cons (λ z. cond (p z) 1 0) y ys in
        let b = none_more p ys (λ z m. f z (inr m)) in
        let c : p y ≡ false = no (p y) (f y (inl refl)) in
        let d : cond {A = ℕ} (p y) 1 0 ≡ 0 = ap (λ b. cond {A = ℕ} b 1 0) c in
        omega arith
      where
        no : (b : Bool) → (b ≡ true → ⊥) → b ≡ false
        no true f = absurd (f refl)
        no false f = refl

    go : count_by p xs ≤ cond b 1 0 → (c : Bool) → p x ≡ c → count_by p (x ∷ xs) ≤ cond b 1 0
    go d true q =
        let a = sum_by-cons (λ z. cond (p z) 1 0) x xs in
        let c : cond {A = ℕ} (p x) 1 0 ≡ 1 = ap (λ b. cond {A = ℕ} b 1 0) q in
        let k = none_more p xs (λ y m k. o.0 (subst (λ z. Member z xs) (same y x k q) m)) in
        let e : cond {A = ℕ} b 1 0 ≡ 1 = ap (λ b. cond {A = ℕ} b 1 0) (h x (inl refl) q) in
        omega arith
    go d false q =
        let a = sum_by-cons (λ z. cond (p z) 1 0) x xs in
        let c : cond {A = ℕ} (p x) 1 0 ≡ 0 = ap (λ b. cond {A = ℕ} b 1 0) q in
        omega arith
