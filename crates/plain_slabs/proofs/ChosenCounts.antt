-- Counts over some of the elements of a list, and how they change with the choice.
use Rattle.std.proofs.Common.{◌≡◌, ℕ, ◌+◌, ◌≤◌, Bool, true, false, cond, arith, refl, sym, ap, ◌∙◌, List, [], ◌∷◌, length}
use Rattle.std.specs.Prelude.{◌&&◌, not, filter}
use Rattle.std.specs.List.{sum_by, count_by}
use Rattle.std.proofs.lemmas.List.Sums.{sum_by-cons, length-filter, count_by-le-length}
use Rattle.std.proofs.lemmas.List.Filters.{length-filter_both}
use Rattle.std.proofs.lemmas.Bool.{and_parts}
use Rattle.slab_faces.proofs.Sums.{each, sum_by-same, sum_by-plus, fewer}

-- of those that pass p, how many pass b
pub count_filtered : {X : Type 0} (b p : X → Bool) (xs : List X) → count_by b (filter p xs) ≡ count_by (λ x. p x && b x) xs
count_filtered b p [] = refl
count_filtered {X} b p (x ∷ xs) = step (p x) (count_filtered b p xs) ∙ sym (sum_by-cons (λ x. cond (p x && b x) 1 0) x xs)
  where
    step : (c : Bool) → count_by b (filter p xs) ≡ count_by (λ x. p x && b x) xs → count_by b (cond c (x ∷ filter p xs) (filter p xs)) ≡ cond (c && b x) 1 0 + count_by (λ x. p x && b x) xs
    step true e = sum_by-cons (λ x. cond (b x) 1 0) x (filter p xs) ∙ ap (λ n. cond (b x) 1 0 + n) e
    step false e = e ∙ omega arith

both_plus : {X : Type 0} (f g : X → Bool) (xs : List X) → count_by f xs + count_by g xs ≡ sum_by (λ x. cond (f x) 1 0 + cond (g x) 1 0) xs
both_plus f g xs = sym (sum_by-plus (λ x. cond (f x) 1 0) (λ x. cond (g x) 1 0) xs)

at_one : (b p q : Bool) → cond (q && b) 1 0 + cond ((p && not q) && b) 1 0 ≡ cond (p && b) 1 0 + cond ((q && not p) && b) 1 0
at_one true true true = refl
at_one true true false = refl
at_one true false true = refl
at_one true false false = refl
at_one false true true = refl
at_one false true false = refl
at_one false false true = refl
at_one false false false = refl

-- the count of those that pass q, with those that only pass p, is the count of those that pass p, with those that only pass q
pub moved : {X : Type 0} (b p q : X → Bool) (xs : List X) → count_by b (filter q xs) + count_by b (filter (λ x. p x && not (q x)) xs) ≡ count_by b (filter p xs) + count_by b (filter (λ x. q x && not (p x)) xs)
moved {X} b p q xs =
    let n : X → ℕ = λ x. cond (q x && b x) 1 0 + cond ((p x && not (q x)) && b x) 1 0 in
    let m : X → ℕ = λ x. cond (p x && b x) 1 0 + cond ((q x && not (p x)) && b x) 1 0 in
    let e : sum_by n xs ≡ sum_by m xs = sum_by-same n m xs (each (λ x. n x ≡ m x) xs (λ x _. at_one (b x) (p x) (q x))) in
    rw (count_filtered b q xs, count_filtered b (λ x. p x && not (q x)) xs, count_filtered b p xs, count_filtered b (λ x. q x && not (p x)) xs)
    (both_plus (λ x. q x && b x) (λ x. (p x && not (q x)) && b x) xs ∙ e ∙ sym (both_plus (λ x. p x && b x) (λ x. (q x && not (p x)) && b x) xs))

-- both choices are of different elements
pub room : {X : Type 0} (b p q : X → Bool) (xs : List X) → count_by b (filter p xs) + count_by b (filter (λ x. q x && not (p x)) xs) ≤ length xs
room {X} b p q xs =
    let n : X → Bool = λ x. q x && not (p x) in
    let h1 = count_by-le-length b (filter p xs) in
    let h2 = count_by-le-length b (filter n xs) in
    let h3 = length-filter n xs in
    let h4 = length-filter (λ x. not (p x)) xs in
    let h5 = length-filter_both p (λ x. not (p x)) (λ x. refl) xs in
    let h6 : count_by n xs ≤ count_by (λ x. not (p x)) xs = fewer n (λ x. not (p x)) xs (λ x _ h. (and_parts (q x) (not (p x)) h).1) in
    omega arith
