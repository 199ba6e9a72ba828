-- A list with a name put directly after another one, linked or not.
use Rattle.std.proofs.Common.{◌≡◌, ◌≢◌, ◌⊎◌, inl, inr, ℕ, List, [], ◌∷◌, Option, Some, refl, sym, ap, subst, ◌∙◌, Contains}
use Rattle.std.proofs.lemmas.Bool.{cases_eq}
use Rattle.slab.proofs.SlabLemmas.{Contains-cons_cases}
use Rattle.chain_laws.specs.Links.{Node, after_at, before_at, IsLinked}
use Rattle.chain_laws.proofs.Distinct.{here, there, nowhere, IsOnce}
use Rattle.chain_laws.proofs.Linked.{after_within, after_other, linked_same}
use Rattle.linked_chains.specs.Chains.{put_after}
use Rattle.integers.proofs.Tests.{other_number, same_number}

pub put_hit : (m n : ℕ) (xs : List ℕ) → put_after m n (m ∷ xs) ≡ m ∷ n ∷ xs
unfolding put_after
put_hit m n xs = rw (same_number m) refl

pub put_miss : (m n x : ℕ) (xs : List ℕ) → x ≢ m → put_after m n (x ∷ xs) ≡ x ∷ put_after m n xs
unfolding put_after
put_miss m n x xs h = rw (other_number x m h) refl

pub put_nowhere : (m n : ℕ) → put_after m n [] ≡ []
unfolding put_after
put_nowhere m n = refl

-- after a name that isn't there, nothing is put
pub put_absent : (m n : ℕ) (xs : List ℕ) → ¬ Contains xs m → put_after m n xs ≡ xs
put_absent m n [] h = put_nowhere m n
put_absent m n (x ∷ xs) h = put_miss m n x xs (λ e. h (subst (λ z. Contains (x ∷ xs) z) e (here x xs))) ∙ ap (λ ys. x ∷ ys) (put_absent m n xs (λ c. h (there x m xs c)))

-- ---- the names of the list
pub hit_is : (m n x : ℕ) (xs : List ℕ) → x ≡ m → put_after m n (x ∷ xs) ≡ x ∷ n ∷ xs
hit_is m n x xs q = subst (λ z. put_after m n (z ∷ xs) ≡ z ∷ n ∷ xs) (sym q) (put_hit m n xs)

pub put_new : (m n : ℕ) (xs : List ℕ) → Contains xs m → Contains (put_after m n xs) n
put_new m n [] c = absurd (nowhere m c)
put_new m n (x ∷ xs) c = elim (cases_eq x m) [
  | inl q ↦ subst (λ ys. Contains ys n) (sym (hit_is m n x xs q)) (there x n (n ∷ xs) (here n xs))
  | inr ne ↦ elim (Contains-cons_cases x m xs c) [
    | inl e ↦ absurd (ne e)
    | inr d ↦ subst (λ ys. Contains ys n) (sym (put_miss m n x xs ne)) (there x n (put_after m n xs) (put_new m n xs d))
  ]
]

pub put_has : (m n y : ℕ) (xs : List ℕ) → Contains xs y → Contains (put_after m n xs) y
put_has m n y [] c = absurd (nowhere y c)
put_has m n y (x ∷ xs) c = elim (cases_eq x m) [
  | inl q ↦ subst (λ ys. Contains ys y) (sym (hit_is m n x xs q)) (elim (Contains-cons_cases x y xs c) [
    | inl e ↦ subst (λ z. Contains (x ∷ n ∷ xs) z) e (here x (n ∷ xs))
    | inr d ↦ there x y (n ∷ xs) (there n y xs d)
  ])
  | inr ne ↦ subst (λ ys. Contains ys y) (sym (put_miss m n x xs ne)) (elim (Contains-cons_cases x y xs c) [
    | inl e ↦ subst (λ z. Contains (x ∷ put_after m n xs) z) e (here x (put_after m n xs))
    | inr d ↦ there x y (put_after m n xs) (put_has m n y xs d)
  ])
]

pub put_was : (m n y : ℕ) (xs : List ℕ) → Contains (put_after m n xs) y → (y ≡ n) ⊎ Contains xs y
put_was m n y [] c = absurd (nowhere y (subst (λ ys. Contains ys y) (put_nowhere m n) c))
put_was m n y (x ∷ xs) c = elim (cases_eq x m) [
  | inl q ↦ elim (Contains-cons_cases x y (n ∷ xs) (subst (λ ys. Contains ys y) (hit_is m n x xs q) c)) [
    | inl e ↦ inr (subst (λ z. Contains (x ∷ xs) z) e (here x xs))
    | inr d ↦ elim (Contains-cons_cases n y xs d) [
      | inl e ↦ inl (sym e)
      | inr t ↦ inr (there x y xs t)
    ]
  ]
  | inr ne ↦ elim (Contains-cons_cases x y (put_after m n xs) (subst (λ ys. Contains ys y) (put_miss m n x xs ne) c)) [
    | inl e ↦ inr (subst (λ z. Contains (x ∷ xs) z) e (here x xs))
    | inr d ↦ elim (put_was m n y xs d) [
      | inl e ↦ inl e
      | inr t ↦ inr (there x y xs t)
    ]
  ]
]

pub put_once : (m n : ℕ) (xs : List ℕ) → ¬ Contains xs n → IsOnce xs → IsOnce (put_after m n xs)
put_once m n [] a o = subst IsOnce (sym (put_nowhere m n)) tt
put_once m n (x ∷ xs) a o = elim (cases_eq x m) [
  | inl q ↦ subst IsOnce (sym (hit_is m n x xs q)) (first, ((λ c. a (there x n xs c)), o.1))
  | inr ne ↦ subst IsOnce (sym (put_miss m n x xs ne)) (later, put_once m n xs (λ c. a (there x n xs c)) o.1)
]
  where
    away : x ≢ n
    away e = a (subst (λ z. Contains (x ∷ xs) z) e (here x xs))

    first : ¬ Contains (n ∷ xs) x
    first c = elim (Contains-cons_cases n x xs c) [
      | inl e ↦ away (sym e)
      | inr d ↦ o.0 d
    ]

    later : ¬ Contains (put_after m n xs) x
    later c = elim (put_was m n x xs c) [
      | inl e ↦ away e
      | inr d ↦ o.0 d
    ]

-- ---- the links
-- n is put between m and the one after it, and no other links change
pub record IsInserted (old new : ℕ → Option Node) (m n : ℕ) : Type 0 where
  pub after : after_at new n ≡ after_at old m
  pub before : before_at new n ≡ Some m
  pub last : after_at new m ≡ Some n
  pub next : (y : ℕ) → after_at old m ≡ Some y → before_at new y ≡ Some n
  pub afters : (y : ℕ) → y ≢ n → y ≢ m → after_at new y ≡ after_at old y
  pub befores : (y : ℕ) → y ≢ n → after_at old m ≢ Some y → before_at new y ≡ before_at old y

-- the rest of the list comes after n now
rest_linked : (old new : ℕ → Option Node) (m n : ℕ) (xs : List ℕ) → IsInserted old new m n → ¬ Contains xs n → ¬ Contains xs m → IsOnce xs → IsLinked old (Some m) (after_at old m) xs → IsLinked new (Some n) (after_at new n) xs
rest_linked old new m n [] f a b o l = f.after ∙ l
rest_linked old new m n (x ∷ xs) f a b o l = (f.after ∙ l.0, f.next x l.0, subst (λ t. IsLinked new (Some x) t xs) (sym (f.afters x (apart x (here x xs) n a) (apart x (here x xs) m b))) (linked_same old new (Some x) (after_at old x) xs kept l.2))
  where
    apart : (y : ℕ) → Contains (x ∷ xs) y → (z : ℕ) → ¬ Contains (x ∷ xs) z → y ≢ z
    apart y c z h e = h (subst (λ w. Contains (x ∷ xs) w) e c)

    kept : (y : ℕ) → Contains xs y → (after_at new y ≡ after_at old y) × (before_at new y ≡ before_at old y)
    kept y c =
        let far : y ≢ n = apart y (there x y xs c) n a in
        let other : after_at old m ≢ Some y = λ e. o.0 (let z : x ≡ y = cc (l.0) in subst (λ w. Contains xs w) (sym z) c) in
        (f.afters y far (apart y (there x y xs c) m b), f.befores y far other)

pub linked_put : (old new : ℕ → Option Node) (m n : ℕ) (p s : Option ℕ) (xs : List ℕ) → IsInserted old new m n → ¬ Contains xs n → IsOnce xs → Contains xs m → IsLinked old p s xs → IsLinked new p s (put_after m n xs)
linked_put old new m n p s [] f a o c l = absurd (nowhere m c)
linked_put old new m n p s (x ∷ xs) f a o c l = elim (cases_eq x m) [
  | inl q ↦
      let k : IsLinked old (Some m) (after_at old m) xs = subst (λ z. IsLinked old (Some z) (after_at old z) xs) q l.2 in
      let other : after_at old m ≢ Some x = λ e. after_other old p s (x ∷ xs) m l o c (e ∙ ap Some q) in
      let g = rest_linked old new m n xs f (λ d. a (there x n xs d)) (subst (λ z. ¬ Contains xs z) q o.0) o.1 k in
      subst (λ ys. IsLinked new p s ys) (sym (hit_is m n x xs q)) (l.0, f.befores x away other ∙ l.1, (ap (after_at new) q ∙ f.last, f.before ∙ ap Some (sym q), g))
  | inr ne ↦ elim (Contains-cons_cases x m xs c) [
    | inl e ↦ absurd (ne e)
    | inr d ↦
        let other : after_at old m ≢ Some x = λ e. o.0 (after_within old (Some x) (after_at old x) xs m x l.2 d e) in
        let g = linked_put old new m n (Some x) (after_at old x) xs f (λ t. a (there x n xs t)) o.1 d l.2 in
        subst (λ ys. IsLinked new p s ys) (sym (put_miss m n x xs ne)) (l.0, f.befores x away other ∙ l.1, subst (λ t. IsLinked new (Some x) t (put_after m n xs)) (sym (f.afters x away ne)) g)
  ]
]
  where
    away : x ≢ n
    away e = a (subst (λ z. Contains (x ∷ xs) z) e (here x xs))
