-- A linked list with a node more in front, and with a node taken out.
use Rattle.std.proofs.Common.{◌≡◌, ◌≢◌, inl, inr, ℕ, List, [], ◌∷◌, Option, Some, None, refl, sym, ap, subst, ◌∙◌, Contains}
use Rattle.std.proofs.lemmas.Bool.{cases_eq}
use Rattle.slab.proofs.SlabLemmas.{Contains-cons_cases}
use Rattle.chain_laws.specs.Links.{Node, after_at, before_at, IsLinked, without}
use Rattle.chain_laws.proofs.Distinct.{here, there, nowhere, IsOnce, without_hit, without_miss, without_absent}
use Rattle.chain_laws.proofs.Linked.{after_within, before_within, linked_same}

-- n is put before the node s that there may be, and no other links change
pub record IsInFront (old new : ℕ → Option Node) (n : ℕ) (s : Option ℕ) : Type 0 where
  pub after : after_at new n ≡ s
  pub before : before_at new n ≡ None
  pub next : (m : ℕ) → s ≡ Some m → before_at new m ≡ Some n
  pub afters : (m : ℕ) → m ≢ n → after_at new m ≡ after_at old m
  pub befores : (m : ℕ) → m ≢ n → s ≢ Some m → before_at new m ≡ before_at old m

pub linked_push : (old new : ℕ → Option Node) (n : ℕ) (s : Option ℕ) (xs : List ℕ) → IsInFront old new n s → ¬ Contains xs n → IsOnce xs → IsLinked old None s xs → IsLinked new None (Some n) (n ∷ xs)
linked_push old new n s xs f a o l = (refl, f.before, subst (λ t. IsLinked new (Some n) t xs) (sym f.after) (rest xs a o l))
  where
    rest : (ys : List ℕ) → ¬ Contains ys n → IsOnce ys → IsLinked old None s ys → IsLinked new (Some n) s ys
    rest [] b q k = k
    rest (y ∷ ys) b q k =
        let away : y ≢ n = λ e. b (subst (λ z. Contains (y ∷ ys) z) e (here y ys)) in
        (k.0, f.next y k.0, subst (λ t. IsLinked new (Some y) t ys) (sym (f.afters y away)) (linked_same old new (Some y) (after_at old y) ys (λ m c. kept m c) k.2))
      where
        kept : (m : ℕ) → Contains ys m → (after_at new m ≡ after_at old m) × (before_at new m ≡ before_at old m)
        kept m c =
            let far : m ≢ n = λ e. b (there y n ys (subst (λ z. Contains ys z) e c)) in
            let apart : s ≢ Some m = λ e. q.0 (let z : y ≡ m = cc in subst (λ z. Contains ys z) (sym z) c) in
            (f.afters m far, f.befores m far apart)

-- n is taken out: its neighbours know each other, and no other links change
pub record IsJoined (old new : ℕ → Option Node) (n : ℕ) : Type 0 where
  pub next : (m : ℕ) → before_at old n ≡ Some m → after_at new m ≡ after_at old n
  pub last : (m : ℕ) → after_at old n ≡ Some m → before_at new m ≡ before_at old n
  pub afters : (m : ℕ) → m ≢ n → before_at old n ≢ Some m → after_at new m ≡ after_at old m
  pub befores : (m : ℕ) → m ≢ n → after_at old n ≢ Some m → before_at new m ≡ before_at old m

-- where n was the first, the one after it is
at_first : (old new : ℕ → Option Node) (n : ℕ) (p : Option ℕ) (xs : List ℕ) → IsJoined old new n → before_at old n ≡ p → ¬ Contains xs n → IsOnce xs → ((m : ℕ) → p ≡ Some m → ¬ Contains xs m) → IsLinked old (Some n) (after_at old n) xs → IsLinked new p (after_at old n) xs
at_first old new n p [] j b a o f l = l
at_first old new n p (x ∷ xs) j b a o f l =
    (l.0, j.last x l.0 ∙ b, subst (λ t. IsLinked new (Some x) t xs) (sym (j.afters x (λ e. a (subst (λ z. Contains (x ∷ xs) z) e (here x xs))) (λ e. f x (sym b ∙ e) (here x xs)))) (linked_same old new (Some x) (after_at old x) xs kept l.2))
  where
    kept : (m : ℕ) → Contains xs m → (after_at new m ≡ after_at old m) × (before_at new m ≡ before_at old m)
    kept m c =
        let far : m ≢ n = λ e. a (there x n xs (subst (λ z. Contains xs z) e c)) in
        let apart : after_at old n ≢ Some m = λ e. o.0 (let z : x ≡ m = cc (l.0) in subst (λ z. Contains xs z) (sym z) c) in
        (j.afters m far (λ e. f m (sym b ∙ e) (there x m xs c)), j.befores m far apart)

pub linked_without : (old new : ℕ → Option Node) (n : ℕ) (p s t : Option ℕ) (xs : List ℕ) → IsJoined old new n → IsLinked old p s xs → IsOnce xs → ((m : ℕ) → p ≡ Some m → ¬ Contains xs m) → Contains xs n → (before_at old n ≡ p → t ≡ after_at old n) → (before_at old n ≢ p → t ≡ s) → IsLinked new p t (without n xs)
linked_without old new n p s t [] j l o f c first later = absurd (nowhere n c)
linked_without old new n p s t (x ∷ xs) j l o f c first later = elim (cases_eq x n) [
  | inl q ↦
      let b : before_at old n ≡ p = ap (before_at old) (sym q) ∙ l.1 in
      let a : ¬ Contains xs n = subst (λ z. ¬ Contains xs z) q o.0 in
      let k : IsLinked old (Some n) (after_at old n) xs = subst (λ z. IsLinked old (Some z) (after_at old z) xs) q l.2 in
      let g = at_first old new n p xs j b a o.1 (λ m e d. f m e (there x m xs d)) k in
      let w : without n (x ∷ xs) ≡ xs = ap (λ z. without n (z ∷ xs)) q ∙ without_hit n xs ∙ without_absent n xs a in
      subst (λ ys. IsLinked new p t ys) (sym w) (subst (λ u. IsLinked new p u xs) (sym (first b)) g)
  | inr ne ↦ elim (Contains-cons_cases x n xs c) [
    | inl e ↦ absurd (ne e)
    | inr d ↦
        let not_first : before_at old n ≢ p = λ e. away d e in
        let not_next : after_at old n ≢ Some x = λ e. o.0 (after_within old (Some x) (after_at old x) xs n x l.2 d e) in
        let g = linked_without old new n (Some x) (after_at old x) (after_at new x) xs j l.2 o.1 (λ m e. let z : x ≡ m = cc in subst (λ y. ¬ Contains xs y) z o.0) d (λ e. j.next x e) (λ e. j.afters x ne e) in
        subst (λ ys. IsLinked new p t ys) (sym (without_miss n x xs ne)) (later not_first ∙ l.0, j.befores x ne not_next ∙ l.1, g)
  ]
]
  where
    away : Contains xs n → before_at old n ≡ p → ⊥
    away d e = elim (before_within old (Some x) (after_at old x) xs n l.2 d) [
      | inl b ↦ f x (sym e ∙ b) (here x xs)
      | inr w ↦ f w.0 (sym e ∙ w.1) (there x w.0 xs w.2)
    ]
