-- Linked lists over a function of nodes: what their links say, and that going along them gives the list.
use Rattle.std.proofs.Common.{◌≡◌, ◌≢◌, ◌⊎◌, inl, inr, ℕ, zero, suc, ◌≤◌, List, [], ◌∷◌, length, Option, Some, None, refl, sym, ap, subst, ◌∙◌, arith, Contains}
use Rattle.std.proofs.lemmas.Bool.{cases_eq}
use Rattle.slab.proofs.SlabLemmas.{Contains-cons_cases}
use Rattle.slab_laws.specs.FaceLists.{first_of, follower}
use Rattle.chain_laws.specs.Links.{Node, trail, comes_after, after_at, before_at, IsLinked}
use Rattle.chain_laws.proofs.Distinct.{here, there, nowhere, IsOnce}
use Rattle.integers.proofs.Tests.{other_number, same_number}

pub head_is : (node : ℕ → Option Node) (p s : Option ℕ) (xs : List ℕ) → IsLinked node p s xs → s ≡ first_of xs
head_is node p s [] l = l
head_is node p s (x ∷ xs) l = l.0

-- going along the links, for at least as many steps as the list is long, gives the list
pub trail_is : (node : ℕ → Option Node) (after : ℕ → Option ℕ) → ((n : ℕ) → after n ≡ after_at node n) → (p s : Option ℕ) (xs : List ℕ) (steps : ℕ) → IsLinked node p s xs → length xs ≤ steps → trail after steps s ≡ xs
unfolding trail
trail_is node after is p s [] zero l h = rw l refl
trail_is node after is p s [] (suc steps) l h = rw l refl
trail_is node after is p s (x ∷ xs) zero l h = absurd (omega arith)
trail_is node after is p s (x ∷ xs) (suc steps) l h = rw (l.0) (ap (λ ys. x ∷ ys) (rw (is x) (trail_is node after is (Some x) (after_at node x) xs steps l.2 (omega arith))))

-- going along the links gives no more nodes than steps
pub trail_within : (after : ℕ → Option ℕ) (steps : ℕ) (s : Option ℕ) → length (trail after steps s) ≤ steps
unfolding trail
trail_within after zero None = omega arith
trail_within after (suc steps) None = omega arith
trail_within after zero (Some n) = omega arith
trail_within after (suc steps) (Some n) = let h = trail_within after steps (after n) in omega arith

-- the node after one of the list is the one that comes after it there
pub after_is : (node : ℕ → Option Node) (p s : Option ℕ) (xs : List ℕ) (n : ℕ) → IsLinked node p s xs → Contains xs n → IsOnce xs → after_at node n ≡ comes_after xs n
unfolding comes_after follower
after_is node p s [] n l c o = absurd (nowhere n c)
after_is node p s (x ∷ xs) n l c o = elim (cases_eq x n) [
  | inl q ↦ rw (q, same_number n) (ap (after_at node) (sym q) ∙ head_is node (Some x) (after_at node x) xs l.2)
  | inr ne ↦ rw (other_number x n ne) (elim (Contains-cons_cases x n xs c) [
    | inl e ↦ absurd (ne e)
    | inr d ↦ after_is node (Some x) (after_at node x) xs n l.2 d o.1
  ])
]

in_front : (m : ℕ) (xs : List ℕ) → Some m ≡ first_of xs → Contains xs m
in_front m [] h = absurd (cc)
in_front m (x ∷ xs) h = let q : x ≡ m = cc in subst (λ z. Contains (x ∷ xs) z) q (here x xs)

-- the node after one of the list is of the list
pub after_within : (node : ℕ → Option Node) (p s : Option ℕ) (xs : List ℕ) (n m : ℕ) → IsLinked node p s xs → Contains xs n → after_at node n ≡ Some m → Contains xs m
after_within node p s [] n m l c e = absurd (nowhere n c)
after_within node p s (x ∷ xs) n m l c e = elim (Contains-cons_cases x n xs c) [
  | inl q ↦ there x m xs (first_within (after_at node x) (ap (after_at node) q ∙ e) l.2)
  | inr d ↦ there x m xs (after_within node (Some x) (after_at node x) xs n m l.2 d e)
]
  where
    first_within : (o : Option ℕ) → o ≡ Some m → IsLinked node (Some x) o xs → Contains xs m
    first_within o e k = in_front m xs (sym e ∙ head_is node (Some x) o xs k)

-- the node before one of the list is of the list, or the one before its first
pub before_within : (node : ℕ → Option Node) (p s : Option ℕ) (xs : List ℕ) (n : ℕ) → IsLinked node p s xs → Contains xs n → (before_at node n ≡ p) ⊎ ((m : ℕ) × (before_at node n ≡ Some m) × Contains xs m)
before_within node p s [] n l c = absurd (nowhere n c)
before_within node p s (x ∷ xs) n l c = elim (Contains-cons_cases x n xs c) [
  | inl q ↦ inl (ap (before_at node) (sym q) ∙ l.1)
  | inr d ↦ elim (before_within node (Some x) (after_at node x) xs n l.2 d) [
    | inl e ↦ inr (x, e, here x xs)
    | inr w ↦ inr (w.0, w.1, there x w.0 xs w.2)
  ]
]

-- nodes with the same neighbours are linked in the same way
pub linked_same : (old new : ℕ → Option Node) (p s : Option ℕ) (xs : List ℕ) → ((n : ℕ) → Contains xs n → (after_at new n ≡ after_at old n) × (before_at new n ≡ before_at old n)) → IsLinked old p s xs → IsLinked new p s xs
linked_same old new p s [] h l = l
linked_same old new p s (x ∷ xs) h l =
    let e = h x (here x xs) in
    (l.0, e.1 ∙ l.1, subst (λ o. IsLinked new (Some x) o xs) (sym e.0) (linked_same old new (Some x) (after_at old x) xs (λ n c. h n (there x n xs c)) l.2))

-- no node of the list is the one after itself
pub after_other : (node : ℕ → Option Node) (p s : Option ℕ) (xs : List ℕ) (n : ℕ) → IsLinked node p s xs → IsOnce xs → Contains xs n → after_at node n ≢ Some n
after_other node p s [] n l o c e = nowhere n c
after_other node p s (x ∷ xs) n l o c e = elim (cases_eq x n) [
  | inl q ↦ o.0 (subst (λ z. Contains xs z) (sym q) (in_front n xs (sym e ∙ ap (after_at node) (sym q) ∙ head_is node (Some x) (after_at node x) xs l.2)))
  | inr ne ↦ elim (Contains-cons_cases x n xs c) [
    | inl q ↦ ne q
    | inr d ↦ after_other node (Some x) (after_at node x) xs n l.2 o.1 d e
  ]
]

-- or the one before itself
pub before_other : (node : ℕ → Option Node) (p s : Option ℕ) (xs : List ℕ) (n : ℕ) → IsLinked node p s xs → IsOnce xs → Contains xs n → p ≢ Some n → before_at node n ≢ Some n
before_other node p s [] n l o c h e = nowhere n c
before_other node p s (x ∷ xs) n l o c h e = elim (cases_eq x n) [
  | inl q ↦ h (sym l.1 ∙ ap (before_at node) q ∙ e)
  | inr ne ↦ elim (Contains-cons_cases x n xs c) [
    | inl q ↦ ne q
    | inr d ↦ before_other node (Some x) (after_at node x) xs n l.2 o.1 d (λ (z : Some x ≡ Some n). let w : x ≡ n = cc in ne w) e
  ]
]
