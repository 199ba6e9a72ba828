-- The last of a linked list, after each change.
use Rattle.std.proofs.Common.{◌≡◌, inl, inr, ℕ, cond, List, [], ◌∷◌, ◌++◌, Option, Some, None, refl, sym, ap, subst, ◌∙◌, Contains}
use Rattle.std.specs.Prelude.{is_none}
use Rattle.std.proofs.lemmas.Bool.{cases_eq}
use Rattle.slab.proofs.SlabLemmas.{Contains-cons_cases}
use Rattle.chain_laws.specs.Links.{Node, after_at, before_at, IsLinked, without}
use Rattle.chain_laws.proofs.Distinct.{here, there, nowhere, IsOnce, without_hit, without_miss, without_absent}
use Rattle.linked_chains.specs.Chains.{put_after, put_at}
use Rattle.linked_chains.proofs.PutAfter.{hit_is, put_miss}
use Rattle.curve_pieces.specs.PiecesInMemory.{last_of}

pub last_without : (node : ℕ → Option Node) (n : ℕ) (p s : Option ℕ) (xs : List ℕ) → IsLinked node p s xs → IsOnce xs → Contains xs n → last_of p (without n xs) ≡ cond (is_none (after_at node n)) (before_at node n) (last_of p xs)
last_without node n p s [] l o c = absurd (nowhere n c)
last_without node n p s (x ∷ xs) l o c = elim (cases_eq x n) [
  | inl q ↦
      let gone : without n (x ∷ xs) ≡ xs = subst (λ z. without n (z ∷ xs) ≡ xs) (sym q) (without_hit n xs ∙ without_absent n xs (subst (λ z. ¬ Contains xs z) q o.0)) in
      ap (last_of p) gone ∙ subst (λ z. last_of p xs ≡ cond (is_none (after_at node z)) (before_at node z) (last_of (Some x) xs)) q (by xs (after_at node x) refl l.2)
  | inr ne ↦ elim (Contains-cons_cases x n xs c) [
    | inl e ↦ absurd (ne e)
    | inr d ↦ ap (last_of p) (without_miss n x xs ne) ∙ last_without node n (Some x) (after_at node x) xs l.2 o.1 d
  ]
]
  where
    by : (ys : List ℕ) (a : Option ℕ) → after_at node x ≡ a → IsLinked node (Some x) a ys → last_of p ys ≡ cond (is_none (after_at node x)) (before_at node x) (last_of (Some x) ys)
    by [] a e k = sym l.1 ∙ ap (λ o. cond (is_none o) (before_at node x) (Some x)) (sym (e ∙ k))
    by (y ∷ ys) a e k = ap (λ o. cond (is_none o) (before_at node x) (last_of (Some y) ys)) (sym (e ∙ k.0))

pub last_put : (node : ℕ → Option Node) (m n : ℕ) (p s : Option ℕ) (xs : List ℕ) → IsLinked node p s xs → Contains xs m → last_of p (put_after m n xs) ≡ cond (is_none (after_at node m)) (Some n) (last_of p xs)
last_put node m n p s [] l c = absurd (nowhere m c)
last_put node m n p s (x ∷ xs) l c = elim (cases_eq x m) [
  | inl q ↦ ap (last_of p) (hit_is m n x xs q) ∙ subst (λ z. last_of (Some n) xs ≡ cond (is_none (after_at node z)) (Some n) (last_of (Some x) xs)) q (by xs (after_at node x) refl l.2)
  | inr ne ↦ elim (Contains-cons_cases x m xs c) [
    | inl e ↦ absurd (ne e)
    | inr d ↦ ap (last_of p) (put_miss m n x xs ne) ∙ last_put node m n (Some x) (after_at node x) xs l.2 d
  ]
]
  where
    by : (ys : List ℕ) (a : Option ℕ) → after_at node x ≡ a → IsLinked node (Some x) a ys → last_of (Some n) ys ≡ cond (is_none (after_at node x)) (Some n) (last_of (Some x) ys)
    by [] a e k = ap (λ o. cond (is_none o) (Some n) (Some x)) (sym (e ∙ k))
    by (y ∷ ys) a e k = ap (λ o. cond (is_none o) (Some n) (last_of (Some y) ys)) (sym (e ∙ k.0))

-- one more in front
pub last_pushed : (n : ℕ) (s : Option ℕ) (node : ℕ → Option Node) (xs : List ℕ) → IsLinked node None s xs → last_of None (n ∷ xs) ≡ cond (is_none s) (Some n) (last_of None xs)
last_pushed n s node [] l = ap (λ o. cond (is_none o) (Some n) None) (sym l)
last_pushed n s node (x ∷ xs) l = ap (λ o. cond (is_none o) (Some n) (last_of (Some x) xs)) (sym l.0)

-- the last of a list is in it, and a name put directly after it is at the end
pub last_in : (p : Option ℕ) (xs : List ℕ) (m : ℕ) → last_of p xs ≡ Some m → (¬ (p ≡ Some m)) → Contains xs m
last_in p [] m e h = absurd (h e)
last_in p (x ∷ xs) m e h = elim (cases_eq x m) [
  | inl q ↦ subst (λ z. Contains (x ∷ xs) z) q (here x xs)
  | inr ne ↦ there x m xs (last_in (Some x) xs m e (λ (z : Some x ≡ Some m). let w : x ≡ m = cc in ne w))
]

none_last : (p : Option ℕ) (xs : List ℕ) → last_of p xs ≡ None → xs ≡ []
none_last p [] e = refl
none_last p (x ∷ xs) e = absurd (some x xs e)
  where
    some : (y : ℕ) (ys : List ℕ) → last_of (Some y) ys ≡ None → ⊥
    some y [] e = absurd (cc)
    some y (z ∷ zs) e = some z zs e

put_last : (m n : ℕ) (p : Option ℕ) (xs : List ℕ) → IsOnce xs → last_of p xs ≡ Some m → ¬ (p ≡ Some m) → put_after m n xs ≡ xs ++ n ∷ []
put_last m n p [] o e h = absurd (h e)
put_last m n p (x ∷ xs) o e h = elim (cases_eq x m) [
  | inl q ↦ hit_is m n x xs q ∙ ap (λ ys. x ∷ ys) (end xs (λ c. o.0 (subst (λ z. Contains xs z) (sym q) c)) e)
  | inr ne ↦ put_miss m n x xs ne ∙ ap (λ ys. x ∷ ys) (put_last m n (Some x) xs o.1 e (λ (z : Some x ≡ Some m). let w : x ≡ m = cc in ne w))
]
  where
    later : (y : ℕ) (ys : List ℕ) → last_of (Some y) ys ≡ Some m → ¬ Contains (y ∷ ys) m → ⊥
    later y [] e a = let w : y ≡ m = cc in a (subst (λ z. Contains (y ∷ []) z) w (here y []))
    later y (z ∷ zs) e a = later z zs e (λ c. a (there y m (z ∷ zs) c))

    end : (ys : List ℕ) → ¬ Contains ys m → last_of (Some x) ys ≡ Some m → n ∷ ys ≡ ys ++ n ∷ []
    end [] a e = refl
    end (y ∷ ys) a e = absurd (later y ys e a)

pub put_end : (n : ℕ) (last : Option ℕ) (xs : List ℕ) → IsOnce xs → last ≡ last_of None xs → put_at last n xs ≡ xs ++ n ∷ []
put_end n None xs o e = ap (λ ys. n ∷ ys) q ∙ ap (λ ys. ys ++ n ∷ []) (sym q)
  where
    q : xs ≡ []
    q = none_last None xs (sym e)
put_end n (Some m) xs o e = put_last m n None xs o (sym e) (λ (z : None ≡ Some m). absurd (cc))
