-- Lists of names that stand once each, parted at one of them.
use Rattle.std.proofs.Common.{◌≡◌, inl, inr, ℕ, List, [], ◌∷◌, ◌++◌, refl, ap, subst, ◌∙◌, Contains}
use Rattle.slab.proofs.SlabLemmas.{Contains-cons_cases}
use Rattle.slab_laws.specs.FaceLists.{first_of, follower}
use Rattle.chain_laws.specs.Links.{without, comes_after}
use Rattle.chain_laws.proofs.Distinct.{here, there, nowhere, IsOnce, without_hit, without_miss, without_absent}
use Rattle.linked_chains.specs.Chains.{put_after}
use Rattle.linked_chains.proofs.PutAfter.{put_hit, put_miss}
use Rattle.integers.proofs.Tests.{other_number, same_number}

pub in_front_of : (n : ℕ) (xs ys : List ℕ) → Contains xs n → Contains (xs ++ ys) n
in_front_of n [] ys c = absurd (nowhere n c)
in_front_of n (x ∷ xs) ys c = elim (Contains-cons_cases x n xs c) [
  | inl e ↦ subst (λ z. Contains (x ∷ xs ++ ys) z) e (here x (xs ++ ys))
  | inr d ↦ there x n (xs ++ ys) (in_front_of n xs ys d)
]

pub behind : (n : ℕ) (xs ys : List ℕ) → Contains ys n → Contains (xs ++ ys) n
behind n [] ys c = c
behind n (x ∷ xs) ys c = there x n (xs ++ ys) (behind n xs ys c)

-- the name at which a list is parted stands in neither part
pub not_before : (n : ℕ) (xs ys : List ℕ) → IsOnce (xs ++ n ∷ ys) → ¬ Contains xs n
not_before n [] ys o c = nowhere n c
not_before n (x ∷ xs) ys o c = elim (Contains-cons_cases x n xs c) [
  | inl e ↦ o.0 (behind x xs (n ∷ ys) (subst (λ z. Contains (z ∷ ys) x) e (here x ys)))
  | inr d ↦ not_before n xs ys o.1 d
]

pub not_behind : (n : ℕ) (xs ys : List ℕ) → IsOnce (xs ++ n ∷ ys) → ¬ Contains ys n
not_behind n [] ys o = o.0
not_behind n (x ∷ xs) ys o = not_behind n xs ys o.1

pub without_split : (n : ℕ) (xs ys : List ℕ) → ¬ Contains xs n → ¬ Contains ys n → without n (xs ++ n ∷ ys) ≡ xs ++ ys
without_split n [] ys a b = without_hit n ys ∙ without_absent n ys b
without_split n (x ∷ xs) ys a b = without_miss n x (xs ++ n ∷ ys) (λ e. a (subst (λ z. Contains (x ∷ xs) z) e (here x xs))) ∙ ap (λ zs. x ∷ zs) (without_split n xs ys (λ c. a (there x n xs c)) b)

pub put_split : (m n : ℕ) (xs ys : List ℕ) → ¬ Contains xs m → put_after m n (xs ++ m ∷ ys) ≡ xs ++ m ∷ n ∷ ys
put_split m n [] ys a = put_hit m n ys
put_split m n (x ∷ xs) ys a = put_miss m n x (xs ++ m ∷ ys) (λ e. a (subst (λ z. Contains (x ∷ xs) z) e (here x xs))) ∙ ap (λ zs. x ∷ zs) (put_split m n xs ys (λ c. a (there x m xs c)))

-- what comes after it is the first of the second part
pub comes_split : (n : ℕ) (xs ys : List ℕ) → ¬ Contains xs n → comes_after (xs ++ n ∷ ys) n ≡ first_of ys
unfolding comes_after follower
comes_split n [] ys a = rw (same_number n) refl
comes_split n (x ∷ xs) ys a = rw (other_number x n (λ e. a (subst (λ z. Contains (x ∷ xs) z) e (here x xs)))) (comes_split n xs ys (λ c. a (there x n xs c)))
