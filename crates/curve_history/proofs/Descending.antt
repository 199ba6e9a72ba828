-- Numbers from the greatest to the least: what keeps their order, and that turned round they ascend.
use Rattle.std.proofs.Common.{◌≡◌, ◌≢◌, ◌⊎◌, ⊎_elim, inl, inr, ℕ, ◌<◌, cond, Bool, true, false, List, [], ◌∷◌, ◌++◌, map, reverse, Option, Some, None, refl, sym, ap, subst, ◌∙◌, Less, arith}
use Rattle.std.specs.List.{filter, AllByRecursion}
use Rattle.std.specs.Ordering.{nat_cmp}
use Rattle.std.proofs.lemmas.Bool.{cases_eq, eq-eqb}
use Rattle.std.proofs.lemmas.List.{map-append, reverse-append}
use Rattle.plane_graphs.specs.Ascending.{Member, IsAscending}
use Rattle.plane_graphs.proofs.Ascending.{All-member}
use Rattle.plane_graphs.proofs.Lists.{in_map, in_left, in_right, in_either}
use Rattle.slab_laws.specs.FaceLists.{first_of, follower}
use Rattle.chain_laws.specs.Links.{comes_after}
use Rattle.linked_chains.specs.Chains.{put_after, put_at}
use Rattle.linked_chains.proofs.PutAfter.{put_hit, put_miss, put_nowhere, hit_is}
use Rattle.curve_history.specs.Changed.{next_in}
use Rattle.curve_history.specs.HistoryInMemory.{IsDescending}
use Rattle.integers.proofs.Tests.{nat_less, other_number}

abbrev AllBelow : ℕ → List ℕ → Type 0
AllBelow b xs = AllByRecursion (λ y. y < b) xs

lower : (b y : ℕ) (ys : List ℕ) → y < b → AllBelow y ys → AllBelow b ys
lower b y [] h a = tt
lower b y (z ∷ zs) h a = (omega (arith, a.0), lower b y zs h a.1)

-- ---- fewer numbers
module _ (f : ℕ → ℕ) (p : ℕ → Bool) where
  below_filter : (b : ℕ) (xs : List ℕ) → AllBelow b (map f xs) → AllBelow b (map f (filter p xs))
  below_filter b [] a = tt
  below_filter b (x ∷ xs) a = step (p x) (below_filter b xs a.1)
    where
      step : (t : Bool) → AllBelow b (map f (filter p xs)) → AllBelow b (map f (cond t (x ∷ filter p xs) (filter p xs)))
      step true h = (a.0, h)
      step false h = h

  pub descends_filter : (xs : List ℕ) → IsDescending (map f xs) → IsDescending (map f (filter p xs))
  descends_filter [] d = tt
  descends_filter (x ∷ xs) d = step (p x) (below_filter (f x) xs d.0) (descends_filter xs d.1)
    where
      step : (t : Bool) → AllBelow (f x) (map f (filter p xs)) → IsDescending (map f (filter p xs)) → IsDescending (map f (cond t (x ∷ filter p xs) (filter p xs)))
      step true h k = (h, k)
      step false h k = k

-- ---- a number more, in its place
comes_hit : (x m : ℕ) (xs : List ℕ) → x ≡ m → comes_after (x ∷ xs) m ≡ first_of xs
unfolding comes_after follower
comes_hit x m xs q = rw (eq-eqb x m q) refl

comes_miss : (x m : ℕ) (xs : List ℕ) → x ≢ m → comes_after (x ∷ xs) m ≡ comes_after xs m
unfolding comes_after follower
comes_miss x m xs h = rw (other_number x m h) refl

module _ (f : ℕ → ℕ) where
  -- where the first is below a bound, all are
  below_first : (b : ℕ) (xs : List ℕ) → ((y : ℕ) → first_of xs ≡ Some y → f y < b) → IsDescending (map f xs) → AllBelow b (map f xs)
  below_first b [] h d = tt
  below_first b (x ∷ xs) h d = (h x refl, lower b (f x) (map f xs) (h x refl) d.0)

  below_put : (m n b : ℕ) (xs : List ℕ) → f n < b → AllBelow b (map f xs) → AllBelow b (map f (put_after m n xs))
  below_put m n b [] h a = subst (λ ys. AllBelow b (map f ys)) (sym (put_nowhere m n)) tt
  below_put m n b (x ∷ xs) h a = elim (cases_eq x m) [
    | inl q ↦ subst (λ ys. AllBelow b (map f ys)) (sym (hit_is m n x xs q)) (a.0, (h, a.1))
    | inr ne ↦ subst (λ ys. AllBelow b (map f ys)) (sym (put_miss m n x xs ne)) (a.0, below_put m n b xs h a.1)
  ]

  descends_put : (m n : ℕ) (xs : List ℕ) → Member m xs → f n < f m → ((y : ℕ) → comes_after xs m ≡ Some y → f y < f n) → IsDescending (map f xs) → IsDescending (map f (put_after m n xs))
  descends_put m n [] i h g d = absurd i
  descends_put m n (x ∷ xs) i h g d = elim (cases_eq x m) [
    | inl q ↦
        let k : f n < f x = subst (λ z. f n < f z) (sym q) h in
        let b : AllBelow (f n) (map f xs) = below_first (f n) xs (λ y e. g y (comes_hit x m xs q ∙ e)) d.1 in
        subst (λ ys. IsDescending (map f ys)) (sym (hit_is m n x xs q)) ((k, d.0), (b, d.1))
    | inr ne ↦
        let j : Member m xs = beyond i ne in
        let k : f m < f x = All-member (λ y. y < f x) (f m) (map f xs) d.0 (in_map f m xs j) in
        subst (λ ys. IsDescending (map f ys)) (sym (put_miss m n x xs ne)) (below_put m n (f x) xs (omega arith) d.0, descends_put m n xs j h (λ y e. g y (comes_miss x m xs ne ∙ e)) d.1)
  ]
    where
      beyond : (m ≡ x) ⊎ Member m xs → x ≢ m → Member m xs
      beyond (inl e) ne = absurd (ne (sym e))
      beyond (inr k) ne = k

  pub descends_at : (last : Option ℕ) (n : ℕ) (xs : List ℕ) → ((m : ℕ) → last ≡ Some m → Member m xs × (f n < f m)) → ((y : ℕ) → next_in xs last ≡ Some y → f y < f n) → IsDescending (map f xs) → IsDescending (map f (put_at last n xs))
  descends_at None n xs a b d = (below_first (f n) xs b d, d)
  descends_at (Some m) n xs a b d = let h = a m refl in descends_put m n xs h.0 h.1 b d

-- ---- a list grows at its end
-- the last of the list is the one that there may be, which stands once
abbrev pub EndsIn : List ℕ → Option ℕ → Type 0
EndsIn xs None = xs ≡ []
EndsIn xs (Some m) = (ys : List ℕ) × (xs ≡ ys ++ m ∷ []) × (Member m ys → ⊥)

pub end_member : (xs : List ℕ) (last : Option ℕ) (m : ℕ) → EndsIn xs last → last ≡ Some m → Member m xs
end_member xs None m h e = absurd cc
end_member xs (Some l) m h e = let q : l ≡ m = cc in subst (λ zs. Member m zs) (sym h.1) (in_right m h.0 (l ∷ []) (inl (sym q)))

put_last : (m n : ℕ) (ys : List ℕ) → (Member m ys → ⊥) → put_after m n (ys ++ m ∷ []) ≡ (ys ++ m ∷ []) ++ n ∷ []
put_last m n [] h = put_hit m n []
put_last m n (y ∷ ys) h = put_miss m n y (ys ++ m ∷ []) (λ e. h (inl (sym e))) ∙ ap (λ zs. y ∷ zs) (put_last m n ys (λ i. h (inr i)))

pub put_end : (xs : List ℕ) (last : Option ℕ) (n : ℕ) → EndsIn xs last → put_at last n xs ≡ xs ++ n ∷ []
put_end xs None n h = subst (λ zs. n ∷ zs ≡ zs ++ n ∷ []) (sym h) refl
put_end xs (Some m) n h = subst (λ zs. put_after m n zs ≡ zs ++ n ∷ []) (sym h.1) (put_last m n h.0 h.2)

-- ---- turned round
turned : {X : Type 0} (x : X) (xs : List X) → reverse (x ∷ xs) ≡ reverse xs ++ x ∷ []
turned x xs = reverse-append (x ∷ []) xs

pub map_reverse : {X Y : Type 0} (f : X → Y) (xs : List X) → map f (reverse xs) ≡ reverse (map f xs)
map_reverse f [] = refl
map_reverse f (x ∷ xs) = ap (map f) (turned x xs) ∙ map-append f (reverse xs) (x ∷ []) ∙ ap (λ ys. ys ++ f x ∷ []) (map_reverse f xs) ∙ sym (turned (f x) (map f xs))

pub of_reverse : (n : ℕ) (xs : List ℕ) → Member n (reverse xs) → Member n xs
of_reverse n [] m = m
of_reverse n (x ∷ xs) m = ⊎_elim (λ i. inr (of_reverse n xs i)) last (in_either n (reverse xs) (x ∷ []) (subst (Member n) (turned x xs) m))
  where
    last : Member n (x ∷ []) → (n ≡ x) ⊎ Member n xs
    last (inl e) = inl e
    last (inr i) = absurd i

pub in_reverse : (n : ℕ) (xs : List ℕ) → Member n xs → Member n (reverse xs)
in_reverse n [] m = m
in_reverse n (x ∷ xs) (inl e) = subst (Member n) (sym (turned x xs)) (in_right n (reverse xs) (x ∷ []) (inl e))
in_reverse n (x ∷ xs) (inr m) = subst (Member n) (sym (turned x xs)) (in_left n (reverse xs) (x ∷ []) (in_reverse n xs m))

-- a greater number at the end
all_snoc : (x : ℕ) (xs : List ℕ) (n : ℕ) → AllByRecursion (λ y. nat_cmp x y ≡ Less) xs → nat_cmp x n ≡ Less → AllByRecursion (λ y. nat_cmp x y ≡ Less) (xs ++ n ∷ [])
all_snoc x [] n a h = (h, tt)
all_snoc x (y ∷ ys) n a h = (a.0, all_snoc x ys n a.1 h)

pub ascends_snoc : (xs : List ℕ) (n : ℕ) → IsAscending nat_cmp xs → ((x : ℕ) → Member x xs → x < n) → IsAscending nat_cmp (xs ++ n ∷ [])
ascends_snoc [] n a f = (tt, tt)
ascends_snoc (x ∷ xs) n a f = (all_snoc x xs n a.0 (nat_less x n (f x (inl refl))), ascends_snoc xs n a.1 (λ y m. f y (inr m)))

pub ascends_reverse : (xs : List ℕ) → IsDescending xs → IsAscending nat_cmp (reverse xs)
ascends_reverse [] d = tt
ascends_reverse (x ∷ xs) d = subst (IsAscending nat_cmp) (sym (turned x xs)) (ascends_snoc (reverse xs) x (ascends_reverse xs d.1) (λ y m. All-member (λ z. z < x) y xs d.0 (of_reverse y xs m)))
