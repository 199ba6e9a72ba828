-- What `place` and `ascending` give, and ascending lists.
use Rattle.std.proofs.Common.{arith, Contains, zero, suc, ◌≡◌, List, [], ◌∷◌, map, refl, sym, ap, ◌∙◌, subst, inl, inr, ◌⊎◌, ⊎_elim, Ordering, Less, Equal, Greater, ap₂}
use Rattle.std.specs.Cmp.{IsTotalOrder}
use Rattle.std.specs.List.Sorted.{IsStrictlySortedBy}
use Rattle.std.specs.List.{AllByRecursion}
use Rattle.std.specs.Ordering.{match_ordering, ordering_reverse}
use Rattle.std.proofs.lemmas.Cmp.{tied_itself}
use Rattle.plane_graphs.specs.Ascending.{place, ascending, Member, IsAscending}

module _ {X : Type 0} where
  pub All-member : (P : X → Type 0) (x : X) (ys : List X) → AllByRecursion P ys → Member x ys → P x
  All-member P x [] h m = absurd m
  All-member P x (y ∷ ys) h (inl e) = subst P (sym e) h.0
  All-member P x (y ∷ ys) h (inr m) = All-member P x ys h.1 m

-- an order by which no two come one before the other both ways
module _ {X : Type 0} (cmp : X → X → Ordering) (one_way : (x y : X) → cmp x y ≡ Less → cmp y x ≡ Less → ⊥) where
  heads : (x y : X) (xs ys : List X) → IsAscending cmp (x ∷ xs) → IsAscending cmp (y ∷ ys) → Member x (y ∷ ys) → Member y (x ∷ xs) → x ≡ y
  heads x y xs ys a b (inl e) n = e
  heads x y xs ys a b (inr m) (inl f) = sym f
  heads x y xs ys a b (inr m) (inr n) = absurd (one_way x y (All-member (λ z. cmp x z ≡ Less) y xs a.0 n) (All-member (λ z. cmp y z ≡ Less) x ys b.0 m))

  tail_in : (x y : X) (xs ys : List X) → x ≡ y → IsAscending cmp (x ∷ xs) → ((z : X) → Member z (x ∷ xs) → Member z (y ∷ ys)) → (z : X) → Member z xs → Member z ys
  tail_in x y xs ys e a f z m = elim (f z (inr m)) [
    | inl g ↦ (let h : cmp x x ≡ Less = subst (λ w. cmp x w ≡ Less) (g ∙ sym e) (All-member (λ z. cmp x z ≡ Less) z xs a.0 m) in absurd (one_way x x h h))
    | inr n ↦ n
  ]

  -- two ascending lists with the same members are one
  pub only_list : (xs ys : List X) → IsAscending cmp xs → IsAscending cmp ys → ((z : X) → Member z xs → Member z ys) → ((z : X) → Member z ys → Member z xs) → xs ≡ ys
  only_list [] [] a b f g = refl
  only_list [] (y ∷ ys) a b f g = absurd (g y (inl refl))
  only_list (x ∷ xs) [] a b f g = absurd (f x (inl refl))
  only_list (x ∷ xs) (y ∷ ys) a b f g =
      let e = heads x y xs ys a b (f x (inl refl)) (g y (inl refl)) in
      ap₂ (λ z zs. z ∷ zs) e (only_list xs ys a.1 b.1 (tail_in x y xs ys e a f) (tail_in y x ys xs (sym e) b g))

module _ {X : Type 0} (cmp : X → X → Ordering) (o : IsTotalOrder cmp) where
  above_all : (x y : X) (ys : List X) → cmp x y ≡ Less → AllByRecursion (λ z. cmp y z ≡ Less) ys → AllByRecursion (λ z. cmp x z ≡ Less) ys
  above_all x y [] h a = tt
  above_all x y (z ∷ zs) h a = (o.trans x y z h a.0, above_all x y zs h a.1)

  reversed : (x y : X) → cmp x y ≡ Greater → cmp y x ≡ Less
  reversed x y e = o.antisymm y x ∙ ap ordering_reverse e

  All-placed : (P : X → Type 0) (x : X) (t : Ordering) (y : X) (ys zs : List X) → P x → P y → AllByRecursion P ys → AllByRecursion P zs → AllByRecursion P (match_ordering t (x ∷ y ∷ ys) (y ∷ ys) (y ∷ zs))
  All-placed P x Less y ys zs p q r s = (p, (q, r))
  All-placed P x Equal y ys zs p q r s = (q, r)
  All-placed P x Greater y ys zs p q r s = (q, s)

  All-place : (P : X → Type 0) (x : X) (ys : List X) → P x → AllByRecursion P ys → AllByRecursion P (place cmp x ys)
  unfolding place
  All-place P x [] p a = (p, tt)
  All-place P x (y ∷ ys) p a = All-placed P x (cmp x y) y ys (place cmp x ys) p a.0 a.1 (All-place P x ys p a.1)

  ascends : (x : X) (t : Ordering) (y : X) (ys zs : List X) → cmp x y ≡ t → IsAscending cmp (y ∷ ys) → IsAscending cmp zs → (cmp x y ≡ Greater → AllByRecursion (λ z. cmp y z ≡ Less) zs) → IsAscending cmp (match_ordering t (x ∷ y ∷ ys) (y ∷ ys) (y ∷ zs))
  ascends x Less y ys zs e a b c = ((e, above_all x y ys e a.0), a)
  ascends x Equal y ys zs e a b c = a
  ascends x Greater y ys zs e a b c = (c e, b)

  pub IsAscending-place : (x : X) (ys : List X) → IsAscending cmp ys → IsAscending cmp (place cmp x ys)
  unfolding place
  IsAscending-place x [] a = (tt, tt)
  IsAscending-place x (y ∷ ys) a = ascends x (cmp x y) y ys (place cmp x ys) refl a (IsAscending-place x ys a.1) (λ e. All-place (λ z. cmp y z ≡ Less) x ys (reversed x y e) a.0)

  pub IsAscending-ascending : (xs : List X) → IsAscending cmp (ascending cmp xs)
  unfolding ascending
  IsAscending-ascending [] = tt
  IsAscending-ascending (x ∷ xs) = IsAscending-place x (ascending cmp xs) (IsAscending-ascending xs)

  -- an ascending list is told by its elements
  not_itself : (x : X) → cmp x x ≡ Less → ⊥
  not_itself x e = let t = tied_itself o x in cc

  not_both : (x y : X) → cmp x y ≡ Less → cmp y x ≡ Less → ⊥
  not_both x y a b = not_itself x (o.trans x y x a b)

  pub ascending_unique : (xs ys : List X) → IsAscending cmp xs → IsAscending cmp ys → ((x : X) → Member x xs → Member x ys) → ((x : X) → Member x ys → Member x xs) → xs ≡ ys
  ascending_unique xs ys a b f g = only_list cmp not_both xs ys a b f g

  -- the elements are those that were given
  Member-placed : (z x : X) (t : Ordering) (y : X) (ys zs : List X) → (Member z zs → (z ≡ x) ⊎ Member z ys) → Member z (match_ordering t (x ∷ y ∷ ys) (y ∷ ys) (y ∷ zs)) → (z ≡ x) ⊎ Member z (y ∷ ys)
  Member-placed z x Less y ys zs f m = m
  Member-placed z x Equal y ys zs f m = inr m
  Member-placed z x Greater y ys zs f (inl e) = inr (inl e)
  Member-placed z x Greater y ys zs f (inr m) = ⊎_elim (λ e. inl e) (λ k. inr (inr k)) (f m)

  pub Member-place : (z x : X) (ys : List X) → Member z (place cmp x ys) → (z ≡ x) ⊎ Member z ys
  unfolding place
  Member-place z x [] m = m
  Member-place z x (y ∷ ys) m = Member-placed z x (cmp x y) y ys (place cmp x ys) (Member-place z x ys) m

  pub Member-ascending : (z : X) (xs : List X) → Member z (ascending cmp xs) → Member z xs
  unfolding ascending
  Member-ascending z [] m = m
  Member-ascending z (x ∷ xs) m = ⊎_elim (λ e. inl e) (λ k. inr (Member-ascending z xs k)) (Member-place z x (ascending cmp xs) m)

  -- x has an element that the order does not tell from it
  abbrev pub Tied : X → List X → Type 0
  Tied x [] = ⊥
  Tied x (y ∷ ys) = (cmp x y ≡ Equal) ⊎ Tied x ys

  tied_placed : (x : X) (t : Ordering) (y : X) (ys zs : List X) → cmp x y ≡ t → Tied x zs → Tied x (match_ordering t (x ∷ y ∷ ys) (y ∷ ys) (y ∷ zs))
  tied_placed x Less y ys zs e m = inl (tied_itself o x)
  tied_placed x Equal y ys zs e m = inl e
  tied_placed x Greater y ys zs e m = inr m

  tied_place : (x : X) (ys : List X) → Tied x (place cmp x ys)
  unfolding place
  tied_place x [] = inl (tied_itself o x)
  tied_place x (y ∷ ys) = tied_placed x (cmp x y) y ys (place cmp x ys) refl (tied_place x ys)

  tied_kept : (z x : X) (t : Ordering) (y : X) (ys zs : List X) → (Tied z ys → Tied z zs) → Tied z (y ∷ ys) → Tied z (match_ordering t (x ∷ y ∷ ys) (y ∷ ys) (y ∷ zs))
  tied_kept z x Less y ys zs f m = inr m
  tied_kept z x Equal y ys zs f m = m
  tied_kept z x Greater y ys zs f (inl e) = inl e
  tied_kept z x Greater y ys zs f (inr m) = inr (f m)

  tied_keeps : (z x : X) (ys : List X) → Tied z ys → Tied z (place cmp x ys)
  unfolding place
  tied_keeps z x [] m = absurd m
  tied_keeps z x (y ∷ ys) m = tied_kept z x (cmp x y) y ys (place cmp x ys) (tied_keeps z x ys) m

  pub Tied-ascending : (z : X) (xs : List X) → Member z xs → Tied z (ascending cmp xs)
  unfolding ascending
  Tied-ascending z [] m = absurd m
  Tied-ascending z (x ∷ xs) (inl e) = subst (λ k. Tied k (place cmp x (ascending cmp xs))) (sym e) (tied_place x (ascending cmp xs))
  Tied-ascending z (x ∷ xs) (inr m) = tied_keeps z x (ascending cmp xs) (Tied-ascending z xs m)

  -- the order tells the elements of the list apart
  abbrev pub IsExactOn : List X → Type 0
  IsExactOn xs = (x y : X) → Member x xs → Member y xs → cmp x y ≡ Equal → x ≡ y

  from_tied : (z : X) (xs ys : List X) → IsExactOn xs → Member z xs → ((y : X) → Member y ys → Member y xs) → Tied z ys → Member z ys
  from_tied z xs [] h m f t = absurd t
  from_tied z xs (y ∷ ys) h m f (inl e) = inl (h z y m (f y (inl refl)) e)
  from_tied z xs (y ∷ ys) h m f (inr t) = inr (from_tied z xs ys h m (λ k n. f k (inr n)) t)

  pub ascending-Member : (z : X) (xs : List X) → IsExactOn xs → Member z xs → Member z (ascending cmp xs)
  ascending-Member z xs h m = from_tied z xs (ascending cmp xs) h m (λ y n. Member-ascending y xs n) (Tied-ascending z xs m)

  -- what is ascending and has the same elements is `ascending`
  pub ascending_is : (xs ys : List X) → IsExactOn xs → IsAscending cmp ys → ((x : X) → Member x ys → Member x xs) → ((x : X) → Member x xs → Member x ys) → ys ≡ ascending cmp xs
  ascending_is xs ys h a f g = ascending_unique ys (ascending cmp xs) a (IsAscending-ascending xs) (λ z m. ascending-Member z xs h (f z m)) (λ z m. g z (Member-ascending z xs m))

-- ---- beside std's words
module _ {X : Type 0} where
  pub to_member : (xs : List X) (x : X) → Contains xs x → Member x xs
  to_member [] x c = absurd (omega (arith, c.1))
  to_member (y ∷ ys) x (zero, h, e) = inl (sym e)
  to_member (y ∷ ys) x (suc k, h, e) = inr (to_member ys x (k, omega arith, e))

  pub from_member : (xs : List X) (x : X) → Member x xs → Contains xs x
  from_member [] x m = absurd m
  from_member (y ∷ ys) x (inl e) = (0, omega arith, sym e)
  from_member (y ∷ ys) x (inr m) = let c : Contains ys x = from_member ys x m in (suc c.0, omega (arith, c.1), c.2)

  pub from_std : (cmp : X → X → Ordering) (xs : List X) → IsStrictlySortedBy cmp xs → IsAscending cmp xs
  unfolding IsStrictlySortedBy
  from_std cmp [] h = tt
  from_std cmp (x ∷ xs) h = (h.0, from_std cmp xs h.1)

  pub to_std : (cmp : X → X → Ordering) (xs : List X) → IsAscending cmp xs → IsStrictlySortedBy cmp xs
  unfolding IsStrictlySortedBy
  to_std cmp [] a = tt
  to_std cmp (x ∷ xs) a = (a.0, to_std cmp xs a.1)

  pub place_none : (cmp : X → X → Ordering) (x : X) → place cmp x [] ≡ x ∷ []
  unfolding place
  place_none cmp x = refl

-- the images of an ascending list ascend where the map keeps the order of its elements
module _ {X Y : Type 0} (cmp : X → X → Ordering) (cmp' : Y → Y → Ordering) (f : X → Y) where
  All-map : (x : X) (xs : List X) → ((y : X) → Member y xs → cmp x y ≡ Less → cmp' (f x) (f y) ≡ Less) → AllByRecursion (λ y. cmp x y ≡ Less) xs → AllByRecursion (λ z. cmp' (f x) z ≡ Less) (map f xs)
  All-map x [] h a = tt
  All-map x (y ∷ ys) h a = (h y (inl refl) a.0, All-map x ys (λ z m. h z (inr m)) a.1)

  pub IsAscending-map : (xs : List X) → ((x y : X) → Member x xs → Member y xs → cmp x y ≡ Less → cmp' (f x) (f y) ≡ Less) → IsAscending cmp xs → IsAscending cmp' (map f xs)
  IsAscending-map [] h a = tt
  IsAscending-map (x ∷ xs) h a = (All-map x xs (λ y m. h x y (inl refl) (inr m)) a.0, IsAscending-map xs (λ y z m n. h y z (inr m) (inr n)) a.1)
