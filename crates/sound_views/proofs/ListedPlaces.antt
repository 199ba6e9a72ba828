-- Places of elements in a list, by a test that tells elements apart exactly.
use Rattle.std.proofs.Common.{◌≡◌, ℕ, ◌<◌, Bool, true, false, cond, arith, refl, sym, ap, ◌∙◌, subst, inl, inr, List, [], ◌∷◌, map, length, zero, suc, Ordering, Less}
use Rattle.std.specs.Prelude.{Some, slice_get, not, filter, ⊤}
use Rattle.std.specs.List.{position_or_len}
use Rattle.std.specs.Cmp.{IsTotalOrder}
use Rattle.std.proofs.lemmas.Cmp.{tied_itself}
use Rattle.std.proofs.lemmas.Bool.{false≢true, false_from_ne_true, cases_lt, cases_Bool}
use Rattle.std.proofs.lemmas.Option.{slice_get_within}
use Rattle.plane_graphs.specs.Ascending.{IsAscending, Member as In}
use Rattle.plane_graphs.proofs.Ascending.{All-member, to_member, from_member}
use Rattle.slab_laws.specs.Listed.{distinct}
use Rattle.slab_faces.proofs.Member.{Member, member_in, in_member, filter_out, map_out, distinct_in}
use Rattle.slab_faces.proofs.ClassesLemmas.{IsExact}
use Rattle.sound_views.proofs.ListedRows.{slice_get_member}

module _ {X : Type 0} where
  pub to_in : (xs : List X) (x : X) → Member xs x → In x xs
  to_in xs x h = to_member xs x (member_in xs x h)

  pub from_in : (xs : List X) (x : X) → In x xs → Member xs x
  from_in xs x h = in_member xs x (from_member xs x h)

-- each element stands in R to all after it
module _ {X : Type 0} (R : X → X → Type 0) where
  abbrev pub Rising : List X → Type 0
  Rising [] = ⊤
  Rising (x ∷ xs) = ((y : X) → Member xs y → R x y) × Rising xs

pub rising_weaker : {X : Type 0} (R S : X → X → Type 0) (xs : List X) → ((x y : X) → Member xs x → Member xs y → R x y → S x y) → Rising R xs → Rising S xs
rising_weaker R S [] f a = tt
rising_weaker R S (x ∷ xs) f a = (λ y h. f x y (inl refl) (inr h) (a.0 y h), rising_weaker R S xs (λ x y h k. f x y (inr h) (inr k)) a.1)

pub rising_map : {X Y : Type 0} (R : X → X → Type 0) (S : Y → Y → Type 0) (f : X → Y) (xs : List X) → ((x y : X) → Member xs x → Member xs y → R x y → S (f x) (f y)) → Rising R xs → Rising S (map f xs)
rising_map R S f [] h a = tt
rising_map R S f (x ∷ xs) h a = (λ z k. let w = map_out f xs z k in subst (S (f x)) w.2 (h x w.0 (inl refl) (inr w.1) (a.0 w.0 w.1)), rising_map R S f xs (λ x y i j r. h x y (inr i) (inr j) r) a.1)

pub rising_filter : {X : Type 0} (R : X → X → Type 0) (p : X → Bool) (xs : List X) → Rising R xs → Rising R (filter p xs)
rising_filter R p [] a = tt
rising_filter {X} R p (x ∷ xs) a = step (p x) (rising_filter R p xs a.1)
  where
    step : (b : Bool) → Rising R (filter p xs) → Rising R (cond b (x ∷ filter p xs) (filter p xs))
    step true r = (λ y h. a.0 y (filter_out p xs y h).0, r)
    step false r = r

pub rising_ascending : {X : Type 0} (cmp : X → X → Ordering) (xs : List X) → IsAscending cmp xs → Rising (λ x y. cmp x y ≡ Less) xs
rising_ascending cmp [] a = tt
rising_ascending cmp (x ∷ xs) a = (λ y h. All-member (λ z. cmp x z ≡ Less) y xs a.0 (to_in xs y h), rising_ascending cmp xs a.1)

module _ {X : Type 0} (same : X → X → Bool) (o : IsExact same) where
  pub not_same : (x y : X) → (x ≡ y → ⊥) → same x y ≡ false
  not_same x y f = false_from_ne_true (same x y) (λ e. f (o.path x y e))

  rest : (x z : X) (zs : List X) → same x z ≡ false → Member (z ∷ zs) x → Member zs x
  rest x z zs e (inl a) = absurd (false≢true (sym e ∙ subst (λ w. same w z ≡ true) a (o.itself z)))
  rest x z zs e (inr h) = h

  first_place : (x z : X) (zs : List X) → same x z ≡ true → position_or_len (same x) (z ∷ zs) ≡ 0
  first_place x z zs e = rw e refl

  next_place : (x z : X) (zs : List X) → same x z ≡ false → position_or_len (same x) (z ∷ zs) ≡ suc (position_or_len (same x) zs)
  next_place x z zs e = rw e (omega arith)

  -- the element at the place of x is x
  pub at_place : (xs : List X) (x : X) → Member xs x → slice_get xs (position_or_len (same x) xs) ≡ Some x
  at_place [] x h = absurd h
  at_place (z ∷ zs) x h =
      elim (cases_Bool (same x z)) [
        | inl e ↦ rw (first_place x z zs e) (ap Some (sym (o.path x z e)))
        | inr e ↦ rw (next_place x z zs e) (at_place zs x (rest x z zs e h))
      ]

  pub place_within : (xs : List X) (x : X) → Member xs x → position_or_len (same x) xs < length xs
  place_within xs x h = slice_get_within xs _ x (at_place xs x h)

  pub one_place : (xs : List X) (x y : X) → Member xs x → Member xs y → position_or_len (same x) xs ≡ position_or_len (same y) xs → x ≡ y
  one_place xs x y h k e = let a = at_place xs x h in let b = at_place xs y k in let c = ap (slice_get xs) e in cc

  -- ---- where each element stands once, its place is where it stands
  abbrev pub Apart : List X → Type 0
  Apart xs = Rising (λ x y. x ≡ y → ⊥) xs

  pub place_at : (xs : List X) (k : ℕ) (x : X) → Apart xs → slice_get xs k ≡ Some x → position_or_len (same x) xs ≡ k
  place_at [] k x a h = absurd (cc)
  place_at (z ∷ zs) zero x a h = first_place x z zs (let e : z ≡ x = cc in subst (λ w. same w z ≡ true) e (o.itself z))
  place_at (z ∷ zs) (suc k) x a h = next_place x z zs (not_same x z (λ e. a.0 x (slice_get_member zs k x h) (sym e))) ∙ ap suc (place_at zs k x a.1 h)

  pub apart_ascending : (cmp : X → X → Ordering) → IsTotalOrder cmp → (xs : List X) → IsAscending cmp xs → Apart xs
  apart_ascending cmp t xs a = rising_weaker (λ x y. cmp x y ≡ Less) (λ x y. x ≡ y → ⊥) xs (λ x y h k l e. let i = tied_itself t x in let l' : cmp x x ≡ Less = subst (λ z. cmp x z ≡ Less) (sym e) l in cc) (rising_ascending cmp xs a)

  -- ---- the order of places
  pub in_order : (R : X → X → Type 0) (xs : List X) (x y : X) → Rising R xs → Member xs x → Member xs y → position_or_len (same x) xs < position_or_len (same y) xs → R x y
  in_order R [] x y a h k l = absurd h
  in_order R (z ∷ zs) x y a h k l =
      elim (cases_Bool (same y z)) [
        | inl e ↦ let p = first_place y z zs e in absurd (omega arith)
        | inr e ↦ elim (cases_Bool (same x z)) [
          | inl f ↦ subst (λ w. R w y) (sym (o.path x z f)) (a.0 y (rest y z zs e k))
          | inr f ↦ let p = next_place y z zs e in let q = next_place x z zs f in in_order R zs x y a.1 (rest x z zs f h) (rest y z zs e k) (omega arith)
        ]
      ]

  pub place_order : (R : X → X → Type 0) → ((x y : X) → R x y → R y x → ⊥) → (xs : List X) (x y : X) → Rising R xs → Member xs x → Member xs y → R x y → position_or_len (same x) xs < position_or_len (same y) xs
  place_order R asym xs x y a h k r =
      elim (cases_lt (position_or_len (same x) xs) (position_or_len (same y) xs)) [
        | inl l ↦ l
        | inr l ↦ elim (cases_lt (position_or_len (same y) xs) (position_or_len (same x) xs)) [
          | inl m ↦ absurd (asym x y r (in_order R xs y x a k h m))
          | inr m ↦ let e : x ≡ y = one_place xs x y h k (omega arith) in absurd (asym x y r (subst (λ w. R w x) e (subst (R x) (sym e) r)))
        ]
      ]

  pub distinct_there : (xs : List X) (x : X) → Member xs x → Member (distinct same xs) x
  distinct_there xs x h =
      let r = distinct_in same xs (λ x _. o.itself x) (λ x y z _ _ _ a b. subst (λ w. same x w ≡ true) (o.path y z b) a) x h in
      subst (Member (distinct same xs)) (o.path r.0 x r.2) r.1

  pub distinct_apart : (xs : List X) → Apart (distinct same xs)
  unfolding distinct
  distinct_apart [] = tt
  distinct_apart (x ∷ xs) = (λ y h e. false≢true (sym (ap not (subst (λ w. same x w ≡ true) e (o.itself x))) ∙ (filter_out (λ y. not (same x y)) (distinct same xs) y h).1), rising_filter (λ x y. x ≡ y → ⊥) (λ y. not (same x y)) (distinct same xs) (distinct_apart xs))
