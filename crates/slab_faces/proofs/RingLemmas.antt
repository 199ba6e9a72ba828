-- Sorting by a strict order of the elements of one list, and what follows an element in the round that comes of it.
use Rattle.std.proofs.Common.{◌≡◌, Bool, true, false, cond, refl, sym, ap, subst, ◌∙◌, ◌⊎◌, inl, inr, List, [], ◌∷◌, Ordering, Less, Equal, Greater}
use Rattle.std.specs.Prelude.{⊤}
use Rattle.std.specs.Ordering.{match_ordering}
use Rattle.std.proofs.lemmas.Bool.{cases_Bool}
use Rattle.plane_graphs.specs.Ascending.{place, ascending}
use Rattle.slab_faces.proofs.Member.{Member}

-- `early` is a strict total order of the elements that P holds of
pub record IsRound {X : Type 0} (early : X → X → Bool) (P : X → Type 0) : Type 0 where
  pub itself : (x : X) → P x → early x x ≡ true → ⊥
  pub asym : (x y : X) → P x → P y → early x y ≡ true → early y x ≡ true → ⊥
  pub on : (x y z : X) → P x → P y → P z → early x y ≡ true → early y z ≡ true → early x z ≡ true
  pub total : (x y : X) → P x → P y → early x y ≡ false → early y x ≡ false → x ≡ y

module _ {X : Type 0} (early : X → X → Bool) (P : X → Type 0) (o : IsRound early P) where
  abbrev pub order : X → X → Ordering
  order x y = cond (early x y) Less (cond (early y x) Greater Equal)

  abbrev pub AllIn : List X → Type 0
  AllIn xs = (x : X) → Member xs x → P x

  abbrev pub Sorted : List X → Type 0
  Sorted [] = ⊤
  Sorted (x ∷ xs) = ((y : X) → Member xs y → early x y ≡ true) × Sorted xs

  -- the three cases of an order
  pub by_order : {Y : Type 0} (x y : X) → (early x y ≡ true → order x y ≡ Less → Y) → (early y x ≡ true → order x y ≡ Greater → Y) → (early x y ≡ false → early y x ≡ false → order x y ≡ Equal → Y) → P x → P y → Y
  by_order {Y} x y less greater equal p q = go (early x y) (early y x) refl refl
    where
      go : (b c : Bool) → early x y ≡ b → early y x ≡ c → Y
      go true c e f = less e (ap (λ b. cond b Less (cond (early y x) Greater Equal)) e)
      go false true e f = greater f (ap (λ b. cond b Less (cond (early y x) Greater Equal)) e ∙ ap (λ b. cond b Greater Equal) f)
      go false false e f = equal e f (ap (λ b. cond b Less (cond (early y x) Greater Equal)) e ∙ ap (λ b. cond b Greater Equal) f)

  placed : (x y : X) (ys : List X) (t : Ordering) → order x y ≡ t → place order x (y ∷ ys) ≡ match_ordering t (x ∷ y ∷ ys) (y ∷ ys) (y ∷ place order x ys)
  unfolding place
  placed x y ys t e = ap (λ t. match_ordering t (x ∷ y ∷ ys) (y ∷ ys) (y ∷ place order x ys)) e

  -- ---- the elements
  pub place_out : (x : X) (ys : List X) → P x → AllIn ys → (z : X) → Member (place order x ys) z → (x ≡ z) ⊎ Member ys z
  unfolding place
  place_out x [] p q z (inl e) = inl e
  place_out x [] p q z (inr h) = absurd h
  place_out x (y ∷ ys) p q z h =
      by_order x y
      (λ a b. elim (subst (λ zs. Member zs z) (placed x y ys Less b) h) [ inl e ↦ inl e | inr k ↦ inr k ])
      (λ a b. elim (subst (λ zs. Member zs z) (placed x y ys Greater b) h) [ inl e ↦ inr (inl e) | inr k ↦ elim (place_out x ys p (λ z m. q z (inr m)) z k) [ inl e ↦ inl e | inr m ↦ inr (inr m) ] ])
      (λ a a' b. inr (subst (λ zs. Member zs z) (placed x y ys Equal b) h))
      p (q y (inl refl))

  pub place_in : (x : X) (ys : List X) → P x → AllIn ys → (z : X) → (x ≡ z) ⊎ Member ys z → Member (place order x ys) z
  unfolding place
  place_in x [] p q z (inl e) = inl e
  place_in x [] p q z (inr h) = absurd h
  place_in x (y ∷ ys) p q z h =
      by_order x y
      (λ a b. subst (λ zs. Member zs z) (sym (placed x y ys Less b)) h)
      (λ a b. subst (λ zs. Member zs z) (sym (placed x y ys Greater b)) (elim h [ inl e ↦ inr (place_in x ys p (λ z m. q z (inr m)) z (inl e)) | inr k ↦ elim k [ inl e ↦ inl e | inr m ↦ inr (place_in x ys p (λ z m. q z (inr m)) z (inr m)) ] ]))
      (λ a a' b. subst (λ zs. Member zs z) (sym (placed x y ys Equal b)) (elim h [ inl e ↦ inl (sym (o.total x y p (q y (inl refl)) a a') ∙ e) | inr k ↦ k ]))
      p (q y (inl refl))

  pub place_sorted : (x : X) (ys : List X) → P x → AllIn ys → Sorted ys → Sorted (place order x ys)
  unfolding place
  place_sorted x [] p q s = (λ y h. absurd h, tt)
  place_sorted x (y ∷ ys) p q s =
      let Q = q y (inl refl) in
      by_order x y
      (λ a b. subst Sorted (sym (placed x y ys Less b)) (λ z h. elim h [ inl e ↦ subst (λ w. early x w ≡ true) e a | inr m ↦ o.on x y z p Q (q z (inr m)) a (s.0 z m) ], s))
      (λ a b. subst Sorted (sym (placed x y ys Greater b)) (λ z h. elim (place_out x ys p (λ z m. q z (inr m)) z h) [ inl e ↦ subst (λ w. early y w ≡ true) e a | inr m ↦ s.0 z m ], place_sorted x ys p (λ z m. q z (inr m)) s.1))
      (λ a a' b. subst Sorted (sym (placed x y ys Equal b)) s)
      p Q

  pub sorted_out : (xs : List X) → AllIn xs → (z : X) → Member (ascending order xs) z → Member xs z
  unfolding ascending
  sorted_out [] q z h = absurd h
  sorted_out (x ∷ xs) q z h =
      let r : AllIn xs = λ z m. q z (inr m) in
      elim (place_out x (ascending order xs) (q x (inl refl)) (λ z m. r z (sorted_out xs r z m)) z h) [ inl e ↦ inl e | inr m ↦ inr (sorted_out xs r z m) ]

  pub sorted_in : (xs : List X) → AllIn xs → (z : X) → Member xs z → Member (ascending order xs) z
  unfolding ascending
  sorted_in [] q z h = absurd h
  sorted_in (x ∷ xs) q z h =
      let r : AllIn xs = λ z m. q z (inr m) in
      place_in x (ascending order xs) (q x (inl refl)) (λ z m. r z (sorted_out xs r z m)) z (elim h [ inl e ↦ inl e | inr m ↦ inr (sorted_in xs r z m) ])

  pub is_sorted : (xs : List X) → AllIn xs → Sorted (ascending order xs)
  unfolding ascending
  is_sorted [] q = tt
  is_sorted (x ∷ xs) q =
      let r : AllIn xs = λ z m. q z (inr m) in
      place_sorted x (ascending order xs) (q x (inl refl)) (λ z m. r z (sorted_out xs r z m)) (is_sorted xs r)

  -- ---- what follows d in a sorted list: the first later one, or else nothing is later
  pub record IsNext (xs : List X) (d e : X) : Type 0 where
    pub in' : Member xs e
    pub later : early d e ≡ true
    pub none : (c : X) → Member xs c → early d c ≡ true → early c e ≡ true → ⊥

  abbrev pub IsLast : List X → X → Type 0
  IsLast xs d = (c : X) → Member xs c → early d c ≡ true → ⊥

  pub first_is : (x : X) (xs : List X) → AllIn (x ∷ xs) → Sorted (x ∷ xs) → (c : X) → Member (x ∷ xs) c → early c x ≡ true → ⊥
  first_is x xs q s c (inl e) h = o.itself x (q x (inl refl)) (subst (λ y. early y x ≡ true) (sym e) h)
  first_is x xs q s c (inr m) h = o.asym c x (q c (inr m)) (q x (inl refl)) h (s.0 c m)

  pub next_head : (d x y : X) (ys : List X) → P d → AllIn (x ∷ y ∷ ys) → Sorted (x ∷ y ∷ ys) → d ≡ x → IsNext (x ∷ y ∷ ys) d y
  next_head d x y ys D q s e = record {
    in' = inr (inl refl);
    later = subst (λ w. early w y ≡ true) (sym e) (s.0 y (inl refl));
    none = λ c h a b. elim h [
      | inl u ↦ o.itself d D (subst (λ w. early d w ≡ true) (sym u ∙ sym e) a)
      | inr m ↦ elim m [
        | inl u ↦ o.itself y (q y (inr (inl refl))) (subst (λ w. early w y ≡ true) (sym u) b)
        | inr n ↦ o.asym y c (q y (inr (inl refl))) (q c (inr (inr n))) (s.1.0 c n) b
      ]
    ];
  }

  pub next_tail : (d e x : X) (xs : List X) → P d → AllIn (x ∷ xs) → Sorted (x ∷ xs) → Member xs d → IsNext xs d e → IsNext (x ∷ xs) d e
  next_tail d e x xs D q s m n = record {
    in' = inr n.in';
    later = n.later;
    none = λ c h a b. elim h [
      | inl u ↦ o.asym x d (q x (inl refl)) D (s.0 d m) (subst (λ w. early d w ≡ true) (sym u) a)
      | inr k ↦ n.none c k a b
    ];
  }

  pub last_tail : (d x : X) (xs : List X) → P d → AllIn (x ∷ xs) → Sorted (x ∷ xs) → Member xs d → IsLast xs d → IsLast (x ∷ xs) d
  last_tail d x xs D q s m l c (inl u) a = o.asym x d (q x (inl refl)) D (s.0 d m) (subst (λ w. early d w ≡ true) (sym u) a)
  last_tail d x xs D q s m l c (inr k) a = l c k a

  -- two elements with one next are one, and so are two last ones
  pub one_next : (xs : List X) (d d' e : X) → AllIn xs → Member xs d → Member xs d' → IsNext xs d e → IsNext xs d' e → d ≡ d'
  one_next xs d d' e q m m' n n' =
      elim (cases_Bool (early d d')) [
        | inl a ↦ absurd (n.none d' m' a n'.later)
        | inr a ↦ elim (cases_Bool (early d' d)) [ inl b ↦ absurd (n'.none d m b n.later) | inr b ↦ o.total d d' (q d m) (q d' m') a b ]
      ]

  pub one_last : (xs : List X) (d d' : X) → AllIn xs → Member xs d → Member xs d' → IsLast xs d → IsLast xs d' → d ≡ d'
  one_last xs d d' q m m' n n' =
      elim (cases_Bool (early d d')) [
        | inl a ↦ absurd (n d' m' a)
        | inr a ↦ elim (cases_Bool (early d' d)) [ inl b ↦ absurd (n' d m b) | inr b ↦ o.total d d' (q d m) (q d' m') a b ]
      ]
