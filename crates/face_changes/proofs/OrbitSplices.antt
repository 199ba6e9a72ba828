-- Two new elements in a one-to-one map, each after an element of its own: where both places are on one orbit it is split in two, one through each new element;
-- where they are on two, these become one. f is the map before, on xs, k the one after, on ys; L and M label their orbits; d and m are the new elements, after a and b.
use Rattle.std.proofs.Common.{◌≡◌, Bool, true, false, cond, refl, sym, ap, ◌∙◌, subst, ◌⊎◌, inl, inr, List}
use Rattle.std.specs.List.{Contains}
use Rattle.std.proofs.lemmas.Bool.{false≢true, true≢false, cases_Bool}
use Rattle.slab_faces.proofs.Shift.{IsSetBy, IsOneToOne}
use Rattle.face_changes.specs.Orbits.{IsOrbitSplit, AreOrbitsUnited}
use Rattle.face_changes.proofs.OneToOneMaps.{unlike, closed_back, first, first_a, first_b, first_on, after_a, after_b}

-- L gives each element a label: one to an element and what follows it, and no two orbits one
pub record IsLabelled {X : Type 0} (f : X → X) (xs : List X) (L : X → X) : Type 0 where
  pub step : (x : X) → Contains xs x → L x ≡ L (f x)
  pub agree : (p : X → Bool) → ((x : X) → Contains xs x → p x ≡ p (f x)) → (x : X) → p x ≡ p (L x)

-- a test that agrees along the map agrees on elements with one label
pub told : {X : Type 0} (f : X → X) (xs : List X) (L : X → X) → IsLabelled f xs L → (p : X → Bool) → ((x : X) → Contains xs x → p x ≡ p (f x)) → (x y : X) → L x ≡ L y → p x ≡ p y
told f xs L l p h x y e = l.agree p h x ∙ ap p e ∙ sym (l.agree p h y)

-- k follows f, but a is followed by d, and b by m; d goes on as b did, and m as a did
pub record IsSpliced {X : Type 0} (f k : X → X) (xs ys : List X) (d m a b : X) : Type 0 where
  pub a_in : Contains xs a
  pub b_in : Contains xs b
  pub apart : a ≡ b → ⊥
  pub d_new : Contains xs d → ⊥
  pub m_new : Contains xs m → ⊥
  pub two : d ≡ m → ⊥
  pub old : (x : X) → Contains xs x → Contains ys x
  pub d_in : Contains ys d
  pub m_in : Contains ys m
  pub old_or_new : (x : X) → Contains ys x → Contains xs x ⊎ (x ≡ d) ⊎ (x ≡ m)
  pub at_a : k a ≡ d
  pub at_b : k b ≡ m
  pub at_d : k d ≡ f b
  pub at_m : k m ≡ f a
  pub elsewhere : (x : X) → Contains xs x → (x ≡ a → ⊥) → (x ≡ b → ⊥) → k x ≡ f x

module _ {X : Type 0} (same : X → X → Bool) (exact : (x y : X) → same x y ≡ true → x ≡ y) (itself : (x : X) → same x x ≡ true) where
  pub decide : (x y : X) → (x ≡ y) ⊎ (x ≡ y → ⊥)
  decide x y = elim (cases_Bool (same x y)) [
    | inl t ↦ inl (exact x y t)
    | inr t ↦ inr (λ e. false≢true (sym t ∙ subst (λ z. same x z ≡ true) e (itself x)))
  ]

  -- b as a, the rest as it is
  as_one : X → X → X → X
  as_one a b x = cond (same x b) a x

  as_b : (a b : X) → as_one a b b ≡ a
  unfolding as_one
  as_b a b = rw (itself b) refl

  as_else : (a b x : X) → (x ≡ b → ⊥) → as_one a b x ≡ x
  unfolding as_one
  as_else a b x h = elim (cases_Bool (same x b)) [ inl t ↦ absurd (h (exact x b t)) | inr t ↦ rw t refl ]

  as_a : (a b : X) → as_one a b a ≡ a
  as_a a b = elim (decide a b) [ inl e ↦ subst (λ z. as_one a b z ≡ a) (sym e) (as_b a b) | inr e ↦ as_else a b a e ]

  -- what the joining makes one is one, or both are among the two
  as_back : (a b x y : X) → as_one a b x ≡ as_one a b y → (x ≡ y) ⊎ (((x ≡ a) ⊎ (x ≡ b)) × ((y ≡ a) ⊎ (y ≡ b)))
  as_back a b x y h = elim (decide x b) [
    | inl e ↦ elim (decide y b) [
      | inl e' ↦ inl (e ∙ sym e')
      | inr n' ↦ inr (inr e, inl (sym (as_else a b y n') ∙ sym h ∙ ap (as_one a b) e ∙ as_b a b))
    ]
    | inr n ↦ elim (decide y b) [
      | inl e' ↦ inr (inl (sym (as_else a b x n) ∙ h ∙ ap (as_one a b) e' ∙ as_b a b), inr e')
      | inr n' ↦ inl (sym (as_else a b x n) ∙ h ∙ as_else a b y n')
    ]
  ]

  -- labels as tests
  module _ (f : X → X) (xs : List X) (L : X → X) (l : IsLabelled f xs L) where
    -- and so does a function
    pub agrees : (v : X → X) → ((x : X) → Contains xs x → v x ≡ v (f x)) → (x y : X) → L x ≡ L y → v x ≡ v y
    agrees v h x y e = exact (v x) (v y) (told f xs L l (λ z. same (v z) (v y)) (λ z c. ap (λ w. same w (v y)) (h z c)) x y e ∙ itself (v y))

  module _ (f k : X → X) (xs ys : List X) (L M : X → X) (l : IsLabelled f xs L) (m' : IsLabelled k ys M) (d m a b : X) (s : IsSpliced f k xs ys d m a b) where
    -- ---- the old label, for the new elements that of a
    module _ (r : X → X) (e : r (L a) ≡ r (L b)) where
      low : X → X
      low x = cond (same x d) (r (L a)) (cond (same x m) (r (L a)) (r (L x)))

      low_d : low d ≡ r (L a)
      unfolding low
      low_d = rw (itself d) refl

      low_m : low m ≡ r (L a)
      unfolding low
      low_m = elim (cases_Bool (same m d)) [ inl t ↦ rw t refl | inr t ↦ rw (t, itself m) refl ]

      low_old : (x : X) → Contains xs x → low x ≡ r (L x)
      unfolding low
      low_old x c = rw (unlike same exact x d (λ q. s.d_new (subst (Contains xs) q c)), unlike same exact x m (λ q. s.m_new (subst (Contains xs) q c))) refl

      -- what follows an old element is old
      low_on : (inside : (x : X) → Contains xs x → Contains xs (f x)) → (x : X) → Contains ys x → low x ≡ low (k x)
      low_on inside x c = elim (s.old_or_new x c) [
        | inl o ↦ elim (decide x a) [
          | inl q ↦ subst (λ z. low z ≡ low (k z)) (sym q) (low_old a s.a_in ∙ sym low_d ∙ ap low (sym s.at_a))
          | inr na ↦ elim (decide x b) [
            | inl q ↦ subst (λ z. low z ≡ low (k z)) (sym q) (low_old b s.b_in ∙ sym e ∙ sym low_m ∙ ap low (sym s.at_b))
            | inr nb ↦ low_old x o ∙ ap r (l.step x o) ∙ sym (low_old (f x) (inside x o)) ∙ ap low (sym (s.elsewhere x o na nb))
          ]
        ]
        | inr n ↦ elim n [
          | inl q ↦ subst (λ z. low z ≡ low (k z)) (sym q) (low_d ∙ e ∙ ap r (l.step b s.b_in) ∙ sym (low_old (f b) (inside b s.b_in)) ∙ ap low (sym s.at_d))
          | inr q ↦ subst (λ z. low z ≡ low (k z)) (sym q) (low_m ∙ ap r (l.step a s.a_in) ∙ sym (low_old (f a) (inside a s.a_in)) ∙ ap low (sym s.at_m))
        ]
      ]

      coarse : (inside : (x : X) → Contains xs x → Contains xs (f x)) → (x y : X) → M x ≡ M y → low x ≡ low y
      coarse inside = agrees k ys M m' low (low_on inside)

    -- ---- the new label, where those of d and m are taken for one
    m_a : M a ≡ M d
    m_a = m'.step a (s.old a s.a_in) ∙ ap M s.at_a

    m_b : M b ≡ M m
    m_b = m'.step b (s.old b s.b_in) ∙ ap M s.at_b

    m_fb : M (f b) ≡ M d
    m_fb = sym (m'.step d s.d_in ∙ ap M s.at_d)

    m_fa : M (f a) ≡ M m
    m_fa = sym (m'.step m s.m_in ∙ ap M s.at_m)

    m_else : (x : X) → Contains xs x → (x ≡ a → ⊥) → (x ≡ b → ⊥) → M x ≡ M (f x)
    m_else x c u v = m'.step x (s.old x c) ∙ ap M (s.elsewhere x c u v)

    module _ (r : X → X) (e : r (M d) ≡ r (M m)) where
      high_on : (x : X) → Contains xs x → r (M x) ≡ r (M (f x))
      high_on x c = elim (decide x a) [
        | inl q ↦ subst (λ z. r (M z) ≡ r (M (f z))) (sym q) (ap r m_a ∙ e ∙ ap r (sym m_fa))
        | inr na ↦ elim (decide x b) [
          | inl q ↦ subst (λ z. r (M z) ≡ r (M (f z))) (sym q) (ap r m_b ∙ sym e ∙ ap r (sym m_fb))
          | inr nb ↦ ap r (m_else x c na nb)
        ]
      ]

      fine : (x y : X) → L x ≡ L y → r (M x) ≡ r (M y)
      fine = agrees f xs L l (λ x. r (M x)) high_on

    module _ (n : IsSetBy same xs) (o : IsOneToOne f xs) where
      -- ---- both places on one orbit
      module _ (one : L a ≡ L b) where
        abbrev before : X → Bool
        before = first same f xs n o a b s.apart

        round : (p : X → Bool) → ((x : X) → Contains xs x → p x ≡ p (f x)) → p a ≡ p b
        round p h = told f xs L l p h a b one

        -- which of both is met first, for d as for a, for m as for b
        mark : X → Bool
        mark x = cond (same x d) true (cond (same x m) false (before x))

        mark_d : mark d ≡ true
        unfolding mark
        mark_d = rw (itself d) refl

        mark_m : mark m ≡ false
        unfolding mark
        mark_m = rw (elim (cases_Bool (same m d)) as (λ _. same m d ≡ false) [ inl t ↦ absurd (s.two (sym (exact m d t))) | inr t ↦ t ], itself m) refl

        mark_old : (x : X) → Contains xs x → mark x ≡ before x
        unfolding mark
        mark_old x c = rw (unlike same exact x d (λ q. s.d_new (subst (Contains xs) q c)), unlike same exact x m (λ q. s.m_new (subst (Contains xs) q c))) refl

        mark_on : (x : X) → Contains ys x → mark x ≡ mark (k x)
        mark_on x c = elim (s.old_or_new x c) [
          | inl i ↦ elim (decide x a) [
            | inl q ↦ subst (λ z. mark z ≡ mark (k z)) (sym q) (mark_old a s.a_in ∙ first_a same f xs n o a b s.apart s.a_in ∙ sym mark_d ∙ ap mark (sym s.at_a))
            | inr na ↦ elim (decide x b) [
              | inl q ↦ subst (λ z. mark z ≡ mark (k z)) (sym q) (mark_old b s.b_in ∙ first_b same f xs n o a b s.apart s.b_in ∙ sym mark_m ∙ ap mark (sym s.at_b))
              | inr nb ↦ mark_old x i ∙ first_on same f xs n o a b s.apart x i na nb ∙ sym (mark_old (f x) (o.inside x i)) ∙ ap mark (sym (s.elsewhere x i na nb))
            ]
          ]
          | inr w ↦ elim w [
            | inl q ↦ subst (λ z. mark z ≡ mark (k z)) (sym q) (mark_d ∙ sym (after_b same f xs n o a b s.apart s.a_in s.b_in round) ∙ sym (mark_old (f b) (o.inside b s.b_in)) ∙ ap mark (sym s.at_d))
            | inr q ↦ subst (λ z. mark z ≡ mark (k z)) (sym q) (mark_m ∙ sym (after_a same f xs n o a b s.apart s.a_in s.b_in round) ∙ sym (mark_old (f a) (o.inside a s.a_in)) ∙ ap mark (sym s.at_m))
          ]
        ]

        halves : M d ≡ M m → ⊥
        halves e = true≢false (sym mark_d ∙ told k ys M m' mark mark_on d m e ∙ mark_m)

        abbrev own : X → X
        own x = x

        down : (x y : X) → M x ≡ M y → low own one x ≡ low own one y
        down = coarse own one o.inside

        old_d : (x : X) → Contains xs x → M x ≡ M d → L x ≡ L a
        old_d x c e = sym (low_old own one x c) ∙ down x d e ∙ low_d own one

        old_m : (x : X) → Contains xs x → M x ≡ M m → L x ≡ L a
        old_m x c e = sym (low_old own one x c) ∙ down x m e ∙ low_m own one

        into : (x y : X) → L x ≡ L y → as_one (M d) (M m) (M x) ≡ as_one (M d) (M m) (M y)
        into = fine (as_one (M d) (M m)) (as_a (M d) (M m) ∙ sym (as_b (M d) (M m)))

        -- the orbit is split in two
        pub split : IsOrbitSplit L M xs d m a
        split = record {
          two = halves;
          within = λ x c e. elim (as_back (M d) (M m) (M x) (M a) (into x a e)) [ inl q ↦ inl (q ∙ m_a) | inr q ↦ q.0 ];
          from_d = old_d;
          from_m = old_m;
          kept = λ x y c c' e. sym (low_old own one x c) ∙ down x y e ∙ low_old own one y c';
          still = λ x y c c' ne e. elim (as_back (M d) (M m) (M x) (M y) (into x y e)) [
            | inl q ↦ q
            | inr q ↦ elim (q.0) [ inl t ↦ absurd (ne (old_d x c t)) | inr t ↦ absurd (ne (old_m x c t)) ]
          ];
        }

      -- ---- two orbits
      module _ (two : L a ≡ L b → ⊥) where
        both_on : X → Bool
        both_on x = cond (same (L x) (L b)) (same (M x) (M d)) false

        parts : (u v : Bool) → cond u v false ≡ true → (u ≡ true) × (v ≡ true)
        parts true v h = (refl, h)
        parts false v h = absurd (false≢true h)

        -- the orbit of b is led to d
        led : (M b ≡ M d → ⊥) → (x : X) → Contains xs x → both_on x ≡ true → both_on (f x) ≡ true
        unfolding both_on
        led ne x c h =
            let p = parts (same (L x) (L b)) (same (M x) (M d)) h in
            let u = exact (L x) (L b) p.0 in
            let v = exact (M x) (M d) p.1 in
            let w = m_else x c (λ q. two (ap L (sym q) ∙ u)) (λ q. ne (ap M (sym q) ∙ v)) in
            subst (λ (z : X × X). cond (same z.0 (L b)) (same z.1 (M d)) false ≡ true) (λ i. (l.step x c i, w i)) h

        met : M b ≡ M d
        unfolding both_on
        met = elim (decide (M b) (M d)) [
          | inl q ↦ q
          | inr ne ↦
              let z : both_on b ≡ both_on (f b) = closed_back same f xs n o both_on (led ne) b s.b_in in
              let t : both_on (f b) ≡ true = rw (← l.step b s.b_in, itself (L b), m_fb, itself (M d)) refl in
              exact (M b) (M d) (parts (same (L b) (L b)) (same (M b) (M d)) (z ∙ t)).1
        ]

        one_now : M d ≡ M m
        one_now = sym met ∙ m_b

        abbrev id : X → X
        id x = x

        into_one : (x y : X) → L x ≡ L y → M x ≡ M y
        into_one = fine id one_now

        both : as_one (L a) (L b) (L a) ≡ as_one (L a) (L b) (L b)
        both = as_a (L a) (L b) ∙ sym (as_b (L a) (L b))

        back : (x y : X) → Contains xs x → Contains xs y → M x ≡ M y → as_one (L a) (L b) (L x) ≡ as_one (L a) (L b) (L y)
        back x y c c' e = sym (low_old (as_one (L a) (L b)) both x c) ∙ coarse (as_one (L a) (L b)) both o.inside x y e ∙ low_old (as_one (L a) (L b)) both y c'

        comes : (x : X) → (L x ≡ L a) ⊎ (L x ≡ L b) → M x ≡ M d
        comes x (inl e) = into_one x a e ∙ m_a
        comes x (inr e) = into_one x b e ∙ met

        -- the two have become one
        pub united : AreOrbitsUnited L M xs d m a b
        united = record {
          one = one_now;
          within = λ x c e. comes x e;
          from = λ x c e. elim (as_back (L a) (L b) (L x) (L a) (back x a c s.a_in (e ∙ sym m_a))) [ inl q ↦ inl q | inr q ↦ q.0 ];
          still = λ x y c c' e. into_one x y e;
          kept = λ x y c c' e. elim (as_back (L a) (L b) (L x) (L y) (back x y c c' e)) [ inl q ↦ inl q | inr q ↦ inr (comes x q.0) ];
        }
