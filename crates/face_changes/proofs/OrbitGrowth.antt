-- Two new elements in a one-to-one map, at one place or apart from all: the old orbits are as they were; the two are on one of them, or on one of their own.
-- f is the map before, on xs, k the one after, on ys; L and M label their orbits; d and m are the new elements, and a is followed by d.
use Rattle.std.proofs.Common.{◌≡◌, Bool, true, false, cond, refl, sym, ap, ◌∙◌, subst, ◌⊎◌, inl, inr, List}
use Rattle.std.specs.List.{Contains}
use Rattle.std.proofs.lemmas.Bool.{true≢false, cases_Bool}
use Rattle.face_changes.specs.Orbits.{AreOrbitsKept}
use Rattle.face_changes.proofs.OneToOneMaps.{unlike}
use Rattle.face_changes.proofs.OrbitSplices.{IsLabelled, told, decide, agrees}

-- a is followed by d, d by m, and m by what followed a
pub record IsLengthened {X : Type 0} (f k : X → X) (xs ys : List X) (d m a : X) : Type 0 where
  pub a_in : Contains xs a
  pub d_new : Contains xs d → ⊥
  pub m_new : Contains xs m → ⊥
  pub old : (x : X) → Contains xs x → Contains ys x
  pub d_in : Contains ys d
  pub m_in : Contains ys m
  pub old_or_new : (x : X) → Contains ys x → Contains xs x ⊎ (x ≡ d) ⊎ (x ≡ m)
  pub at_a : k a ≡ d
  pub at_d : k d ≡ m
  pub at_m : k m ≡ f a
  pub elsewhere : (x : X) → Contains xs x → (x ≡ a → ⊥) → k x ≡ f x

-- d and m follow each other
pub record IsAlone {X : Type 0} (f k : X → X) (xs ys : List X) (d m : X) : Type 0 where
  pub d_new : Contains xs d → ⊥
  pub m_new : Contains xs m → ⊥
  pub old : (x : X) → Contains xs x → Contains ys x
  pub d_in : Contains ys d
  pub m_in : Contains ys m
  pub old_or_new : (x : X) → Contains ys x → Contains xs x ⊎ (x ≡ d) ⊎ (x ≡ m)
  pub at_d : k d ≡ m
  pub at_m : k m ≡ d
  pub elsewhere : (x : X) → Contains xs x → k x ≡ f x

module _ {X : Type 0} (same : X → X → Bool) (exact : (x y : X) → same x y ≡ true → x ≡ y) (itself : (x : X) → same x x ≡ true) where
  module _ (f k : X → X) (xs ys : List X) (L M : X → X) (l : IsLabelled f xs L) (m' : IsLabelled k ys M) (inside : (x : X) → Contains xs x → Contains xs (f x)) (d m : X) where
    module _ (a : X) (s : IsLengthened f k xs ys d m a) where
      m_a : M a ≡ M d
      m_a = m'.step a (s.old a s.a_in) ∙ ap M s.at_a

      m_d : M d ≡ M m
      m_d = m'.step d s.d_in ∙ ap M s.at_d

      m_m : M m ≡ M (f a)
      m_m = m'.step m s.m_in ∙ ap M s.at_m

      on : (x : X) → Contains xs x → M x ≡ M (f x)
      on x c = elim (decide same exact itself x a) [
        | inl q ↦ subst (λ z. M z ≡ M (f z)) (sym q) (m_a ∙ m_d ∙ m_m)
        | inr n ↦ m'.step x (s.old x c) ∙ ap M (s.elsewhere x c n)
      ]

      low : X → X
      low x = cond (same x d) (L a) (cond (same x m) (L a) (L x))

      low_d : low d ≡ L a
      unfolding low
      low_d = rw (itself d) refl

      low_m : low m ≡ L a
      unfolding low
      low_m = elim (cases_Bool (same m d)) [ inl t ↦ rw t refl | inr t ↦ rw (t, itself m) refl ]

      low_old : (x : X) → Contains xs x → low x ≡ L x
      unfolding low
      low_old x c = rw (unlike same exact x d (λ q. s.d_new (subst (Contains xs) q c)), unlike same exact x m (λ q. s.m_new (subst (Contains xs) q c))) refl

      low_on : (x : X) → Contains ys x → low x ≡ low (k x)
      low_on x c = elim (s.old_or_new x c) [
        | inl o ↦ elim (decide same exact itself x a) [
          | inl q ↦ subst (λ z. low z ≡ low (k z)) (sym q) (low_old a s.a_in ∙ sym low_d ∙ ap low (sym s.at_a))
          | inr n ↦ low_old x o ∙ l.step x o ∙ sym (low_old (f x) (inside x o)) ∙ ap low (sym (s.elsewhere x o n))
        ]
        | inr w ↦ elim w [
          | inl q ↦ subst (λ z. low z ≡ low (k z)) (sym q) (low_d ∙ sym low_m ∙ ap low (sym s.at_d))
          | inr q ↦ subst (λ z. low z ≡ low (k z)) (sym q) (low_m ∙ l.step a s.a_in ∙ sym (low_old (f a) (inside a s.a_in)) ∙ ap low (sym s.at_m))
        ]
      ]

      -- the orbit of a has grown by both
      pub grown : AreOrbitsKept L M xs × (M d ≡ M a) × (M m ≡ M a)
      grown = (
        record {
          still = λ x y c c' e. agrees same exact itself f xs L l M on x y e;
          kept = λ x y c c' e. sym (low_old x c) ∙ agrees same exact itself k ys M m' low low_on x y e ∙ low_old y c';
        },
        sym m_a,
        sym (m_a ∙ m_d),
      )

    module _ (s : IsAlone f k xs ys d m) where
      mark : X → X
      mark x = cond (same x d) d (cond (same x m) d (L x))

      is_new : X → Bool
      is_new x = cond (same x d) true (same x m)

      new_d : is_new d ≡ true
      unfolding is_new
      new_d = rw (itself d) refl

      new_m : is_new m ≡ true
      unfolding is_new
      new_m = elim (cases_Bool (same m d)) [ inl t ↦ rw t refl | inr t ↦ rw (t, itself m) refl ]

      new_old : (x : X) → Contains xs x → is_new x ≡ false
      unfolding is_new
      new_old x c = rw (unlike same exact x d (λ q. s.d_new (subst (Contains xs) q c)), unlike same exact x m (λ q. s.m_new (subst (Contains xs) q c))) refl

      mark_old : (x : X) → Contains xs x → mark x ≡ L x
      unfolding mark
      mark_old x c = rw (unlike same exact x d (λ q. s.d_new (subst (Contains xs) q c)), unlike same exact x m (λ q. s.m_new (subst (Contains xs) q c))) refl

      mark_d : mark d ≡ d
      unfolding mark
      mark_d = rw (itself d) refl

      mark_m : mark m ≡ d
      unfolding mark
      mark_m = elim (cases_Bool (same m d)) [ inl t ↦ rw t refl | inr t ↦ rw (t, itself m) refl ]

      mark_on : (x : X) → Contains ys x → mark x ≡ mark (k x)
      mark_on x c = elim (s.old_or_new x c) [
        | inl o ↦ mark_old x o ∙ l.step x o ∙ sym (mark_old (f x) (inside x o)) ∙ ap mark (sym (s.elsewhere x o))
        | inr w ↦ elim w [
          | inl q ↦ subst (λ z. mark z ≡ mark (k z)) (sym q) (mark_d ∙ sym mark_m ∙ ap mark (sym s.at_d))
          | inr q ↦ subst (λ z. mark z ≡ mark (k z)) (sym q) (mark_m ∙ sym mark_d ∙ ap mark (sym s.at_m))
        ]
      ]

      new_on : (x : X) → Contains ys x → is_new x ≡ is_new (k x)
      new_on x c = elim (s.old_or_new x c) [
        | inl o ↦ new_old x o ∙ sym (new_old (f x) (inside x o)) ∙ ap is_new (sym (s.elsewhere x o))
        | inr w ↦ elim w [
          | inl q ↦ subst (λ z. is_new z ≡ is_new (k z)) (sym q) (new_d ∙ sym new_m ∙ ap is_new (sym s.at_d))
          | inr q ↦ subst (λ z. is_new z ≡ is_new (k z)) (sym q) (new_m ∙ sym new_d ∙ ap is_new (sym s.at_m))
        ]
      ]

      -- the two are an orbit of their own
      pub alone : AreOrbitsKept L M xs × (M m ≡ M d) × ((x : X) → Contains xs x → M x ≡ M d → ⊥)
      alone = (
        record {
          still = λ x y c c' e. agrees same exact itself f xs L l M (λ z o. m'.step z (s.old z o) ∙ ap M (s.elsewhere z o)) x y e;
          kept = λ x y c c' e. sym (mark_old x c) ∙ agrees same exact itself k ys M m' mark mark_on x y e ∙ mark_old y c';
        },
        sym (m'.step d s.d_in ∙ ap M s.at_d),
        λ x c e. true≢false (sym new_d ∙ sym (told k ys M m' is_new new_on x d e) ∙ new_old x c),
      )
