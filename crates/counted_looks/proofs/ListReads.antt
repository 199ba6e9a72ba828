-- Reading a list from each name to the one after it.
use Rattle.std.proofs.Common.{◌≡◌, ℕ, suc, Bool, true, false, cond, arith, refl, sym, ap, ◌∙◌, subst, inl, inr, List, [], ◌∷◌, ◌++◌, length, append_assoc, ◌<◌, ◌≤◌}
use Rattle.std.specs.Prelude.{Option, None, Some}
use Rattle.std.proofs.lemmas.Bool.{false≢true}
use Rattle.std.proofs.lemmas.List.{append-nil}
use Rattle.plane_graphs.specs.Ascending.{Member}
use Rattle.slab_laws.specs.FaceLists.{AreOnce, first_of, follower}

abbrev pub left_from : {X : Type 0} → (X → Bool) → List X → ℕ
left_from p [] = 0
left_from p (x ∷ xs) = cond (p x) (suc (length xs)) (left_from p xs)

module _ {X : Type 0} (same : X → X → Bool) (exact : (x y : X) → same x y ≡ true → x ≡ y) (itself : (x : X) → same x x ≡ true) where
  no_match : (x c : X) → (x ≡ c → ⊥) → same x c ≡ false
  no_match x c f = go (same x c) refl
    where
      go : (b : Bool) → same x c ≡ b → same x c ≡ false
      go true q = absurd (f (exact x c q))
      go false q = q

  pub member_at : (done : List X) (c : X) (rest : List X) → Member c (done ++ (c ∷ rest))
  member_at [] c rest = inl refl
  member_at (x ∷ xs) c rest = inr (member_at xs c rest)

  pub follower_at : (done : List X) (c : X) (rest : List X) → AreOnce (done ++ (c ∷ rest)) → follower (λ x. same x c) (done ++ (c ∷ rest)) ≡ first_of rest
  unfolding follower
  follower_at [] c rest o = rw (itself c) refl
  follower_at (x ∷ xs) c rest o = rw (no_match x c (λ q. o.0 (subst (λ z. Member z (xs ++ (c ∷ rest))) (sym q) (member_at xs c rest)))) (follower_at xs c rest o.1)

  pub left_from_at : (done : List X) (c : X) (rest : List X) → AreOnce (done ++ (c ∷ rest)) → left_from (λ x. same x c) (done ++ (c ∷ rest)) ≡ suc (length rest)
  left_from_at [] c rest o = rw (itself c) refl
  left_from_at (x ∷ xs) c rest o = rw (no_match x c (λ q. o.0 (subst (λ z. Member z (xs ++ (c ∷ rest))) (sym q) (member_at xs c rest)))) (left_from_at xs c rest o.1)

  -- what is read of xs: the things before at are done, and T is known of them
  pub record IsReading (xs : List X) (at : Option X) (T : List X → Type 0) : Type 0 where
    pub done : List X
    pub left : List X
    pub whole : xs ≡ done ++ left
    pub next : at ≡ first_of left
    pub known : T done

  -- how many are left to be read
  abbrev pub left_at : List X → Option X → ℕ
  left_at xs None = 0
  left_at xs (Some c) = left_from (λ x. same x c) xs

  pub reads_first : (xs : List X) (T : List X → Type 0) → T [] → IsReading xs (first_of xs) T
  reads_first xs T t = record { done = []; left = xs; whole = refl; next = refl; known = t }

  split_off : (c : X) (left : List X) → Some c ≡ first_of left → (rest : List X) × (left ≡ c ∷ rest)
  split_off c [] q = absurd (some_none c (sym q))
    where
      some_none : (c : X) → ◌≡◌ {A = Option X} None (Some c) → ⊥
      some_none c q = false≢true (ap (λ o. is_there o) q)
        where
          is_there : Option X → Bool
          is_there None = false
          is_there (Some x) = true
  split_off c (x ∷ xs) q = (xs, ap (λ z. z ∷ xs) (sym (some_is c x q)))
    where
      some_is : (c x : X) → Some c ≡ Some x → c ≡ x
      some_is c x q = ap (λ o. or_else c o) q
        where
          or_else : X → Option X → X
          or_else d None = d
          or_else d (Some y) = y

  pub one_more_read : (xs : List X) (c : X) (S T : List X → Type 0) → AreOnce xs → IsReading xs (Some c) S → ((done : List X) → S done → T (done ++ (c ∷ []))) → IsReading xs (follower (λ x. same x c) xs) T
  one_more_read xs c S T once r f =
      let w = split_off c r.left r.next in
      let q : xs ≡ r.done ++ (c ∷ w.0) = r.whole ∙ ap (λ z. r.done ++ z) w.1 in
      record {
        done = r.done ++ (c ∷ []);
        left = w.0;
        whole = q ∙ sym (append_assoc r.done (c ∷ []) w.0);
        next = ap (follower (λ x. same x c)) q ∙ follower_at r.done c w.0 (subst AreOnce q once);
        known = f r.done r.known;
      }

  pub fewer_left : (xs : List X) (c : X) (S : List X → Type 0) → AreOnce xs → IsReading xs (Some c) S → left_at xs (follower (λ x. same x c) xs) < left_at xs (Some c)
  fewer_left xs c S once r =
      let w = split_off c r.left r.next in
      let q : xs ≡ r.done ++ (c ∷ w.0) = r.whole ∙ ap (λ z. r.done ++ z) w.1 in
      let o = subst AreOnce q once in
      let a : left_at xs (Some c) ≡ suc (length w.0) = ap (left_from (λ x. same x c)) q ∙ left_from_at r.done c w.0 o in
      let b = less xs (r.done ++ (c ∷ [])) w.0 (q ∙ sym (append_assoc r.done (c ∷ []) w.0)) once in
      let e : follower (λ x. same x c) xs ≡ first_of w.0 = ap (follower (λ x. same x c)) q ∙ follower_at r.done c w.0 o in
      let d : left_at xs (follower (λ x. same x c) xs) ≡ left_at xs (first_of w.0) = ap (left_at xs) e in
      omega arith
    where
      less : (xs done left : List X) → xs ≡ done ++ left → AreOnce xs → left_at xs (first_of left) ≤ length left
      less xs done [] q once = omega arith
      less xs done (x ∷ rest) q once =
          let a : left_from (λ y. same y x) xs ≡ suc (length rest) = ap (left_from (λ y. same y x)) q ∙ left_from_at done x rest (subst AreOnce q once) in
          omega arith

  pub there : (xs : List X) (c : X) (S : List X → Type 0) → IsReading xs (Some c) S → Member c xs
  there xs c S r =
      let w = split_off c r.left r.next in
      subst (Member c) (sym (r.whole ∙ ap (λ z. r.done ++ z) w.1)) (member_at r.done c w.0)

  pub all_read : (xs : List X) (S : List X → Type 0) → IsReading xs None S → S xs
  all_read xs S r = subst S (sym (append-nil r.done) ∙ ap (λ z. r.done ++ z) (sym (nothing r.left r.next)) ∙ sym r.whole) r.known
    where
      nothing : (left : List X) → None ≡ first_of left → left ≡ []
      nothing [] q = refl
      nothing (x ∷ xs) q = absurd (false≢true (ap (λ o. is_there o) q))
        where
          is_there : Option X → Bool
          is_there None = false
          is_there (Some x) = true
