-- Going along a list while some of its elements leave it.
use Rattle.std.proofs.Common.{◌≡◌, ℕ, suc, ◌+◌, ◌<◌, ◌≤◌, ◌==◌, Bool, true, false, not, cond, List, [], ◌∷◌, ◌++◌, length, Option, Some, None, refl, sym, ap, subst, ◌∙◌, arith, append_assoc, inl, inr}
use Rattle.std.specs.List.{filter}
use Rattle.std.proofs.lemmas.List.{append-nil}
use Rattle.std.proofs.lemmas.List.Elements.{filter-append}
use Rattle.integers.proofs.Tests.{other_number, same_number}
use Rattle.plane_graphs.specs.Ascending.{Member}
use Rattle.plane_graphs.proofs.Lists.{in_left, in_right}
use Rattle.slab_laws.specs.FaceLists.{first_of, follower, AreOnce}

module _ {X : Type 0} where
  -- ---- lists in which each element stands once
  pub once_apart : (xs : List X) (c : X) (ys : List X) → AreOnce (xs ++ c ∷ ys) → (¬ Member c xs) × (¬ Member c ys)
  once_apart [] c ys o = (λ m. m, o.0)
  once_apart (x ∷ xs) c ys o =
      let r = once_apart xs c ys o.1 in (
        λ m. elim m [ inl e ↦ o.0 (subst (λ z. Member z (xs ++ c ∷ ys)) e (in_right c xs (c ∷ ys) (inl refl))) | inr k ↦ r.0 k ],
        r.1,
      )

  pub one_more : (p : X → Bool) (xs : List X) (c : X) → filter p (xs ++ c ∷ []) ≡ filter p xs ++ cond (p c) (c ∷ []) []
  one_more p xs c = filter-append p xs (c ∷ [])

  pub head_is : (c : X) (rest : List X) → Some c ≡ first_of rest → (ys : List X) × (rest ≡ c ∷ ys)
  head_is c [] e = let z : Some c ≡ None = e in absurd (cc)
  head_is c (x ∷ ys) e = let z : Some c ≡ Some x = e in let q : c ≡ x = cc in (ys, ap (λ k. k ∷ ys) (sym q))

module _ {X : Type 0} (k : X → ℕ) (exact : (x y : X) → k x ≡ k y → x ≡ y) where
  other : (x c : X) → ¬ (x ≡ c) → (k x == k c) ≡ false
  other x c n = other_number (k x) (k c) (λ e. n (exact x c e))

  follows : (xs : List X) (c : X) (ys : List X) → ¬ Member c xs → follower (λ x. k x == k c) (xs ++ c ∷ ys) ≡ first_of ys
  unfolding follower
  follows [] c ys n = rw (same_number (k c)) refl
  follows (x ∷ xs) c ys n = rw (other x c (λ e. n (inl (sym e)))) (follows xs c ys (λ m. n (inr m)))

  absent : (c : X) (xs : List X) → ¬ Member c xs → filter (λ x. not (k x == k c)) xs ≡ xs
  absent c [] n = refl
  absent c (x ∷ xs) n = rw (other x c (λ e. n (inl (sym e)))) (ap (λ zs. x ∷ zs) (absent c xs (λ m. n (inr m))))

  without : (xs : List X) (c : X) (ys : List X) → ¬ Member c xs → ¬ Member c ys → filter (λ x. not (k x == k c)) (xs ++ c ∷ ys) ≡ xs ++ ys
  without xs c ys n m =
      filter-append (λ x. not (k x == k c)) xs (c ∷ ys)
      ∙ (λ i. absent c xs n i ++ cond (not (same_number (k c) i)) (c ∷ absent c ys m i) (absent c ys m i))

  -- ---- how many are left
  left : List X → X → ℕ
  left [] c = 0
  left (x ∷ xs) c = cond (k x == k c) (suc (length xs)) (left xs c)

  left_at : (xs : List X) (c : X) (ys : List X) → ¬ Member c xs → left (xs ++ c ∷ ys) c ≡ suc (length ys)
  unfolding left
  left_at [] c ys n = rw (same_number (k c)) refl
  left_at (x ∷ xs) c ys n = rw (other x c (λ e. n (inl (sym e)))) (left_at xs c ys (λ m. n (inr m)))

  pub todo : List X → Option X → ℕ
  todo xs None = 0
  todo xs (Some c) = left xs c

  todo_next : (zs ys : List X) → ((x : X) (ws : List X) → ys ≡ x ∷ ws → ¬ Member x zs) → todo (zs ++ ys) (first_of ys) ≡ length ys
  unfolding todo
  todo_next zs [] h = refl
  todo_next zs (x ∷ ws) h = left_at zs x ws (h x ws refl)

  -- ---- the state between two looks: those of `done` were looked at, those of `rest` weren't
  module _ (taken : X → Bool) where
    pub record IsAlong (old now : List X) (next : Option X) (done rest : List X) : Type 0 where
      pub list : old ≡ done ++ rest
      pub at : next ≡ first_of rest
      pub own : now ≡ filter (λ x. not (taken x)) done ++ rest

    pub begins : (old : List X) (next : Option X) → next ≡ first_of old → IsAlong old old next [] old
    begins old next e = record { list = refl; at = e; own = refl }

    module _ (old now : List X) (c : X) (done rest : List X) (a : IsAlong old now (Some c) done rest) (once : AreOnce now) where
      pub ys : List X
      ys = (head_is c rest a.at).0

      pub rest_is : rest ≡ c ∷ ys
      unfolding ys
      rest_is = (head_is c rest a.at).1

      pub kept : List X
      kept = filter (λ x. not (taken x)) done

      own_is : now ≡ kept ++ c ∷ ys
      unfolding kept
      own_is = a.own ∙ ap (λ zs. filter (λ x. not (taken x)) done ++ zs) rest_is

      apart : (¬ Member c kept) × (¬ Member c ys)
      apart = once_apart kept c ys (subst AreOnce own_is once)

      pub in_now : Member c now
      in_now = subst (Member c) (sym own_is) (in_right c kept (c ∷ ys) (inl refl))

      pub in_old : Member c old
      in_old = subst (Member c) (sym (a.list ∙ ap (λ zs. done ++ zs) rest_is)) (in_right c done (c ∷ ys) (inl refl))

      pub next_is : (next : Option X) → next ≡ follower (λ x. k x == k c) now → next ≡ first_of ys
      next_is next e = e ∙ ap (follower (λ x. k x == k c)) own_is ∙ follows kept c ys apart.0

      list_more : old ≡ (done ++ c ∷ []) ++ ys
      list_more = a.list ∙ ap (λ zs. done ++ zs) rest_is ∙ sym (append_assoc done (c ∷ []) ys)

      now_more : now ≡ (kept ++ c ∷ []) ++ ys
      now_more = own_is ∙ sym (append_assoc kept (c ∷ []) ys)

      todo_now : todo now (Some c) ≡ suc (length ys)
      unfolding todo
      todo_now = ap (λ zs. left zs c) own_is ∙ left_at kept c ys apart.0

      -- what comes next was not met
      unmet : (x : X) (ws : List X) → ys ≡ x ∷ ws → ¬ Member x (kept ++ c ∷ [])
      unmet x ws e = (once_apart (kept ++ c ∷ []) x ws (subst AreOnce (now_more ∙ ap (λ zs. (kept ++ c ∷ []) ++ zs) e) once)).0

      module _ (next : Option X) (n : next ≡ first_of ys) where
        pub stays : taken c ≡ false → IsAlong old now next (done ++ c ∷ []) ys
        unfolding kept
        stays t = record {
          list = list_more;
          at = n;
          own = now_more ∙ ap (λ zs. zs ++ ys) (sym (one_more (λ x. not (taken x)) done c ∙ ap (λ b. filter (λ x. not (taken x)) done ++ cond (not b) (c ∷ []) []) t));
        }

        pub stays_less : todo now next < todo now (Some c)
        stays_less =
            let z : todo now next ≡ length ys = ap (todo now) n ∙ ap (λ zs. todo zs (first_of ys)) now_more ∙ todo_next (kept ++ c ∷ []) ys unmet in
            omega (arith, z, todo_now)

        module _ (then : List X) (t : then ≡ filter (λ x. not (k x == k c)) now) where
          own_then : then ≡ kept ++ ys
          own_then = t ∙ ap (filter (λ x. not (k x == k c))) own_is ∙ without kept c ys apart.0 apart.1

          pub goes : taken c ≡ true → IsAlong old then next (done ++ c ∷ []) ys
          unfolding kept
          goes e = record {
            list = list_more;
            at = n;
            own = own_then ∙ ap (λ zs. zs ++ ys) (sym (one_more (λ x. not (taken x)) done c ∙ ap (λ b. filter (λ x. not (taken x)) done ++ cond (not b) (c ∷ []) []) e ∙ append-nil (filter (λ x. not (taken x)) done)));
          }

          pub goes_less : todo then next < todo now (Some c)
          goes_less =
              let z : todo then next ≡ length ys = ap (todo then) n ∙ ap (λ zs. todo zs (first_of ys)) own_then ∙ todo_next kept ys (λ x ws e m. unmet x ws e (in_left x kept (c ∷ []) m)) in
              omega (arith, z, todo_now)

      -- ---- the list of those that went
      pub listed_stays : taken c ≡ false → filter taken (done ++ c ∷ []) ≡ filter taken done
      listed_stays t = one_more taken done c ∙ ap (λ b. filter taken done ++ cond b (c ∷ []) []) t ∙ append-nil (filter taken done)

      pub listed_goes : taken c ≡ true → filter taken (done ++ c ∷ []) ≡ filter taken done ++ c ∷ []
      listed_goes t = one_more taken done c ∙ ap (λ b. filter taken done ++ cond b (c ∷ []) []) t

      pub room_is : (n room : ℕ) → n + length rest ≤ room → (n + length ys ≤ room) × (n + 1 + length ys ≤ room)
      room_is n room h = let l : length rest ≡ suc (length ys) = ap length rest_is in (omega (arith, h, l), omega (arith, h, l))
