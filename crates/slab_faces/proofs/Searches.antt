-- What is found in a list: the first that passes, the best that passes, the numbers of a range.
use Rattle.std.proofs.Common.{◌≡◌, ℕ, ◌+◌, ◌<◌, ◌≤◌, Bool, true, false, cond, arith, refl, sym, subst, ◌∙◌, ◌⊎◌, inl, inr, List, [], ◌∷◌, length, zero, suc}
use Rattle.std.specs.Prelude.{Some, None, find}
use Rattle.std.specs.List.{Contains, AllByRecursion, position_or_len, range_with_len}
use Rattle.std.proofs.lemmas.Bool.{false≢true, false_from_ne_true, cases_Bool, cases_lt}
use Rattle.std.proofs.lemmas.List.Sums.{fails_before_first}
use Rattle.exact_plane.specs.Point.{Point}
use Rattle.slab_laws.specs.Tables.{NamesAscend}
use Rattle.slab_faces.proofs.Member.{Member}

module _ {X : Type 0} where
  -- ---- the first that passes
  pub found : (p : X → Bool) (xs : List X) (x : X) → find p xs ≡ Some x → Member xs x × (p x ≡ true)
  found p [] x h = absurd (cc)
  found p (y ∷ ys) x h = step (p y) refl h (found p ys x)
    where
      step : (b : Bool) → p y ≡ b → cond b (Some y) (find p ys) ≡ Some x → (find p ys ≡ Some x → Member ys x × (p x ≡ true)) → ((y ≡ x) ⊎ Member ys x) × (p x ≡ true)
      step true e h f = let k : y ≡ x = cc in (inl k, subst (λ z. p z ≡ true) k e)
      step false e h f = let r = f h in (inr r.0, r.1)

  pub unfound : (p : X → Bool) (xs : List X) → find p xs ≡ None → (z : X) → Member xs z → p z ≡ false
  unfound p [] h z m = absurd m
  unfound p (y ∷ ys) h z m = step (p y) refl h m (unfound p ys)
    where
      step : (b : Bool) → p y ≡ b → cond b (Some y) (find p ys) ≡ None → (y ≡ z) ⊎ Member ys z → (find p ys ≡ None → (z : X) → Member ys z → p z ≡ false) → p z ≡ false
      step true e h m f = absurd (cc)
      step false e h (inl k) f = subst (λ z. p z ≡ false) k e
      step false e h (inr k) f = f h z k

  pub first_there : (p : X → Bool) (xs : List X) (z : X) → Contains xs z → p z ≡ true → position_or_len p xs < length xs
  first_there p xs z in' h =
      elim (cases_lt (position_or_len p xs) (length xs)) [
        | inl a ↦ a
        | inr a ↦ absurd (false≢true (sym (subst (λ y. p y ≡ false) in'.2 (fails_before_first p xs in'.0 z (let k = in'.1 in omega arith))) ∙ h))
      ]

-- ---- the best of those that pass
pub record IsBest (p : Point → Bool) (better : Point → Point → Bool) (xs : List Point) (x : Point) : Type 0 where
  pub in' : Member xs x
  pub passes : p x ≡ true
  pub best : (y : Point) → Member xs y → p y ≡ true → better y x ≡ false

pub best_of : (p : Point → Bool) (better : Point → Point → Bool) (xs : List Point) → ((x : Point) → better x x ≡ false) → ((x y z : Point) → Member xs x → Member xs y → Member xs z → better x y ≡ true → better y z ≡ true → better x z ≡ true) → ((x : Point) → Member xs x → p x ≡ false) ⊎ ((x : Point) × IsBest p better xs x)
best_of p better [] r t = inl (λ x h. absurd h)
best_of p better (x ∷ xs) r t =
    let ih = best_of p better xs r (λ x y z a b c. t x y z (inr a) (inr b) (inr c)) in
    elim (cases_Bool (p x)) [
      | inl a ↦ elim ih [
        | inl none ↦ inr (
          x,
          record {
            in' = inl refl;
            passes = a;
            best = λ y h k. elim h [ inl e ↦ subst (λ z. better z x ≡ false) e (r x) | inr m ↦ absurd (false≢true (sym (none y m) ∙ k)) ];
          },
        )
        | inr b ↦ elim (cases_Bool (better x b.0)) [
          | inl c ↦ inr (
            x,
            record {
              in' = inl refl;
              passes = a;
              best = λ y h k. elim h [
                | inl e ↦ subst (λ z. better z x ≡ false) e (r x)
                | inr m ↦ false_from_ne_true _ (λ n. false≢true (sym (b.1.best y m k) ∙ t y x b.0 (inr m) (inl refl) (inr b.1.in') n c))
              ];
            },
          )
          | inr c ↦ inr (
            b.0,
            record {
              in' = inr b.1.in';
              passes = b.1.passes;
              best = λ y h k. elim h [ inl e ↦ subst (λ z. better z b.0 ≡ false) e c | inr m ↦ b.1.best y m k ];
            },
          )
        ]
      ]
      | inr a ↦ elim ih [
        | inl none ↦ inl (λ y h. elim h [ inl e ↦ subst (λ z. p z ≡ false) e a | inr m ↦ none y m ])
        | inr b ↦ inr (
          b.0,
          record {
            in' = inr b.1.in';
            passes = b.1.passes;
            best = λ y h k. elim h [ inl e ↦ absurd (false≢true (sym a ∙ subst (λ z. p z ≡ true) (sym e) k)) | inr m ↦ b.1.best y m k ];
          },
        )
      ]
    ]

-- ---- the numbers from a on
pub in_range : (a n j : ℕ) → a ≤ j → j < a + n → Member (range_with_len a n) j
in_range a zero j h k = absurd (omega arith)
in_range a (suc n) j h k = elim (cases_lt a j) [
  | inl l ↦ inr (in_range (a + 1) n j (omega arith) (omega arith))
  | inr l ↦ inl (omega arith)
]

pub range_below : (a n j : ℕ) → Member (range_with_len a n) j → j < a + n
range_below a zero j h = absurd h
range_below a (suc n) j (inl e) = omega arith
range_below a (suc n) j (inr h) = let k = range_below (a + 1) n j h in omega arith

range_above : (i a n : ℕ) → i < a → AllByRecursion (λ m. i < m) (range_with_len a n)
range_above i a zero h = tt
range_above i a (suc n) h = (h, range_above i (a + 1) n (omega arith))

pub range_ascend : (a n : ℕ) → NamesAscend (range_with_len a n)
range_ascend a zero = tt
range_ascend a (suc n) = (range_above a (a + 1) n (omega arith), range_ascend (a + 1) n)
