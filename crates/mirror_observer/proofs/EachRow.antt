-- Every row of a table changed: twice, alike, not at all, and beside one row more or fewer.
use Rattle.std.proofs.Common.{◌≡◌, ℕ, ◌==◌, Bool, true, false, cond, List, [], ◌∷◌, Option, Some, None, is_some, IsSome, option_map, refl, sym, ap, ap₂, ◌∙◌}
use Rattle.std.specs.Prelude.{nat_lt, ◌||◌}
use Rattle.slab_laws.specs.Tables.{row_at, names, NamesAscend}
use Rattle.arr_notes.proofs.RowLaws.{row_at-each, ascend-each, one_table}
use Rattle.arr_notes.specs.NamedRows.{put, del, each, edit}
use Rattle.integers.proofs.Tests.{same_number, turned_test}

module _ {X : Type 0} where
  further : (b : Bool) (x : X) (rs : List (ℕ × X)) (n : ℕ) → IsSome (row_at rs n) → is_some (cond b (Some x) (row_at rs n)) ≡ true
  further true x rs n h = refl
  further false x rs n h = h

  -- where two changes agree on what has a row, they make one table
  pub each_known : (f g : ℕ → X → X) (rs : List (ℕ × X)) → ((n : ℕ) (x : X) → IsSome (row_at rs n) → f n x ≡ g n x) → each f rs ≡ each g rs
  unfolding each row_at
  each_known f g [] h = refl
  each_known f g (r ∷ rs) h =
      ap₂ (λ x xs. (r.0, x) ∷ xs) (h r.0 r.1 (ap (λ b. is_some (cond b (Some r.1) (row_at rs r.0))) (same_number r.0))) (each_known f g rs (λ n x k. h n x (further (r.0 == n) r.1 rs n k)))

  pub each_alike : (f g : ℕ → X → X) → ((n : ℕ) (x : X) → f n x ≡ g n x) → (rs : List (ℕ × X)) → each f rs ≡ each g rs
  each_alike f g h rs = each_known f g rs (λ n x k. h n x)

  pub each_still : (f : ℕ → X → X) → ((n : ℕ) (x : X) → f n x ≡ x) → (rs : List (ℕ × X)) → each f rs ≡ rs
  unfolding each
  each_still f h [] = refl
  each_still f h (r ∷ rs) = ap₂ (λ x xs. (r.0, x) ∷ xs) (h r.0 r.1) (each_still f h rs)

  pub each_twice : (f g : ℕ → X → X) (rs : List (ℕ × X)) → each f (each g rs) ≡ each (λ n x. f n (g n x)) rs
  unfolding each
  each_twice f g [] = refl
  each_twice f g (r ∷ rs) = ap (λ xs. (r.0, f r.0 (g r.0 r.1)) ∷ xs) (each_twice f g rs)

  pub each_put : (f : ℕ → X → X) (k : ℕ) (x : X) (rs : List (ℕ × X)) → each f (put k x rs) ≡ put k (f k x) (each f rs)
  unfolding each put
  each_put f k x [] = refl
  each_put f k x (r ∷ rs) =
      elim (nat_lt k r.0) as (λ b. each f (cond b ((k, x) ∷ r ∷ rs) (cond (r.0 == k) ((k, x) ∷ rs) (r ∷ put k x rs))) ≡ cond b ((k, f k x) ∷ (r.0, f r.0 r.1) ∷ each f rs) (cond (r.0 == k) ((k, f k x) ∷ each f rs) ((r.0, f r.0 r.1) ∷ put k (f k x) (each f rs)))) [
        | true ↦ refl
        | false ↦ elim (r.0 == k) as (λ b. each f (cond b ((k, x) ∷ rs) (r ∷ put k x rs)) ≡ cond b ((k, f k x) ∷ each f rs) ((r.0, f r.0 r.1) ∷ put k (f k x) (each f rs))) [
          | true ↦ refl
          | false ↦ ap (λ xs. (r.0, f r.0 r.1) ∷ xs) (each_put f k x rs)
        ]
      ]

  pub each_del : (f : ℕ → X → X) (k : ℕ) (rs : List (ℕ × X)) → each f (del k rs) ≡ del k (each f rs)
  unfolding each del
  each_del f k [] = refl
  each_del f k (r ∷ rs) = elim (r.0 == k) as (λ b. each f (cond b rs (r ∷ del k rs)) ≡ cond b (each f rs) ((r.0, f r.0 r.1) ∷ del k (each f rs))) [
    | true ↦ refl
    | false ↦ ap (λ xs. (r.0, f r.0 r.1) ∷ xs) (each_del f k rs)
  ]

  -- ---- a change of marked rows, which says nothing new the second time
  module _ (f : X → X) (twice : (x : X) → f (f x) ≡ f x) where
    in_turn : (b c : Bool) (x : X) → cond (b || c) (f x) x ≡ cond c (f (cond b (f x) x)) (cond b (f x) x)
    in_turn true true x = sym (twice x)
    in_turn true false x = refl
    in_turn false true x = refl
    in_turn false false x = refl

    -- one name and those marked are changed one after the other
    pub one_more : (k : ℕ) (m : ℕ → Bool) (rs : List (ℕ × X)) → each (λ n x. cond ((k == n) || m n) (f x) x) rs ≡ each (λ n x. cond (m n) (f x) x) (edit k f rs)
    one_more k m rs =
        each_alike (λ n x. cond ((k == n) || m n) (f x) x) (λ n x. cond (m n) (f (cond (n == k) (f x) x)) (cond (n == k) (f x) x))
        (λ n x. ap (λ b. cond (b || m n) (f x) x) (turned_test k n) ∙ in_turn (n == k) (m n) x) rs
        ∙ sym (each_twice (λ n x. cond (m n) (f x) x) (λ n x. cond (n == k) (f x) x) rs)

    -- those marked, and then one name more
    pub one_after : (k : ℕ) (m : ℕ → Bool) (rs : List (ℕ × X)) → edit k f (each (λ n x. cond (m n) (f x) x) rs) ≡ each (λ n x. cond (m n || (k == n)) (f x) x) rs
    one_after k m rs =
        each_twice (λ n x. cond (n == k) (f x) x) (λ n x. cond (m n) (f x) x) rs
        ∙ each_alike (λ n x. cond (n == k) (f (cond (m n) (f x) x)) (cond (m n) (f x) x)) (λ n x. cond (m n || (k == n)) (f x) x)
        (λ n x. sym (in_turn (m n) (n == k) x) ∙ ap (λ b. cond (m n || b) (f x) x) (turned_test n k)) rs

-- where two changes agree on each row that is read, they make one table
pub each_read : {X : Type 0} (f g : ℕ → X → X) (rs : List (ℕ × X)) → NamesAscend (names rs) → ((n : ℕ) (x : X) → row_at rs n ≡ Some x → f n x ≡ g n x) → each f rs ≡ each g rs
each_read {X} f g rs a h = one_table (each f rs) (each g rs) (ascend-each f rs a) (ascend-each g rs a) (λ n. row_at-each f rs n ∙ agree n (row_at rs n) refl ∙ sym (row_at-each g rs n))
  where
    agree : (n : ℕ) (o : Option X) → row_at rs n ≡ o → option_map (f n) o ≡ option_map (g n) o
    agree n None e = refl
    agree n (Some x) e = ap (λ y. Some y) (h n x e)
