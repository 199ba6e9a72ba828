-- Tables by name: what each change finds at a name, that names go on ascending, and that the rows found decide the table.
use Rattle.std.proofs.Common.{◌≡◌, ◌≢◌, inl, inr, ℕ, ◌<◌, ◌≤◌, ◌==◌, Bool, true, false, cond, List, [], ◌∷◌, Option, Some, None, option_map, refl, sym, ap, ap₂, subst, ◌∙◌, arith}
use Rattle.std.specs.List.{AllByRecursion}
use Rattle.std.proofs.lemmas.Bool.{cases_eq, cases_Bool, cases_lt}
use Rattle.slab_laws.specs.Tables.{row_at, names, NamesAscend}
use Rattle.arr_notes.specs.NamedRows.{put, del, each, edit}
use Rattle.integers.proofs.Tests.{nat_lt_yes, nat_lt_no, other_number, same_number}

weaker : (j k : ℕ) (ns : List ℕ) → j ≤ k → AllByRecursion (λ m. k < m) ns → AllByRecursion (λ m. j < m) ns
weaker j k [] l h = tt
weaker j k (n ∷ ns) l h = (omega (arith, h.0), weaker j k ns l h.1)

module _ {X : Type 0} where
  -- a name before all names has no row
  pub absent : (i k : ℕ) (rs : List (ℕ × X)) → i ≡ k → AllByRecursion (λ m. i < m) (names rs) → row_at rs k ≡ None
  unfolding row_at
  absent i k [] e h = refl
  absent i k (r ∷ rs) e h = let n : r.0 ≢ k = omega (arith, h.0) in rw (other_number r.0 k n) (absent i k rs e h.1)

  -- ---- what is found
  pub row_at-put : (k : ℕ) (x : X) (rs : List (ℕ × X)) (n : ℕ) → row_at (put k x rs) n ≡ cond (k == n) (Some x) (row_at rs n)
  unfolding row_at put
  row_at-put k x [] n = refl
  row_at-put k x (r ∷ rs) n =
      elim (cases_lt k r.0) [
        | inl l ↦ rw (nat_lt_yes k r.0 l) refl
        | inr l ↦ rw (nat_lt_no k r.0 l) (elim (cases_eq k r.0) [
          | inl q ↦ rw (q, same_number r.0) (twice (r.0 == n))
          | inr ne ↦ rw (other_number r.0 k (λ s. ne (sym s))) (elim (cases_eq r.0 n) [
            | inl q ↦ rw (q, same_number n, other_number k n (λ s. ne (s ∙ sym q))) refl
            | inr nj ↦ rw (other_number r.0 n nj) (row_at-put k x rs n)
          ])
        ])
      ]
    where
      twice : (b : Bool) → cond b (Some x) (row_at rs n) ≡ cond b (Some x) (cond b (Some r.1) (row_at rs n))
      twice true = refl
      twice false = refl

  -- of two rows for one name the later one stays
  pub put_again : (k : ℕ) (x y : X) (rs : List (ℕ × X)) → put k x (put k y rs) ≡ put k x rs
  unfolding put
  put_again k x y [] = rw (nat_lt_no k k (omega arith), same_number k) refl
  put_again k x y (r ∷ rs) =
      elim (cases_lt k r.0) [
        | inl l ↦ rw (nat_lt_yes k r.0 l, nat_lt_no k k (omega arith), same_number k) refl
        | inr l ↦ rw (nat_lt_no k r.0 l) (elim (cases_eq k r.0) [
          | inl q ↦ rw (q, same_number r.0, nat_lt_no r.0 r.0 (omega arith)) (ap (λ b. cond b ((r.0, x) ∷ rs) ((r.0, y) ∷ put r.0 x rs)) (same_number r.0))
          | inr ne ↦ rw (other_number r.0 k (λ s. ne (sym s)), nat_lt_no k r.0 l) (rw (other_number r.0 k (λ s. ne (sym s))) (ap (λ ts. r ∷ ts) (put_again k x y rs)))
        ])
      ]

  -- without a row that isn't there nothing changes
  pub del_absent : (k : ℕ) (rs : List (ℕ × X)) → row_at rs k ≡ None → del k rs ≡ rs
  unfolding row_at del
  del_absent k [] e = refl
  del_absent k (r ∷ rs) e = without (r.0 == k) e (λ q. del_absent k rs q)
    where
      without : (b : Bool) → cond b (Some r.1) (row_at rs k) ≡ None → (row_at rs k ≡ None → del k rs ≡ rs) → cond b rs (r ∷ del k rs) ≡ r ∷ rs
      without true q f = absurd (cc)
      without false q f = ap (λ ts. r ∷ ts) (f q)

  pub row_at-each : (f : ℕ → X → X) (rs : List (ℕ × X)) (n : ℕ) → row_at (each f rs) n ≡ option_map (f n) (row_at rs n)
  unfolding row_at each
  row_at-each f [] n = refl
  row_at-each f (r ∷ rs) n = elim (cases_eq r.0 n) [
    | inl q ↦ rw (q, same_number n) refl
    | inr ne ↦ rw (other_number r.0 n ne) (row_at-each f rs n)
  ]

  pub row_at-del : (k : ℕ) (rs : List (ℕ × X)) (n : ℕ) → NamesAscend (names rs) → row_at (del k rs) n ≡ cond (k == n) None (row_at rs n)
  unfolding row_at del
  row_at-del k [] n h = elim (k == n) as (λ b. ◌≡◌ {A = Option X} None (cond b None None)) [ true ↦ refl | false ↦ refl ]
  row_at-del k (r ∷ rs) n h =
      elim (cases_eq k r.0) [
        | inl q ↦ rw (q, same_number r.0) (elim (cases_eq r.0 n) [
          | inl s ↦ rw (absent r.0 n rs s h.0, s, same_number n) refl
          | inr ne ↦ rw (other_number r.0 n ne) refl
        ])
        | inr ne ↦ rw (other_number r.0 k (λ s. ne (sym s))) (elim (cases_eq r.0 n) [
          | inl q ↦ rw (q, same_number n, other_number k n (λ s. ne (s ∙ sym q))) refl
          | inr nj ↦ rw (other_number r.0 n nj) (row_at-del k rs n h.1)
        ])
      ]

  -- ---- names go on ascending
  above-put : (i k : ℕ) (x : X) (rs : List (ℕ × X)) → i < k → AllByRecursion (λ m. i < m) (names rs) → AllByRecursion (λ m. i < m) (names (put k x rs))
  unfolding put
  above-put i k x [] l h = (l, tt)
  above-put i k x (r ∷ rs) l h =
      elim (cases_lt k r.0) [
        | inl m ↦ rw (nat_lt_yes k r.0 m) (l, h)
        | inr m ↦ rw (nat_lt_no k r.0 m) (elim (cases_eq k r.0) [
          | inl q ↦ rw (q, same_number r.0) h
          | inr ne ↦ rw (other_number r.0 k (λ s. ne (sym s))) (h.0, above-put i k x rs l h.1)
        ])
      ]

  pub ascend-put : (k : ℕ) (x : X) (rs : List (ℕ × X)) → NamesAscend (names rs) → NamesAscend (names (put k x rs))
  unfolding put
  ascend-put k x [] h = (tt, tt)
  ascend-put k x (r ∷ rs) h =
      elim (cases_lt k r.0) [
        | inl m ↦ rw (nat_lt_yes k r.0 m) ((m, weaker k r.0 (names rs) (omega arith) h.0), h)
        | inr m ↦ rw (nat_lt_no k r.0 m) (elim (cases_eq k r.0) [
          | inl q ↦ rw (q, same_number r.0) h
          | inr ne ↦ rw (other_number r.0 k (λ s. ne (sym s))) (above-put r.0 k x rs (omega arith) h.0, ascend-put k x rs h.1)
        ])
      ]

  pub names-each : (f : ℕ → X → X) (rs : List (ℕ × X)) → names (each f rs) ≡ names rs
  unfolding each
  names-each f [] = refl
  names-each f (r ∷ rs) = ap (λ ns. r.0 ∷ ns) (names-each f rs)

  pub ascend-each : (f : ℕ → X → X) (rs : List (ℕ × X)) → NamesAscend (names rs) → NamesAscend (names (each f rs))
  ascend-each f rs h = subst (λ ns. NamesAscend ns) (sym (names-each f rs)) h

  above-del : (i k : ℕ) (rs : List (ℕ × X)) → AllByRecursion (λ m. i < m) (names rs) → AllByRecursion (λ m. i < m) (names (del k rs))
  unfolding del
  above-del i k [] h = tt
  above-del i k (r ∷ rs) h = elim (cases_Bool (r.0 == k)) [ inl q ↦ rw q h.1 | inr q ↦ rw q (h.0, above-del i k rs h.1) ]

  pub ascend-del : (k : ℕ) (rs : List (ℕ × X)) → NamesAscend (names rs) → NamesAscend (names (del k rs))
  unfolding del
  ascend-del k [] h = tt
  ascend-del k (r ∷ rs) h = elim (cases_Bool (r.0 == k)) [ inl q ↦ rw q h.1 | inr q ↦ rw q (above-del r.0 k rs h.0, ascend-del k rs h.1) ]

  -- ---- tables of ascending names with the same rows are one
  some_first : (r : ℕ × X) (rs : List (ℕ × X)) → ((n : ℕ) → row_at (r ∷ rs) n ≡ None) → ⊥
  unfolding row_at
  some_first r rs h = let q = rw (same_number r.0) at (h r.0) in absurd (cc)

  rest_same : (r s : ℕ × X) (rs ss : List (ℕ × X)) → NamesAscend (names (r ∷ rs)) → NamesAscend (names (s ∷ ss)) → r.0 ≡ s.0 → ((n : ℕ) → row_at (r ∷ rs) n ≡ row_at (s ∷ ss) n) → (n : ℕ) → row_at rs n ≡ row_at ss n
  unfolding row_at
  rest_same r s rs ss a b q h n =
      elim (cases_eq r.0 n) [
        | inl e ↦ absent r.0 n rs e a.0 ∙ sym (absent s.0 n ss (sym q ∙ e) b.0)
        | inr ne ↦ let t = h n in let m : s.0 ≢ n = λ e. ne (q ∙ e) in rw (other_number r.0 n ne, other_number s.0 n m) at t
      ]

  first_same : (r s : ℕ × X) (rs ss : List (ℕ × X)) → NamesAscend (names (r ∷ rs)) → NamesAscend (names (s ∷ ss)) → ((n : ℕ) → row_at (r ∷ rs) n ≡ row_at (s ∷ ss) n) → r ≡ s
  unfolding row_at
  first_same r s rs ss a b h =
      elim (cases_eq r.0 s.0) [
        | inl q ↦
            let t = rw (same_number r.0) at (h r.0) in
            let u = rw (q, same_number s.0) at t in
            let w : r.1 ≡ s.1 = cc in
            (λ i. (q i, w i))
        | inr ne ↦ elim (cases_lt r.0 s.0) [
          | inl l ↦ let t = rw (same_number r.0, other_number s.0 r.0 (λ e. ne (sym e)), absent r.0 r.0 ss refl (weaker r.0 s.0 (names ss) (omega arith) b.0)) at (h r.0) in absurd (cc)
          | inr l ↦ let t = rw (same_number s.0, other_number r.0 s.0 ne, absent s.0 s.0 rs refl (weaker s.0 r.0 (names rs) (omega arith) a.0)) at (h s.0) in absurd (cc)
        ]
      ]

  pub one_table : (rs ss : List (ℕ × X)) → NamesAscend (names rs) → NamesAscend (names ss) → ((n : ℕ) → row_at rs n ≡ row_at ss n) → rs ≡ ss
  unfolding row_at
  one_table [] [] a b h = refl
  one_table [] (s ∷ ss) a b h = absurd (some_first s ss (λ n. sym (h n) ∙ nothing n))
    where
      nothing : (n : ℕ) → row_at {X = X} [] n ≡ None
      nothing n = refl
  one_table (r ∷ rs) [] a b h = absurd (some_first r rs (λ n. h n ∙ nothing n))
    where
      nothing : (n : ℕ) → row_at {X = X} [] n ≡ None
      nothing n = refl
  one_table (r ∷ rs) (s ∷ ss) a b h =
      ap₂ (λ x xs. x ∷ xs) (first_same r s rs ss a b h) (one_table rs ss a.1 b.1 (rest_same r s rs ss a b (ap (λ p. p.0) (first_same r s rs ss a b h)) h))

-- ---- one row changed
pub row_at-edit : {X : Type 0} (k : ℕ) (f : X → X) (rs : List (ℕ × X)) (n : ℕ) → row_at (edit k f rs) n ≡ option_map (λ x. cond (n == k) (f x) x) (row_at rs n)
row_at-edit k f rs n = row_at-each _ rs n

same_row : {X : Type 0} (o : Option X) → option_map (λ x. x) o ≡ o
same_row None = refl
same_row (Some x) = refl

pub edit_hit : {X : Type 0} (k : ℕ) (f : X → X) (rs : List (ℕ × X)) → row_at (edit k f rs) k ≡ option_map f (row_at rs k)
edit_hit k f rs = row_at-each _ rs k ∙ ap (λ b. option_map (λ x. cond b (f x) x) (row_at rs k)) (same_number k)

pub edit_miss : {X : Type 0} (k : ℕ) (f : X → X) (rs : List (ℕ × X)) (n : ℕ) → n ≢ k → row_at (edit k f rs) n ≡ row_at rs n
edit_miss k f rs n ne = row_at-each _ rs n ∙ ap (λ b. option_map (λ x. cond b (f x) x) (row_at rs n)) (other_number n k ne) ∙ same_row (row_at rs n)
