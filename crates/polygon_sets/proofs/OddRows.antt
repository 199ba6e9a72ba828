-- Pieces at vertices, one dart more.
use Rattle.std.proofs.Common.{◌≡◌, ◌≢◌, ℕ, zero, suc, ◌+◌, ◌<◌, ◌≤◌, Bool, true, false, cond, arith, refl, sym, ap, ◌∙◌, inl, inr, List, length, take, get_or}
use Rattle.std.specs.Prelude.{◌%◌, ◌==◌, ◌-◌, not, Some, None}
use Rattle.std.specs.List.{sum_by}
use Rattle.std.proofs.lemmas.Bool.{cases_lt, cases_eq, eq-eqb, ne_eqb}
use Rattle.std.proofs.lemmas.List.{take_all}
use Rattle.std.proofs.lemmas.List.Sums.{sum_by_more}
use Rattle.slab_laws.specs.declared.rows.ListedDart.{ListedDart}
use Rattle.polygon_sets.specs.OddVertices.{no_row, row_at, out_pieces, IsFirstOdd}
use Rattle.slab_faces.proofs.OddSums.{rest_is}

odd_by : (n : ℕ) (b : Bool) → n % 2 ≡ cond b 1 0 → (n % 2 == 1) ≡ b
odd_by n true h = ap (λ r. r == 1) h
odd_by n false h = ap (λ r. r == 1) h

add_odd : (a n : ℕ) (p q : Bool) → a % 2 ≡ cond p 1 0 → n % 2 ≡ cond q 1 0 → (a + n) % 2 ≡ cond (cond q (not p) p) 1 0
add_odd a n true true h k = omega arith
add_odd a n true false h k = omega arith
add_odd a n false true h k = omega arith
add_odd a n false false h k = omega arith

-- a sum with one more
pub changed : (a n : ℕ) (p q : Bool) → (a % 2 == 1) ≡ p → (n % 2 == 1) ≡ q → ((a + n) % 2 == 1) ≡ cond q (not p) p
changed a n p q h k = odd_by (a + n) (cond q (not p) p) (add_odd a n p q (rest_is a ∙ ap (λ b. cond {A = ℕ} b 1 0) h) (rest_is n ∙ ap (λ b. cond {A = ℕ} b 1 0) k))

module _ (rows : List ListedDart) (pieces : List ℕ) where
  abbrev upto : ℕ → ℕ → ℕ
  upto i v = sum_by (out_pieces pieces v) (take i rows)

  -- of the first i darts, v being the last source and `odd` what it has so far
  pub record IsOddUpto (i v : ℕ) (odd : Bool) : Type 0 where
    pub within : i ≤ length rows
    pub before : (k : ℕ) → k < i → (row_at rows k).source ≤ v
    pub after : (k : ℕ) → i ≤ k → k < length rows → v ≤ (row_at rows k).source
    pub here : (sum_by (out_pieces pieces v) (take i rows) % 2 == 1) ≡ odd
    pub even : (u : ℕ) → u < v → (sum_by (out_pieces pieces u) (take i rows) % 2 == 1) ≡ false

  other : (v k : ℕ) → (row_at rows k).source ≢ v → out_pieces pieces v (row_at rows k) ≡ 0
  other v k d = ap (λ b. cond b (get_or pieces (row_at rows k).edge 0) 0) (ne_eqb (row_at rows k).source v d)

  own : (v k : ℕ) → (row_at rows k).source ≡ v → out_pieces pieces v (row_at rows k) ≡ get_or pieces (row_at rows k).edge 0
  own v k e = ap (λ b. cond b (get_or pieces (row_at rows k).edge 0) 0) (eq-eqb (row_at rows k).source v e)

  none_upto : (v i : ℕ) → i ≤ length rows → ((k : ℕ) → k < i → (row_at rows k).source ≢ v) → upto i v ≡ 0
  none_upto v zero l h = refl
  none_upto v (suc i) l h =
      let e : suc i ≡ i + 1 = omega arith in
      let a = none_upto v i (omega arith) (λ k m. h k (omega arith)) in
      let b = sum_by_more (out_pieces pieces v) rows i no_row (omega arith) in
      let c = other v i (h i (omega arith)) in
      ap (λ n. upto n v) e ∙ b ∙ omega arith

  same_after : (v i n : ℕ) → i + n ≤ length rows → ((k : ℕ) → i ≤ k → k < length rows → (row_at rows k).source ≢ v) → upto (i + n) v ≡ upto i v
  same_after v i zero l h = let e : i + 0 ≡ i = omega arith in ap (λ m. upto m v) e
  same_after v i (suc n) l h =
      let e : i + suc n ≡ (i + n) + 1 = omega arith in
      let a = same_after v i n (omega arith) h in
      let b = sum_by_more (out_pieces pieces v) rows (i + n) no_row (omega arith) in
      let c = other v (i + n) (h (i + n) (omega arith) (omega arith)) in
      ap (λ m. upto m v) e ∙ b ∙ omega arith

  all_after : (v i : ℕ) → i ≤ length rows → ((k : ℕ) → i ≤ k → k < length rows → (row_at rows k).source ≢ v) → sum_by (out_pieces pieces v) rows ≡ upto i v
  all_after v i l h = by_length
    where
      split : (n m : ℕ) → i ≤ n → (m' : ℕ) × (n ≡ i + m')
      split n m k = (n - i, omega arith)

      by_length : sum_by (out_pieces pieces v) rows ≡ upto i v
      by_length =
          let s = split (length rows) 0 l in
          ap (sum_by (out_pieces pieces v)) (sym (take_all (length rows) rows (omega arith))) ∙ ap (λ n. upto n v) s.1 ∙ same_after v i s.0 (let x = s.1 in omega arith) h

  pub no_darts : IsOddUpto 0 0 false
  no_darts = record { within = omega arith; before = λ k l. absurd (omega arith); after = λ k a l. omega arith; here = refl; even = λ u l. absurd (omega arith) }

  module _ (sorted : (i k : ℕ) → i ≤ k → k < length rows → (row_at rows i).source ≤ (row_at rows k).source) (i v : ℕ) (odd : Bool) (t : IsOddUpto i v odd) where
    -- all later darts begin after v
    left_behind : i < length rows → (row_at rows i).source ≢ v → (k : ℕ) → i ≤ k → k < length rows → (row_at rows k).source ≢ v
    left_behind l d k a m e = let x = sorted i k a m in let y = t.after i (omega arith) l in d (omega arith)

    pub found : i < length rows → (row_at rows i).source ≢ v → odd ≡ true → IsFirstOdd rows pieces (Some v)
    found l d e = (
      ap (λ n. n % 2 == 1) (all_after v i t.within (left_behind l d)) ∙ t.here ∙ e,
      λ u m. ap (λ n. n % 2 == 1) (all_after u i t.within (λ k a b q. let x = t.after k a b in absurd (omega arith))) ∙ t.even u m,
    )

    pub next_dart : (w : ℕ) (o : Bool) → i < length rows → w ≡ (row_at rows i).source → ((row_at rows i).source ≢ v → odd ≡ false) → o ≡ cond (get_or pieces (row_at rows i).edge 0 % 2 == 1) (not odd) odd → IsOddUpto (i + 1) w o
    next_dart w o l e quiet r =
        let n : ℕ = get_or pieces (row_at rows i).edge 0 in
        let here : (upto i w % 2 == 1) ≡ odd = (elim (cases_eq (row_at rows i).source v) [
          | inl q ↦ ap (λ x. upto i x % 2 == 1) (e ∙ q) ∙ t.here
          | inr q ↦ ap (λ x. x % 2 == 1) (none_upto w i t.within (λ k a b. let x = t.before k a in let y = t.after i (omega arith) l in q (omega arith))) ∙ sym (quiet q)
        ]) in
        let quiet' : (u : ℕ) → u < w → (upto i u % 2 == 1) ≡ false = λ u m. elim (cases_lt u v) [
          | inl a ↦ t.even u a
          | inr a ↦ elim (cases_eq u v) [
            | inl q ↦ ap (λ x. upto i x % 2 == 1) q ∙ t.here ∙ quiet (λ z. absurd (omega arith))
            | inr q ↦ ap (λ x. x % 2 == 1) (none_upto u i t.within (λ k b c. let x = t.before k b in absurd (omega arith)))
          ]
        ] in
        record {
          within = omega arith;
          before = λ k a. (let x = sorted k i (omega arith) l in omega arith);
          after = λ k a b. (let x = sorted i k (omega arith) b in omega arith);
          here = ap (λ x. x % 2 == 1) (sum_by_more (out_pieces pieces w) rows i no_row l ∙ ap (λ x. upto i w + x) (own w i (sym e))) ∙ changed (upto i w) n odd (n % 2 == 1) here refl ∙ sym r;
          even = λ u m. ap (λ x. x % 2 == 1) (sum_by_more (out_pieces pieces u) rows i no_row l ∙ ap (λ x. upto i u + x) (other u i (λ q. absurd (omega arith)))) ∙ ap (λ x. x % 2 == 1) (omega arith) ∙ quiet' u m;
        }

    pub last_odd : length rows ≤ i → odd ≡ true → IsFirstOdd rows pieces (Some v)
    last_odd l e = (
      ap (λ n. n % 2 == 1) (all_after v i t.within (λ k a b q. absurd (omega arith))) ∙ t.here ∙ e,
      λ u m. ap (λ n. n % 2 == 1) (all_after u i t.within (λ k a b q. absurd (omega arith))) ∙ t.even u m,
    )

    pub none_odd : length rows ≤ i → odd ≡ false → IsFirstOdd rows pieces None
    none_odd l e u =
        let all = ap (λ n. n % 2 == 1) (all_after u i t.within (λ k a b q. absurd (omega arith))) in
        elim (cases_lt u v) [
          | inl a ↦ all ∙ t.even u a
          | inr a ↦ elim (cases_eq u v) [
            | inl q ↦ all ∙ ap (λ x. upto i x % 2 == 1) q ∙ t.here ∙ e
            | inr q ↦ all ∙ ap (λ x. x % 2 == 1) (none_upto u i t.within (λ k b c. let x = t.before k b in absurd (omega arith)))
          ]
        ]
