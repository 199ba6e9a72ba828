-- Which ring is the innermost one round a point.
use Rattle.std.proofs.Common.{◌≡◌, ◌≢◌, ℕ, zero, suc, ◌+◌, ◌<◌, Bool, true, false, not, cond, arith, refl, sym, ap, ap₂, ◌∙◌, subst, inl, inr, [], ◌∷◌, List, length, map, Less, is_lt, unsigned_abs}
use Rattle.std.specs.Prelude.{ℤ, pos, negsuc, neg_ℤ, ◌-ℤ◌, ◌*ℤ◌, ◌%◌, ◌==◌, Option, Some, None}
use Rattle.std.specs.List.{count_by, sum_by, range_with_len}
use Rattle.std.proofs.lemmas.Bool.{cases_lt, false≢true}
use Rattle.std.proofs.lemmas.Int.{ints}
use lib.Signed.{lt_z}
use Rattle.integers.specs.Ratio.{ratio_cmp}
use Rattle.integers.proofs.Reify.{ring, sides}
use Rattle.integers.proofs.Tests.{lt_yes, lt_no, lt_is, is_less}
use Rattle.std.proofs.lemmas.List.{map-id}
use Rattle.std.proofs.lemmas.List.FromFn.{sum_by-map-range_with_len_more}
use Rattle.edge_predicates.proofs.DartsAbove.{flips}
use Rattle.edge_predicates.proofs.Sides.{less_is}
use Rattle.exact_plane.specs.Direction.{turn}
use Rattle.exact_plane.specs.Point.{Point}
use Rattle.exact_plane.specs.PointOrder.{point_cmp}
use Rattle.exact_plane.specs.PointOrderLaws.{point_cmp_total}
use Rattle.region_rings.specs.Holes.{corner_in}
use Rattle.region_rings.specs.Nesting.{side_below, goes_round, IsRound, IsInnermost, inner_one}
use Rattle.region_rings.proofs.HoleTells.{never, not_less}

-- ---- above a line, by slopes
not_right : (x : ℤ) → lt_z (pos 0) x ≡ false → pos (unsigned_abs x) ≡ neg_ℤ x
not_right (pos zero) h = refl
not_right (pos (suc n)) h = absurd (false≢true (sym h ∙ lt_yes (pos 0) (pos (suc n)) (omega (arith, ints))))
not_right (negsuc n) h = refl

to_right : (x : ℤ) → lt_z (pos 0) x ≡ true → pos (unsigned_abs x) ≡ x
to_right (pos n) h = refl
to_right (negsuc n) h = absurd (let k = lt_is (pos 0) (negsuc n) h in omega (arith, ints))

pub by_difference : (s t u : ℤ) → t -ℤ s ≡ u → lt_z s t ≡ lt_z (pos 0) u
by_difference s t u e = by (lt_z s t) refl
  where
    by : (b : Bool) → lt_z s t ≡ b → lt_z s t ≡ lt_z (pos 0) u
    by true h = h ∙ sym (lt_yes (pos 0) u (let k = lt_is s t h in omega (arith, ints)))
    by false h = h ∙ sym (lt_no (pos 0) u (λ k. false≢true (sym h ∙ lt_yes s t (omega (arith, ints)))))

pub above_is : (x y z w : ℤ) → lt_z (pos 0) x ≡ false → lt_z (pos 0) z ≡ true → is_lt (ratio_cmp y (pos (unsigned_abs x)) (neg_ℤ w) (pos (unsigned_abs z))) ≡ lt_z (pos 0) (turn (record { x = x; y = y }) (record { x = z; y = w }))
above_is x y z w h k =
    (λ i. is_lt (ratio_cmp y (not_right x h i) (neg_ℤ w) (to_right z k i)))
    ∙ less_is (y *ℤ z) (neg_ℤ w *ℤ neg_ℤ x)
    ∙ by_difference (y *ℤ z) (neg_ℤ w *ℤ neg_ℤ x) (turn (record { x = x; y = y }) (record { x = z; y = w })) (ring (x ∷ y ∷ z ∷ w ∷ []) (search sides depth 40 fits 20000) tt)

-- ---- sides that pass below
module _ (ps : List Point) (p : Point) (i : ℕ) where
  abbrev passed : ℕ → ℕ
  passed n = count_by (side_below ps p) (range_with_len 0 n)

  one : ℕ → ℕ
  one j = cond (side_below ps p j) 1 0

  by_map : (n : ℕ) → sum_by one (map (λ (j : ℕ). j) (range_with_len 0 n)) ≡ passed n
  unfolding one
  by_map n = ap (sum_by one) (map-id (range_with_len 0 n))

  more : (b : Bool) → side_below ps p i ≡ b → passed (i + 1) ≡ passed i + cond b 1 0
  more b h = sym (by_map (i + 1)) ∙ sum_by-map-range_with_len_more one (λ (j : ℕ). j) 0 i i (omega arith) ∙ ap₂ (λ m n. m + n) (by_map i) (unfold one in ap (λ x. cond {A = ℕ} x 1 0) h)

  pub one_passes : side_below ps p i ≡ true → (b : Bool) → b ≡ (passed i % 2 == 1) → not b ≡ (passed (i + 1) % 2 == 1)
  one_passes h b e = ap not e ∙ sym (flips (passed i)) ∙ ap (λ n. n % 2 == 1) (sym (more true h))

  pub none_passes : side_below ps p i ≡ false → (b : Bool) → b ≡ (passed i % 2 == 1) → b ≡ (passed (i + 1) % 2 == 1)
  none_passes h b e = e ∙ ap (λ n. n % 2 == 1) (sym (more false h ∙ (let z : passed i + 0 ≡ passed i = omega arith in z)))

  pub whole_round : i ≡ length ps → (passed i % 2 == 1) ≡ goes_round ps p
  whole_round e = ap (λ n. passed n % 2 == 1) e

-- ---- the innermost one
module _ (points : List Point) (ends : List ℕ) (holes : List Bool) (leasts : List Point) (p : Point) where
  -- of the first rings
  abbrev pub IsFound : ℕ → Option ℕ → Type 0
  IsFound n None = (q : ℕ) → q < n → IsRound points ends holes p q → ⊥
  IsFound n (Some q) = (q < n) × IsRound points ends holes p q × ((r : ℕ) → r < n → IsRound points ends holes p r → point_cmp (corner_in leasts q) (corner_in leasts r) ≢ Less)

  module _ (n : ℕ) (R : IsRound points ends holes p n) where
    not_before_itself : (r : ℕ) → r < n + 1 → (r < n → ⊥) → point_cmp (corner_in leasts n) (corner_in leasts r) ≢ Less
    not_before_itself r l h e = let q : r ≡ n = omega arith in never (corner_in leasts n) (subst (λ k. point_cmp (corner_in leasts n) (corner_in leasts k) ≡ Less) q e)

    module _ (q : ℕ) (l : q < n) (Q : IsRound points ends holes p q) (h : (r : ℕ) → r < n → IsRound points ends holes p r → point_cmp (corner_in leasts q) (corner_in leasts r) ≢ Less) where
      by_test : (b : Bool) → is_lt (point_cmp (corner_in leasts q) (corner_in leasts n)) ≡ b → IsFound (n + 1) (Some (cond b n q))
      by_test true t = (
        omega arith,
        R,
        λ r m S e. elim (cases_lt r n) [
          | inl a ↦ h r a S (point_cmp_total.trans (corner_in leasts q) (corner_in leasts n) (corner_in leasts r) (is_less (point_cmp (corner_in leasts q) (corner_in leasts n)) t) e)
          | inr a ↦ not_before_itself r m (λ k. omega arith) e
        ],
      )
      by_test false t = (
        omega arith,
        Q,
        λ r m S e. elim (cases_lt r n) [
          | inl a ↦ h r a S e
          | inr a ↦ (let f : r ≡ n = omega arith in not_less (point_cmp (corner_in leasts q) (corner_in leasts n)) t (subst (λ k. point_cmp (corner_in leasts q) (corner_in leasts k) ≡ Less) f e))
        ],
      )

    pub found_more : (o : Option ℕ) → IsFound n o → IsFound (n + 1) (Some (inner_one leasts o n))
    found_more None h = (
      omega arith,
      R,
      λ r m S e. elim (cases_lt r n) [
        | inl a ↦ h r a S
        | inr a ↦ not_before_itself r m (λ k. omega arith) e
      ],
    )
    found_more (Some q) h = by_test q h.0 h.1 h.2 (is_lt (point_cmp (corner_in leasts q) (corner_in leasts n))) refl

  module _ (n : ℕ) (R : IsRound points ends holes p n → ⊥) where
    at_last : (r : ℕ) → r < n + 1 → IsRound points ends holes p r → r < n
    at_last r l S = elim (cases_lt r n) [
      | inl a ↦ a
      | inr a ↦ (let f : r ≡ n = omega arith in absurd (R (subst (λ k. IsRound points ends holes p k) f S)))
    ]

    pub found_still : (o : Option ℕ) → IsFound n o → IsFound (n + 1) o
    found_still None h = λ q l Q. h q (at_last q l Q) Q
    found_still (Some q) h = (let l = h.0 in omega arith, h.1, λ r l S. h.2 r (at_last r l S) S)

  pub found_all : (n : ℕ) → n ≡ length ends → (o : Option ℕ) → IsFound n o → IsInnermost points ends holes leasts p o
  found_all n e None h = λ q Q. h q (subst (λ m. q < m) (sym e) Q.within) Q
  found_all n e (Some q) h = (h.1, λ r S. h.2 r (subst (λ m. r < m) (sym e) S.within) S)
