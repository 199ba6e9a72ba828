-- Where a point cuts the status.
use Rattle.std.proofs.Common.{◌≡◌, ℕ, zero, suc, ◌<◌, ◌≤◌, ◌+◌, ◌-◌, ℤ, pos, ◌<ℤ◌, ◌≤ℤ◌, refl, ap, sym, ◌∙◌, subst, arith, inl, inr, Bool, true, false, List, [], ◌∷◌, ◌++◌, length, get_or, drop}
use Rattle.std.specs.Prelude.{not, int_lt}
use Rattle.std.specs.List.{prefix_len}
use Rattle.std.specs.List.Sorted.{IsPartitionPoint, IsPartitionedBy}
use Rattle.std.proofs.lemmas.Int.{ints, by_lt_z}
use Rattle.std.proofs.lemmas.Bool.{false_from_ne_true, cases_lt}
use Rattle.std.proofs.lemmas.List.{get_or-drop, length-drop}
use Rattle.std.proofs.lemmas.List.Sums.{prefix_len_passes, prefix_len_stops}
use Rattle.integers.proofs.Decisions.{lt_out, lt_in, ge_out, ge_in}
use Rattle.exact_plane.specs.Line.{side_of, IsLine}
use Rattle.exact_plane.specs.Point.{Point}
use Rattle.exact_plane.specs.Span.{Span}
use Rattle.plane_graphs.specs.Ascending.{Member, IsAscending}
use Rattle.plane_graphs.proofs.Sorting.{parted, member_at}
use Rattle.sweep_events.specs.Places.{piece_at, is_below, is_upto, AreSpans, ArePlaces, IsCutBelow, IsCutUpto}
use Rattle.sweep_events.specs.Status.{waiting_cmp}
use Rattle.sweep_events.proofs.EventSteps.{falls}

-- what passes below a point passes no higher than through it
pub below_upto : (pieces : List Span) (q : Point) (i : ℕ) → is_below pieces q i ≡ true → is_upto pieces q i ≡ true
below_upto pieces q i h = ap not (ge_in (side_of (piece_at pieces i).line q) (pos 0) (weak (side_of (piece_at pieces i).line q) (lt_out (pos 0) (side_of (piece_at pieces i).line q) h)))
  where
    weak : (z : ℤ) → pos 0 <ℤ z → pos 0 ≤ℤ z
    weak z h = omega (arith, ints)

-- ---- two lists of which P holds of one and Q of the other, one after the other
module _ {X : Type 0} (P Q : X → Type 0) where
  one_more : (x : X) (zs : List X) (n : ℕ) → P x → IsPartitionPoint P Q zs n → IsPartitionPoint P Q (x ∷ zs) (suc n)
  one_more x zs n h r = (early, late)
    where
      early : (j : ℕ) (d : X) → 0 ≤ j → j < suc n → P (get_or (x ∷ zs) j d)
      early zero d a b = h
      early (suc j) d a b = r.0 j d (omega arith) (omega (arith, b))

      late : (j : ℕ) (d : X) → suc n ≤ j → j < length (x ∷ zs) → Q (get_or (x ∷ zs) j d)
      late zero d a b = absurd (omega (arith, a))
      late (suc j) d a b = r.1 j d (omega (arith, a)) (omega (arith, b))

  pub parted_by : (xs ys : List X) → ((x : X) → Member x xs → P x) → ((y : X) → Member y ys → Q y) → IsPartitionPoint P Q (xs ++ ys) (length xs)
  parted_by [] ys f g = (λ j d a b. absurd (omega (arith, b)), λ j d a b. g (get_or ys j d) (member_at ys j d b))
  parted_by (x ∷ xs) ys f g = one_more x (xs ++ ys) (length xs) (f x (inl refl)) (parted_by xs ys (λ y m. f y (inr m)) g)

-- ---- a list that is parted by p and by r, which holds wherever p does: after those of which p holds, as far as r does
module _ {X : Type 0} (p r : X → Bool) (implied : (x : X) → p x ≡ true → r x ≡ true) (xs : List X) (parted : IsPartitionedBy r xs) where
  pub further : (n m : ℕ) → IsPartitionPoint (λ x. p x ≡ true) (λ x. p x ≡ false) xs n → (rest : List X) → rest ≡ drop n xs → m ≡ prefix_len r rest → IsPartitionPoint (λ x. r x ≡ true) (λ x. r x ≡ false) xs (n + m)
  further n m cut rest e f = (
    λ j d a l. elim (cases_lt j n) [
      | inl b ↦ implied (get_or xs j d) (cut.0 j d a b)
      | inr b ↦ subst (λ x. r x ≡ true) (there j d b) (prefix_len_passes r rest (j - n) d (omega (arith, f, l, b)))
    ],
    λ j d a l. false_from_ne_true _ (λ t.
        let u = parted (n + m) j d a l t in
        let k : prefix_len r rest < length rest = let g = ap length e ∙ length-drop n xs in omega (arith, f, g, a, l) in
        let v = prefix_len_stops r rest d k in
        let w : get_or rest (prefix_len r rest) d ≡ get_or xs (n + m) d = ap (λ i. get_or rest i d) (sym f) ∙ ap (λ (ys : List X). get_or ys m d) e ∙ get_or-drop n xs m d in
        clash (sym u ∙ sym (ap r w) ∙ v)),
  )
    where
      there : (j : ℕ) (d : X) → n ≤ j → get_or rest (j - n) d ≡ get_or xs j d
      there j d b = ap (λ (ys : List X). get_or ys (j - n) d) e ∙ get_or-drop n xs (j - n) d ∙ ap (λ i. get_or xs i d) (omega (arith, b))

      clash : true ≡ false → ⊥
      clash e = cc

module _ (pieces : List Span) (q : Point) (status : List ℕ) (spans : AreSpans pieces) (places : ArePlaces pieces status) (waits : IsAscending (waiting_cmp (piece_at pieces) q) status) where
  line_of : (i : ℕ) → Member i status → IsLine (piece_at pieces i).line
  line_of i m = (spans i (places i m)).line

  pub parted_below : IsPartitionedBy (is_below pieces q) status
  parted_below = parted (waiting_cmp (piece_at pieces) q) (is_below pieces q) status waits
      (λ i j mi mj h t. lt_in (pos 0) (side_of (piece_at pieces i).line q) (by_lt_z (pos 0) (side_of (piece_at pieces i).line q) (λ k. k) (λ k. absurd (both_ways (side_of (piece_at pieces j).line q) (lt_out (pos 0) (side_of (piece_at pieces j).line q) t) ((falls (piece_at pieces) q i j (line_of i mi) (line_of j mj) h).0 k)))))
    where
      both_ways : (z : ℤ) → pos 0 <ℤ z → z ≤ℤ pos 0 → ⊥
      both_ways z h k = omega (arith, ints)

  pub parted_upto : IsPartitionedBy (is_upto pieces q) status
  parted_upto = parted (waiting_cmp (piece_at pieces) q) (is_upto pieces q) status waits
      (λ i j mi mj h t. not_in (side_of (piece_at pieces i).line q) ((falls (piece_at pieces) q i j (line_of i mi) (line_of j mj) h).1 (not_out (side_of (piece_at pieces j).line q) t)))
    where
      not_out : (z : ℤ) → not (int_lt z (pos 0)) ≡ true → pos 0 ≤ℤ z
      not_out z h = ge_out z (pos 0) (flip (int_lt z (pos 0)) h)
        where
          flip : (b : Bool) → not b ≡ true → b ≡ false
          flip true e = cc
          flip false e = refl

      not_in : (z : ℤ) → pos 0 ≤ℤ z → not (int_lt z (pos 0)) ≡ true
      not_in z h = ap not (ge_in z (pos 0) h)

  -- where those that pass below are known: after them, as far as they pass through
  pub upto_after : (n m : ℕ) → IsCutBelow pieces q status n → (rest : List ℕ) → rest ≡ drop n status → m ≡ prefix_len (is_upto pieces q) rest → IsCutUpto pieces q status (n + m)
  upto_after = further (is_below pieces q) (is_upto pieces q) (below_upto pieces q) status parted_upto
