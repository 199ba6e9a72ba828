-- The order of ways by their slopes is the clockwise one.
use Rattle.std.proofs.Common.{◌≡◌, ℕ, zero, suc, Bool, true, false, ◌⊎◌, inl, inr, arith, refl, sym, ap, ◌∙◌, Ordering, [], ◌∷◌, nat_cmp, is_lt, unsigned_abs}
use Rattle.std.specs.Prelude.{ℤ, pos, negsuc, neg_ℤ, ◌-ℤ◌, ◌*ℤ◌, ◌<ℤ◌, ◌&&◌, ◌||◌, ◌==◌}
use Rattle.std.specs.Ordering.{ordering_then, match_ordering}
use Rattle.std.proofs.lemmas.Bool.Decides.{nat_tests}
use Rattle.std.proofs.lemmas.Int.{ints}
use lib.Dec.{ltb}
use lib.Signed.{lt_z}
use Rattle.integers.specs.Ratio.{ratio_cmp}
use Rattle.integers.proofs.Compare.{less_in, equal_in, greater_in}
use Rattle.integers.proofs.Reify.{ring, sides}
use Rattle.integers.proofs.Tests.{lt_yes, lt_no, zero_below, zero_above}
use Rattle.edge_predicates.proofs.Sides.{less_is}
use Rattle.exact_plane.specs.Direction.{Direction, turn}
use Rattle.exact_plane.specs.PointOrder.{weight}
use Rattle.rotation_order.specs.Directions.{quarter_by, quarter, direction_before}
use Rattle.rotation_order.proofs.Quarters.{no_turn}
use Rattle.region_rings.specs.Spokes.{rise}

-- ---- where a direction goes, by its abscissa
pub data Goes (d : Direction) : Type 0 where
  left : d.x <ℤ pos 0 → Goes d
  upright : d.x ≡ pos 0 → Goes d
  right : pos 0 <ℤ d.x → Goes d

goes_by : (d : Direction) (x : ℤ) → d.x ≡ x → Goes d
goes_by d (pos zero) e = upright e
goes_by d (pos (suc n)) e = right (omega (arith, ints))
goes_by d (negsuc n) e = left (omega (arith, ints))

pub goes : (d : Direction) → Goes d
goes d = goes_by d d.x refl

module _ (d : Direction) where
  pub left_quarter : d.x <ℤ pos 0 → quarter d ≡ 0
  left_quarter h i = quarter_by (lt_yes d.x (pos 0) h i) (lt_z (pos 0) d.x) (lt_z d.y (pos 0))

  pub right_quarter : pos 0 <ℤ d.x → quarter d ≡ 2
  right_quarter h i = quarter_by (lt_no d.x (pos 0) (λ k. omega (arith, ints)) i) (lt_yes (pos 0) d.x h i) (lt_z d.y (pos 0))

  upright_by : (b : Bool) → (quarter_by false false b ≡ 1) ⊎ (quarter_by false false b ≡ 3)
  upright_by true = inr refl
  upright_by false = inl refl

  upright_as : (q : ℕ) → quarter d ≡ q → (q ≡ 1) ⊎ (q ≡ 3) → (quarter d ≡ 1) ⊎ (quarter d ≡ 3)
  upright_as q e (inl f) = inl (e ∙ f)
  upright_as q e (inr f) = inr (e ∙ f)

  pub upright_quarter : d.x ≡ pos 0 → (quarter d ≡ 1) ⊎ (quarter d ≡ 3)
  upright_quarter h = upright_as (quarter_by false false (lt_z d.y (pos 0))) (λ i. quarter_by (zero_below d.x h i) (zero_above d.x h i) (lt_z d.y (pos 0))) (upright_by (lt_z d.y (pos 0)))

  left_rise : d.x <ℤ pos 0 → rise d ≡ neg_ℤ d.y
  left_rise h = ap (λ o. match_ordering o (neg_ℤ d.y) (pos 0) d.y) (less_in d.x (pos 0) h)

  right_rise : pos 0 <ℤ d.x → rise d ≡ d.y
  right_rise h = ap (λ o. match_ordering o (neg_ℤ d.y) (pos 0) d.y) (greater_in d.x (pos 0) h)

  upright_rise : d.x ≡ pos 0 → rise d ≡ pos 0
  upright_rise h = ap (λ o. match_ordering o (neg_ℤ d.y) (pos 0) d.y) (equal_in d.x (pos 0) h)

left_run : (x : ℤ) → x <ℤ pos 0 → weight (pos (unsigned_abs x)) ≡ neg_ℤ x
left_run (pos n) h = absurd (omega (arith, ints))
left_run (negsuc n) h = refl

right_run : (x : ℤ) → pos 0 <ℤ x → weight (pos (unsigned_abs x)) ≡ x
right_run (pos zero) h = absurd (omega (arith, ints))
right_run (pos (suc n)) h = refl
right_run (negsuc n) h = absurd (omega (arith, ints))

upright_run : (x : ℤ) → x ≡ pos 0 → weight (pos (unsigned_abs x)) ≡ pos 1
upright_run x h = ap (λ z. weight (pos (unsigned_abs z))) h

-- ---- slopes
by_turn_of : (s t u : ℤ) → s -ℤ t ≡ u → lt_z s t ≡ lt_z u (pos 0)
by_turn_of s t u e = by (lt_z s t) refl
  where
    by : (b : Bool) → lt_z s t ≡ b → lt_z s t ≡ lt_z u (pos 0)
    by true h = h ∙ sym (lt_yes u (pos 0) (omega (arith, ints)))
    by false h = h ∙ sym (lt_no u (pos 0) (λ k. omega (arith, ints)))

abbrev slopes : Direction → Direction → Ordering
slopes a b = ratio_cmp (rise b) (weight (pos (unsigned_abs b.x))) (rise a) (weight (pos (unsigned_abs a.x)))

module _ (a b : Direction) where
  both_left : a.x <ℤ pos 0 → b.x <ℤ pos 0 → is_lt (slopes a b) ≡ lt_z (turn a b) (pos 0)
  both_left h k =
      (λ i. is_lt (ratio_cmp (left_rise b k i) (left_run b.x k i) (left_rise a h i) (left_run a.x h i)))
      ∙ less_is (neg_ℤ b.y *ℤ neg_ℤ a.x) (neg_ℤ a.y *ℤ neg_ℤ b.x)
      ∙ by_turn_of (neg_ℤ b.y *ℤ neg_ℤ a.x) (neg_ℤ a.y *ℤ neg_ℤ b.x) (turn a b) (ring (a.x ∷ a.y ∷ b.x ∷ b.y ∷ []) (search sides depth 40 fits 20000) tt)

  both_right : pos 0 <ℤ a.x → pos 0 <ℤ b.x → is_lt (slopes a b) ≡ lt_z (turn a b) (pos 0)
  both_right h k =
      (λ i. is_lt (ratio_cmp (right_rise b k i) (right_run b.x k i) (right_rise a h i) (right_run a.x h i)))
      ∙ less_is (b.y *ℤ a.x) (a.y *ℤ b.x)
      ∙ by_turn_of (b.y *ℤ a.x) (a.y *ℤ b.x) (turn a b) (ring (a.x ∷ a.y ∷ b.x ∷ b.y ∷ []) (search sides depth 40 fits 20000) tt)

  both_upright : a.x ≡ pos 0 → b.x ≡ pos 0 → is_lt (slopes a b) ≡ lt_z (turn a b) (pos 0)
  both_upright h k =
      (λ i. is_lt (ratio_cmp (upright_rise b k i) (upright_run b.x k i) (upright_rise a h i) (upright_run a.x h i)))
      ∙ sym (ap (λ z. lt_z z (pos 0)) (no_turn a b h k))

  -- in one quarter
  same : Goes a → Goes b → quarter a ≡ quarter b → is_lt (slopes a b) ≡ lt_z (turn a b) (pos 0)
  same (left h) (left k) q = both_left h k
  same (left h) (upright k) q = absurd (let x = left_quarter a h in elim (upright_quarter b k) [ inl y ↦ omega arith | inr y ↦ omega arith ])
  same (left h) (right k) q = absurd (let x = left_quarter a h in let y = right_quarter b k in omega arith)
  same (upright h) (left k) q = absurd (let x = left_quarter b k in elim (upright_quarter a h) [ inl y ↦ omega arith | inr y ↦ omega arith ])
  same (upright h) (upright k) q = both_upright h k
  same (upright h) (right k) q = absurd (let x = right_quarter b k in elim (upright_quarter a h) [ inl y ↦ omega arith | inr y ↦ omega arith ])
  same (right h) (left k) q = absurd (let x = right_quarter a h in let y = left_quarter b k in omega arith)
  same (right h) (upright k) q = absurd (let x = right_quarter a h in elim (upright_quarter b k) [ inl y ↦ omega arith | inr y ↦ omega arith ])
  same (right h) (right k) q = both_right h k

then_by : (m n : ℕ) (o : Ordering) (t : Bool) → (m ≡ n → is_lt o ≡ t) → is_lt (ordering_then (nat_cmp m n) o) ≡ (ltb m n || ((m == n) && t))
then_by m n o t f = grind (arith, nat_tests, f)

pub before_is : (a b : Direction) → is_lt (ordering_then (nat_cmp (quarter a) (quarter b)) (ratio_cmp (rise b) (weight (pos (unsigned_abs b.x))) (rise a) (weight (pos (unsigned_abs a.x))))) ≡ direction_before a b
before_is a b = then_by (quarter a) (quarter b) (slopes a b) (lt_z (turn a b) (pos 0)) (same a b (goes a) (goes b))
