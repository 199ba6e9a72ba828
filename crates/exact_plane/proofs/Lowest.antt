-- Three numbers in range, brought to lowest terms, are a point's.
use Rattle.std.proofs.Common.{◌≡◌, ℕ, ◌*◌, ◌<◌, ◌≤◌, true, ◌&&◌, ltb, leb, ℤ, pos, negsuc, ◌*ℤ◌, refl, sym, ◌∙◌, subst, arith}
use Rattle.std.specs.Prelude.{unsigned_abs, int_div}
use Rattle.std.proofs.Math.IntN.{*ℤ-one}
use Rattle.std.specs.Int.{◌∣◌}
use Rattle.std.proofs.lemmas.Bool.{leb-true, le-leb, lt-ltb, ltb-true}
use Rattle.std.proofs.lemmas.Int.{ints}
use Rattle.std.proofs.lemmas.Nat.Gcd.{le_of_dvd}
use Rattle.integers.specs.Lowest.{common_divisor}
use Rattle.integers.proofs.Decisions.{both}
use Rattle.integers.proofs.Gcd.{positive_divisor, lowest_by_divisors, common_divisor-first, common_divisor-second, common_divisor-third, common_divisor-positive}
use Rattle.integers.proofs.Reduce.{divided, divided_pos, divided_le, divided_within, same_ratio, reduced_lowest}
use Rattle.exact_plane.specs.declared.bounds.TheConstants.{MAX_COORDINATE, WEIGHT_LIMIT}
use Rattle.exact_plane.specs.Point.{Point, in_range, reduced, IsInRange, IsPoint}

-- what being in range says of the sizes
pub record Sizes (x y n : ℕ) : Type 0 where
  pub some : 0 < n
  pub few : n < WEIGHT_LIMIT
  pub first : x ≤ MAX_COORDINATE * n
  pub second : y ≤ MAX_COORDINATE * n

pub sizes : (x y : ℤ) (n : ℕ) → in_range x y (pos n) ≡ true → Sizes (unsigned_abs x) (unsigned_abs y) n
sizes x y n h =
    let a = both (ltb 0 n) (ltb n WEIGHT_LIMIT && (leb (unsigned_abs x) (MAX_COORDINATE * n) && leb (unsigned_abs y) (MAX_COORDINATE * n))) h in
    let b = both (ltb n WEIGHT_LIMIT) (leb (unsigned_abs x) (MAX_COORDINATE * n) && leb (unsigned_abs y) (MAX_COORDINATE * n)) a.1 in
    let c = both (leb (unsigned_abs x) (MAX_COORDINATE * n)) (leb (unsigned_abs y) (MAX_COORDINATE * n)) b.1 in
    record { some = ltb-true _ _ a.0; few = ltb-true _ _ b.0; first = leb-true _ _ c.0; second = leb-true _ _ c.1 }

pub from_sizes : (x y : ℤ) (n : ℕ) → Sizes (unsigned_abs x) (unsigned_abs y) n → in_range x y (pos n) ≡ true
from_sizes x y n s = rw (lt-ltb 0 n s.some, lt-ltb n WEIGHT_LIMIT s.few, le-leb (unsigned_abs x) (MAX_COORDINATE * n) s.first, le-leb (unsigned_abs y) (MAX_COORDINATE * n) s.second) refl

-- ---- the test and the fact
pub is_in_range : (x y w : ℤ) → in_range x y w ≡ true → IsInRange x y w
is_in_range x y (pos n) h = let s = sizes x y n h in record { positive = (let k = s.some in omega (arith, ints)); small = s.few; x_within = s.first; y_within = s.second }
is_in_range x y (negsuc n) h = absurd cc

pub in_range-is : (x y w : ℤ) → IsInRange x y w → in_range x y w ≡ true
in_range-is x y (pos n) r = from_sizes x y n (record { some = (let k = r.positive in omega (arith, ints)); few = r.small; first = r.x_within; second = r.y_within })
in_range-is x y (negsuc n) r = let k = r.positive in absurd (omega (arith, ints))

-- ---- lowest terms
module _ (x y w : ℤ) (r : IsInRange x y w) where
  some : 0 < common_divisor x y w
  some = let k = r.positive in common_divisor-positive x y w (omega (arith, ints))

  pub reduced_point : IsPoint (reduced x y w)
  reduced_point =
      let in_x = common_divisor-first x y w in
      let in_y = common_divisor-second x y w in
      let in_w = common_divisor-third x y w in
      let few = divided_le w (common_divisor x y w) in_w some in
      record {
        range = record {
          positive = divided_pos w (common_divisor x y w) in_w some r.positive;
          small = (let k = r.small in omega arith);
          x_within = divided_within x w MAX_COORDINATE (common_divisor x y w) some in_x in_w r.x_within;
          y_within = divided_within y w MAX_COORDINATE (common_divisor x y w) some in_y in_w r.y_within;
        };
        lowest = reduced_lowest x y w some;
      }

  pub same_place : (p : Point) → p ≡ reduced x y w → (p.x *ℤ w ≡ x *ℤ p.w) × (p.y *ℤ w ≡ y *ℤ p.w)
  same_place p e = subst (λ (p : Point). (p.x *ℤ w ≡ x *ℤ p.w) × (p.y *ℤ w ≡ y *ℤ p.w)) (sym e) (same x (common_divisor-first x y w), same y (common_divisor-second x y w))
    where
      same : (z : ℤ) → common_divisor x y w ∣ unsigned_abs z → int_div z (pos (common_divisor x y w)) *ℤ w ≡ z *ℤ int_div w (pos (common_divisor x y w))
      same z divides = same_ratio z w _ _ (pos (common_divisor x y w)) (divided z (common_divisor x y w) divides) (divided w (common_divisor x y w) (common_divisor-third x y w))

-- a whole point's numbers are in lowest terms as they are
module _ (x y : ℤ) where
  pub whole_lowest : common_divisor x y (pos 1) ≡ 1
  whole_lowest = lowest_by_divisors x y (pos 1) (λ d p q r. let some = positive_divisor d 1 r (omega arith) in let few = le_of_dvd (omega arith) r in omega arith)

  undivided : (z : ℤ) → common_divisor x y (pos 1) ∣ unsigned_abs z → int_div z (pos (common_divisor x y (pos 1))) ≡ z
  unfolding lib.IntN.one
  undivided z divides =
      let by_one : int_div z (pos 1) *ℤ pos 1 ≡ z = subst (λ g. int_div z (pos g) *ℤ pos g ≡ z) whole_lowest (divided z (common_divisor x y (pos 1)) divides) in
      subst (λ g. int_div z (pos g) ≡ z) (sym whole_lowest) (sym (*ℤ-one (int_div z (pos 1))) ∙ by_one)

  whole_reduced : record { x = x; y = y; w = pos 1 } ≡ reduced x y (pos 1)
  whole_reduced =
      let ex = undivided x (common_divisor-first x y (pos 1)) in
      let ey = undivided y (common_divisor-second x y (pos 1)) in
      let ew = undivided (pos 1) (common_divisor-third x y (pos 1)) in
      λ i. record { x = sym ex i; y = sym ey i; w = sym ew i }

pub whole_is_reduced : (x y w : ℤ) → w ≡ pos 1 → record { x = x; y = y; w = w } ≡ reduced x y w
whole_is_reduced x y w e = subst (λ z. record { x = x; y = y; w = z } ≡ reduced x y z) (sym e) (whole_reduced x y)
