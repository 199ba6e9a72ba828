-- The order of points is total, and points that it does not tell apart are one.
use Rattle.std.specs.Prelude.{◌≡◌, zero, suc, Bool, true, false, ◌&&◌, [], ◌∷◌, ℤ, pos, negsuc, ◌*ℤ◌, ◌<ℤ◌, refl, ℕ, List, ◌++◌, IsTrue}
use Rattle.std.proofs.Common.{arith, ap, ap₂, sym, ◌∙◌}
use Rattle.std.proofs.lemmas.Int.{ints}
use Rattle.std.specs.declared.cmp.Ordering.TheVariants.{Equal}
use Rattle.std.specs.Ordering.{ordering_then, int_cmp, int_eq, is_eq, eq_by_cmp}
use Rattle.std.specs.Cmp.{IsTotalOrder, IsEquivalence, and_equiv, on_equiv, int_eq_equiv, int_cmp_total, then_total, on_total, both_ways, Equal-is}
use Rattle.integers.proofs.Classes.{then_equal}
use Rattle.integers.proofs.Compare.{ratio_total, equal_out, equal_in}
use Rattle.integers.proofs.Reify.{ring, sides}
use Rattle.integers.proofs.Signs.{same_by, diff_zero}
use Rattle.std.specs.Hash.{i128}
use Rattle.exact_plane.specs.Point.{Point, point_eq}
use Rattle.exact_plane.specs.PointOrder.{weight, by_x, by_y, point_cmp}

pub weight-positive : (w : ℤ) → pos 0 <ℤ weight w
weight-positive (pos zero) = omega (arith, ints)
weight-positive (pos (suc n)) = omega (arith, ints)
weight-positive (negsuc n) = omega (arith, ints)

pub point_cmp_total : IsTotalOrder point_cmp
point_cmp_total = then_total (ratio_total (λ p. p.x) (λ p. weight p.w) (λ p. weight-positive p.w)) (then_total (ratio_total (λ p. p.y) (λ p. weight p.w) (λ p. weight-positive p.w)) (on_total (λ p. p.w) int_cmp_total))

-- over one weight equal ratios are equal numbers
same_numerator : (a b v w : ℤ) → v ≡ w → a *ℤ weight w ≡ b *ℤ weight v → a ≡ b
same_numerator a b v w e f =
    same_by {a = a} {b = b} {k = weight w} (weight-positive w) (diff_zero (f ∙ ap (λ z. b *ℤ weight z) e)) (ring (a ∷ b ∷ weight w ∷ []) (search sides depth 40 fits 20000) tt)

pub same_triple : (p q : Point) → point_cmp p q ≡ Equal → (p.x ≡ q.x) × (p.y ≡ q.y) × (p.w ≡ q.w)
same_triple p q e =
    let first = then_equal (by_x p q) (ordering_then (by_y p q) (int_cmp p.w q.w)) e in
    let second = then_equal (by_y p q) (int_cmp p.w q.w) first.1 in
    let one = equal_out p.w q.w second.1 in
    (same_numerator p.x q.x p.w q.w one (equal_out _ _ first.0), same_numerator p.y q.y p.w q.w one (equal_out _ _ second.0), one)

pub same_point : (p q : Point) → point_cmp p q ≡ Equal → p ≡ q
same_point p q e = let s = same_triple p q e in λ i. record { x = s.0 i; y = s.1 i; w = s.2 i }

pub and_true : (a b : Bool) → a && b ≡ true → (a ≡ true) × (b ≡ true)
and_true true b e = (refl, e)
and_true false b e = cc

pub point_cmp_ties : (p q : Point) → (int_eq p.x q.x && (int_eq p.y q.y && int_eq p.w q.w)) ≡ eq_by_cmp point_cmp p q
point_cmp_ties p q = both_ways _ _ there back
  where
    there : (int_eq p.x q.x && (int_eq p.y q.y && int_eq p.w q.w)) ≡ true → is_eq (point_cmp p q) ≡ true
    there e =
        let first = and_true _ _ e in
        let second = and_true _ _ first.1 in
        let x = equal_out p.x q.x ((Equal-is _).0 first.0) in
        let y = equal_out p.y q.y ((Equal-is _).0 second.0) in
        let w = equal_out p.w q.w ((Equal-is _).0 second.1) in
        ap is_eq (ap₂ ordering_then (equal_in _ _ (ap₂ ◌*ℤ◌ x (ap weight (sym w)))) (ap₂ ordering_then (equal_in _ _ (ap₂ ◌*ℤ◌ y (ap weight (sym w)))) (equal_in _ _ w)))

    back : is_eq (point_cmp p q) ≡ true → (int_eq p.x q.x && (int_eq p.y q.y && int_eq p.w q.w)) ≡ true
    back e =
        let s = same_triple p q ((Equal-is (point_cmp p q)).0 e) in
        ap₂ ◌&&◌ (ap is_eq (equal_in p.x q.x s.0)) (ap₂ ◌&&◌ (ap is_eq (equal_in p.y q.y s.1)) (ap is_eq (equal_in p.w q.w s.2)))

-- points that the three numbers find equal are one
pub one_point : (p q : Point) → point_eq p q ≡ true → p ≡ q
one_point p q h = same_point p q ((Equal-is (point_cmp p q)).0 (sym (point_cmp_ties p q) ∙ h))

-- equality by the three numbers
pub point_eq_equiv : IsEquivalence point_eq
point_eq_equiv = and_equiv (on_equiv (λ p. p.x) int_eq_equiv) (and_equiv (on_equiv (λ p. p.y) int_eq_equiv) (on_equiv (λ p. p.w) int_eq_equiv))

-- what a point gives a hasher
abbrev pub hash_input : Point → List (List ℕ)
hash_input p = i128 p.x ++ (i128 p.y ++ i128 p.w)

pub hash_respects : (p q : Point) → IsTrue (point_eq p q) → hash_input p ≡ hash_input q
hash_respects p q e =
    let first = and_true _ _ e in
    let second = and_true _ _ first.1 in
    ap₂ ◌++◌ (ap i128 (equal_out p.x q.x ((Equal-is _).0 first.0))) (ap₂ ◌++◌ (ap i128 (equal_out p.y q.y ((Equal-is _).0 second.0))) (ap i128 (equal_out p.w q.w ((Equal-is _).0 second.1))))
