-- The directions of lines.
use Rattle.std.proofs.Common.{zero, suc, [], ◌∷◌, ℤ, pos, negsuc, ◌+ℤ◌, ◌*ℤ◌, ◌<ℤ◌, ◌≤ℤ◌, neg_ℤ, refl, subst, arith}
use Rattle.std.proofs.lemmas.Int.{ints}
use Rattle.integers.proofs.Reify.{ring, sides}
use Rattle.integers.proofs.Signs.{mul_pos, mul_nonneg, sum_pos_l, sum_pos_r}
use Rattle.exact_plane.specs.Direction.{direction_of, IsDirection}
use Rattle.exact_plane.specs.Line.{Line, IsForward, IsLine}

pub square_nonneg : (z : ℤ) → pos 0 ≤ℤ (z *ℤ z)
square_nonneg (pos n) = mul_nonneg {a = pos n} {b = pos n} (omega (arith, ints)) (omega (arith, ints))
square_nonneg (negsuc n) = turned (negsuc n) (omega (arith, ints))
  where
    turned : (z : ℤ) → pos 0 ≤ℤ neg_ℤ z → pos 0 ≤ℤ (z *ℤ z)
    turned z h = subst (λ y. pos 0 ≤ℤ y) (ring (z ∷ []) (search sides depth 40 fits 20000) tt) (mul_nonneg h h)

some_way : (a b : ℤ) → IsForward a b → pos 0 <ℤ (b *ℤ b +ℤ neg_ℤ a *ℤ neg_ℤ a)
some_way a (pos zero) f =
    let h : a <ℤ pos 0 = f.upward refl in
    let k : pos 0 <ℤ neg_ℤ a = omega (arith, ints) in
    sum_pos_r (square_nonneg (pos 0)) (mul_pos k k)
some_way a (pos (suc n)) f = let k : pos 0 <ℤ pos (suc n) = omega (arith, ints) in sum_pos_l (mul_pos k k) (square_nonneg (neg_ℤ a))
some_way a (negsuc n) f = let h = f.forward in absurd (omega (arith, ints))

pub direction_is : (l : Line) → IsLine l → IsDirection (direction_of l)
direction_is l h = record {
  x_within = h.b_within;
  y_within = (let k = h.a_within in omega (arith, ints));
  some = some_way l.a l.b h.runs;
}
