-- The order of two heights, by numbers without the weight.
use Rattle.std.proofs.Common.{◌≡◌, [], ◌∷◌, pos, ◌+ℤ◌, ◌*ℤ◌, ◌<ℤ◌, arith}
use Rattle.std.specs.Ordering.{int_cmp}
use Rattle.std.proofs.lemmas.Int.{ints}
use Rattle.integers.proofs.Compare.{same_cmp}
use Rattle.integers.proofs.Reify.{ring, sides}
use Rattle.exact_plane.specs.Height.{height_cmp, height_over, height_under}
use Rattle.exact_plane.specs.Line.{Line}
use Rattle.exact_plane.specs.Point.{Point}

pub height_cmp-is : (l m : Line) (p : Point) → pos 0 <ℤ p.w → int_cmp ((m.a *ℤ p.x +ℤ m.c *ℤ p.w) *ℤ l.b) ((l.a *ℤ p.x +ℤ l.c *ℤ p.w) *ℤ m.b) ≡ height_cmp l m p
height_cmp-is l m p h =
    same_cmp ((m.a *ℤ p.x +ℤ m.c *ℤ p.w) *ℤ l.b) ((l.a *ℤ p.x +ℤ l.c *ℤ p.w) *ℤ m.b) (height_over l p *ℤ height_under m p) (height_over m p *ℤ height_under l p) {k = p.w} {m = pos 1} h (omega (arith, ints))
    (ring (l.a ∷ l.b ∷ l.c ∷ m.a ∷ m.b ∷ m.c ∷ p.x ∷ p.w ∷ []) (search sides depth 40 fits 20000) tt)
