-- Points at one place are one triple.
use Rattle.std.proofs.Common.{◌≡◌, zero, suc, [], ◌∷◌, ℤ, pos, negsuc, ◌*ℤ◌, ◌<ℤ◌, refl, sym, ap, ap₂, ◌∙◌, arith}
use Rattle.std.proofs.lemmas.Int.{ints}
use Rattle.std.specs.Ordering.{int_cmp, ordering_then}
use Rattle.std.specs.declared.cmp.Ordering.{Ordering}
use Rattle.std.specs.declared.cmp.Ordering.TheVariants.{Less, Equal, Greater}
use Rattle.integers.specs.Ratio.{ratio_cmp}
use Rattle.integers.proofs.Bezout.{lowest_same}
use Rattle.integers.proofs.Compare.{equal_out, equal_in, same_cmp}
use Rattle.integers.proofs.Reify.{ring, sides}
use Rattle.exact_plane.specs.Point.{Point, IsPoint}
use Rattle.exact_plane.specs.PointOrder.{weight, by_x, by_y, point_cmp}

pub weight-is : (w : ℤ) → pos 0 <ℤ w → weight w ≡ w
weight-is (pos zero) h = absurd (omega (arith, ints))
weight-is (pos (suc n)) h = refl
weight-is (negsuc n) h = absurd (omega (arith, ints))

-- the order of two ratios with positive weights
pub ratio_cmp-is : (a v b w : ℤ) → pos 0 <ℤ v → pos 0 <ℤ w → ratio_cmp a v b w ≡ ratio_cmp a (weight v) b (weight w)
ratio_cmp-is a v b w p q = sym (ap₂ int_cmp (ap (λ z. a *ℤ z) (weight-is w q)) (ap (λ z. b *ℤ z) (weight-is v p)))

-- over one weight the numerators decide
pub one_weight : (a b w : ℤ) → pos 0 <ℤ w → int_cmp a b ≡ ratio_cmp a w b w
one_weight a b w h = same_cmp a b (a *ℤ w) (b *ℤ w) {k = w} {m = pos 1} h (omega (arith, ints)) (ring (a ∷ b ∷ w ∷ []) (search sides depth 40 fits 20000) tt)

module _ (p q : Point) (h : IsPoint p) (k : IsPoint q) where
  pub one_place : by_x p q ≡ Equal → by_y p q ≡ Equal → (p.x ≡ q.x) × (p.y ≡ q.y) × (p.w ≡ q.w)
  one_place e f =
      let plain : (a b : ℤ) → ratio_cmp a (weight p.w) b (weight q.w) ≡ Equal → a *ℤ q.w ≡ b *ℤ p.w = λ a b g. equal_out (a *ℤ q.w) (b *ℤ p.w) (ratio_cmp-is a p.w b q.w h.range.positive k.range.positive ∙ g) in
      lowest_same p.x p.y p.w q.x q.y q.w h.range.positive k.range.positive h.lowest k.lowest (plain p.x q.x e) (plain p.y q.y f)

  -- so x and y decide
  pub two_decide : ordering_then (ratio_cmp p.x p.w q.x q.w) (ratio_cmp p.y p.w q.y q.w) ≡ point_cmp p q
  two_decide =
      ap₂ ordering_then (ratio_cmp-is p.x p.w q.x q.w h.range.positive k.range.positive) (ratio_cmp-is p.y p.w q.y q.w h.range.positive k.range.positive)
      ∙ decided (by_x p q) (by_y p q) (int_cmp p.w q.w) (λ e f. equal_in p.w q.w (one_place e f).2)
    where
      decided : (r s t : Ordering) → (r ≡ Equal → s ≡ Equal → t ≡ Equal) → ordering_then r s ≡ ordering_then r (ordering_then s t)
      decided Less s t f = refl
      decided Equal Less t f = refl
      decided Equal Equal t f = sym (f refl refl)
      decided Equal Greater t f = refl
      decided Greater s t f = refl
