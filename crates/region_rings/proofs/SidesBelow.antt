-- A side passes below a point exactly where the edge along it passes strictly below the point and reaches the point's vertical from the right.
use Rattle.std.proofs.Common.{◌≡◌, Bool, true, false, not, ◌&&◌, arith, refl, sym, ◌∙◌, [], ◌∷◌}
use Rattle.std.specs.Prelude.{◌||◌, ℤ, pos, ◌*ℤ◌, ◌-ℤ◌, ◌+ℤ◌, ◌<ℤ◌}
use Rattle.std.proofs.lemmas.Bool.{false≢true}
use Rattle.std.proofs.lemmas.Int.{ints}
use lib.IntN.{*ℤ-zero}
use lib.Signed.{lt_z}
use Rattle.integers.proofs.Reify.{ring, sides}
use Rattle.integers.proofs.Tests.{lt_yes, lt_is}
use Rattle.exact_plane.specs.Direction.{turn}
use Rattle.exact_plane.specs.Point.{Point}
use Rattle.plane_graphs.specs.Graph.{Edge}
use Rattle.plane_graphs.proofs.Lists.{both_ways}
use Rattle.polygon_sets.specs.ClosedBorders.{way}
use Rattle.slab_laws.specs.Darts.{start}
use Rattle.slab_laws.specs.Skeleton.{HasWeight, left_of, side, under}
use Rattle.slab_laws.specs.Slabs.{reaches_right}
use Rattle.slab_faces.proofs.Ints.{times_less, less_back}
use Rattle.slab_faces.proofs.Walls.{left_of-before}
use Rattle.region_rings.specs.Nesting.{is_right, is_above, passes_below}
use Rattle.region_rings.proofs.Nests.{by_difference}

right_is : (p q : Point) → is_right p q ≡ left_of p q
unfolding left_of
right_is p q = sym (by_difference (p.x *ℤ q.w) (q.x *ℤ p.w) (q.x *ℤ p.w -ℤ p.x *ℤ q.w) refl)

-- the turn from the way to one end of an edge to that to the other is the point's side, but for the point's weight
turned : (px py pw lx ly lw hx hy hw : ℤ) → (lx *ℤ pw -ℤ px *ℤ lw) *ℤ (hy *ℤ pw -ℤ py *ℤ hw) -ℤ (ly *ℤ pw -ℤ py *ℤ lw) *ℤ (hx *ℤ pw -ℤ px *ℤ hw) ≡ pw *ℤ ((ly *ℤ hw -ℤ hy *ℤ lw) *ℤ px +ℤ (hx *ℤ lw -ℤ lx *ℤ hw) *ℤ py +ℤ (lx *ℤ hy -ℤ hx *ℤ ly) *ℤ pw)
turned px py pw lx ly lw hx hy hw = ring (px ∷ py ∷ pw ∷ lx ∷ ly ∷ lw ∷ hx ∷ hy ∷ hw ∷ []) (search sides depth 40 fits 20000) tt

turn_is : (p : Point) (e : Edge) → turn (way p e.low) (way p e.high) ≡ p.w *ℤ side e p
unfolding side
turn_is p e = turned p.x p.y p.w e.low.x e.low.y e.low.w e.high.x e.high.y e.high.w

positive : (w s t : ℤ) → pos 0 <ℤ w → t ≡ w *ℤ s → lt_z (pos 0) t ≡ lt_z (pos 0) s
positive w s t W e =
    let z = *ℤ-zero w in
    both_ways (lt_z (pos 0) t) (lt_z (pos 0) s)
    (λ h. let k = lt_is (pos 0) t h in lt_yes (pos 0) s (less_back w (pos 0) s W (omega (arith, ints))))
    (λ h. let k = times_less w (pos 0) s W (lt_is (pos 0) s h) in lt_yes (pos 0) t (omega (arith, ints)))

above_is_under : (p : Point) (e : Edge) → HasWeight p → is_above p e.low e.high ≡ under e p
unfolding under
above_is_under p e P = positive p.w (side e p) (turn (way p e.low) (way p e.high)) P (turn_is p e)

along_up : (a b u v : Bool) → (a ≡ true → b ≡ true) → ((b && (not a && u)) || (a && (not b && v))) ≡ ((not a && b) && u)
along_up true true u v h = refl
along_up true false u v h = absurd (false≢true (h refl))
along_up false true true v h = refl
along_up false true false v h = refl
along_up false false u v h = refl

along_down : (a b u v : Bool) → (a ≡ true → b ≡ true) → ((a && (not b && v)) || (b && (not a && u))) ≡ ((not a && b) && u)
along_down true true u v h = refl
along_down true false u v h = absurd (false≢true (h refl))
along_down false true true v h = refl
along_down false true false v h = refl
along_down false false u v h = refl

-- gone either way
module _ (p : Point) (e : Edge) (P : HasWeight p) (L : HasWeight e.low) (H : HasWeight e.high) (forward : left_of e.high e.low ≡ false) where
  onward : left_of p e.low ≡ true → left_of p e.high ≡ true
  onward h = left_of-before p e.low e.high P L H h forward

  pub passes_is : (f : Bool) → passes_below p (start e f) (start e (not f)) ≡ (reaches_right e p && under e p)
  passes_is true =
      (λ i. (right_is p e.high i && (not (right_is p e.low i) && above_is_under p e P i)) || (right_is p e.low i && (not (right_is p e.high i) && is_above p e.high e.low)))
      ∙ along_up (left_of p e.low) (left_of p e.high) (under e p) (is_above p e.high e.low) onward
  passes_is false =
      (λ i. (right_is p e.low i && (not (right_is p e.high i) && is_above p e.high e.low)) || (right_is p e.high i && (not (right_is p e.low i) && above_is_under p e P i)))
      ∙ along_down (left_of p e.low) (left_of p e.high) (under e p) (is_above p e.high e.low) onward
