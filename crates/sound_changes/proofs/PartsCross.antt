-- Edges that cross: what crosses a part crosses the whole, and what crosses the whole crosses a part or holds the point between.
use Rattle.std.proofs.Common.{◌≡◌, ◌≢◌, ◌⊎◌, inl, inr, arith, [], ◌∷◌, true, ◌&&◌, sym, ap, ◌∙◌}
use Rattle.std.specs.Prelude.{ℤ, pos, ◌+ℤ◌, ◌-ℤ◌, ◌*ℤ◌, ◌<ℤ◌}
use Rattle.std.proofs.lemmas.Int.{ints, by_lt_z}
use lib.Signed.{lt_z}
use Rattle.integers.proofs.Reify.{ring, sides}
use Rattle.integers.proofs.Signs.{weak, opposite_nothing}
use Rattle.integers.proofs.Tests.{lt_yes, lt_is}
use Rattle.exact_plane.specs.Point.{Point}
use Rattle.exact_plane.specs.PointOrderLaws.{and_true}
use Rattle.plane_graphs.specs.Graph.{Edge}
use Rattle.plane_graphs.specs.Line.{IsProper}
use Rattle.plane_graphs.proofs.Lists.{and_in}
use Rattle.plane_graphs.proofs.Order.{Lt, Tri, tri}
use Rattle.plane_graphs.proofs.Order.Tri.{less, same, more}
use Rattle.slab_laws.specs.Skeleton.{side, crosses}
use Rattle.slab_faces.proofs.Ints.{same_sign, mean_first, mean_last, mean_zero}
use Rattle.rotation_order.specs.EdgeParts.{lower_part, upper_part}
use Rattle.rotation_order.proofs.Factors.{lt_turned}
use Rattle.sound_changes.proofs.PointInside.{IsInside, MeanOf, mean_of, from_low, from_high, lower_right, lower_left, upper_right, upper_left}

-- e goes from the left of f to its right, and f from the right of e to its left
pub record IsCrossing (e f : Edge) : Type 0 where
  pub starts : lt_z (pos 0) (side f e.low) ≡ true
  pub ends : lt_z (side f e.high) (pos 0) ≡ true
  pub right : lt_z (side e f.low) (pos 0) ≡ true
  pub left : lt_z (pos 0) (side e f.high) ≡ true

pub crossing_out : (e f : Edge) → crosses e f ≡ true → IsCrossing e f
unfolding crosses
crossing_out e f h =
    let a = and_true (lt_z (pos 0) (side f e.low)) (lt_z (side f e.high) (pos 0) && (lt_z (side e f.low) (pos 0) && lt_z (pos 0) (side e f.high))) h in
    let b = and_true (lt_z (side f e.high) (pos 0)) (lt_z (side e f.low) (pos 0) && lt_z (pos 0) (side e f.high)) a.1 in
    let c = and_true (lt_z (side e f.low) (pos 0)) (lt_z (pos 0) (side e f.high)) b.1 in
    record { starts = a.0; ends = b.0; right = c.0; left = c.1 }

pub crossing_in : (e f : Edge) → IsCrossing e f → crosses e f ≡ true
unfolding crosses
crossing_in e f c = and_in c.starts (and_in c.ends (and_in c.right c.left))

module _ (e : Edge) (p : Point) (m : MeanOf e p) (f : Edge) where
  -- ---- what crosses a part crosses the whole
  pub lower_crosses : IsCrossing (lower_part e p) f → IsCrossing e f
  lower_crosses c = record {
    starts = c.starts;
    ends = lt_yes _ _ (mean_last (side f p) m.k (side f e.low) m.s (side f e.high) m.t (from_low e p m f) m.k_pos (weak m.s_pos) m.t_pos (lt_is _ _ c.ends) (lt_is _ _ c.starts));
    right = sym (lower_right e p m f.low) ∙ c.right;
    left = sym (lower_left e p m f.high) ∙ c.left;
  }

  pub crosses_lower : IsCrossing f (lower_part e p) → IsCrossing f e
  crosses_lower c = record {
    starts = sym (lower_left e p m f.low) ∙ c.starts;
    ends = sym (lower_right e p m f.high) ∙ c.ends;
    right = c.right;
    left = lt_yes _ _ (mean_first (side f p) m.k (side f e.high) m.t (side f e.low) m.s (from_high e p m f) m.k_pos m.t_pos (weak m.s_pos) (lt_is _ _ c.left) (lt_is _ _ c.right));
  }

  pub upper_crosses : IsCrossing (upper_part e p) f → IsCrossing e f
  upper_crosses c = record {
    starts = lt_yes _ _ (mean_first (side f p) m.k (side f e.low) m.s (side f e.high) m.t (from_low e p m f) m.k_pos m.s_pos (weak m.t_pos) (lt_is _ _ c.starts) (lt_is _ _ c.ends));
    ends = c.ends;
    right = sym (upper_right e p m f.low) ∙ c.right;
    left = sym (upper_left e p m f.high) ∙ c.left;
  }

  pub crosses_upper : IsCrossing f (upper_part e p) → IsCrossing f e
  crosses_upper c = record {
    starts = sym (upper_left e p m f.low) ∙ c.starts;
    ends = sym (upper_right e p m f.high) ∙ c.ends;
    right = lt_yes _ _ (mean_last (side f p) m.k (side f e.high) m.t (side f e.low) m.s (from_high e p m f) m.k_pos (weak m.t_pos) m.s_pos (lt_is _ _ c.right) (lt_is _ _ c.left));
    left = c.left;
  }

  -- ---- what crosses the whole crosses a part, unless its line holds the point between
  three : {X : Type 0} → (side f p <ℤ pos 0 → X) → (pos 0 <ℤ side f p → X) → (side f p ≡ pos 0 → X) → X
  three {X} below above on = by_lt_z (side f p) (pos 0) below (λ h. by_lt_z (pos 0) (side f p) above (λ k. on (omega (arith, ints))))

  pub whole_crosses : IsCrossing e f → IsCrossing (lower_part e p) f ⊎ (IsCrossing (upper_part e p) f ⊎ (side f p ≡ pos 0))
  whole_crosses c =
      three
      (λ h. inl (record { starts = c.starts; ends = lt_yes _ _ h; right = lower_right e p m f.low ∙ c.right; left = lower_left e p m f.high ∙ c.left }))
      (λ h. inr (inl (record { starts = lt_yes _ _ h; ends = c.ends; right = upper_right e p m f.low ∙ c.right; left = upper_left e p m f.high ∙ c.left })))
      (λ h. inr (inr h))

  pub crosses_whole : IsCrossing f e → IsCrossing f (lower_part e p) ⊎ (IsCrossing f (upper_part e p) ⊎ (side f p ≡ pos 0))
  crosses_whole c =
      three
      (λ h. inr (inl (record { starts = upper_left e p m f.low ∙ c.starts; ends = upper_right e p m f.high ∙ c.ends; right = lt_yes _ _ h; left = c.left })))
      (λ h. inl (record { starts = lower_left e p m f.low ∙ c.starts; ends = lower_right e p m f.high ∙ c.ends; right = c.right; left = lt_yes _ _ h }))
      (λ h. inr (inr h))

-- ---- three points of one line, in any order
pub flat_swapped : (p q r : Point) → side (record { low = p; high = r }) q ≡ pos 0 -ℤ side (record { low = p; high = q }) r
unfolding side
flat_swapped p q r = ring (p.x ∷ p.y ∷ p.w ∷ q.x ∷ q.y ∷ q.w ∷ r.x ∷ r.y ∷ r.w ∷ []) (search sides depth 40 fits 20000) tt

pub flat_turned : (p q r : Point) → side (record { low = r; high = q }) p ≡ pos 0 -ℤ side (record { low = p; high = q }) r
unfolding side
flat_turned p q r = ring (p.x ∷ p.y ∷ p.w ∷ q.x ∷ q.y ∷ q.w ∷ r.x ∷ r.y ∷ r.w ∷ []) (search sides depth 40 fits 20000) tt

-- a mean of a number and of nothing has the number's sign
pub second_only : (g d u a v b : ℤ) → g *ℤ d ≡ u *ℤ a +ℤ v *ℤ b → u ≡ pos 0 → d *ℤ g ≡ b *ℤ v
second_only g d u a v b e z = ring (d ∷ g ∷ []) (search sides depth 40 fits 20000) tt ∙ e ∙ (λ i. z i *ℤ a +ℤ v *ℤ b) ∙ ring (a ∷ v ∷ b ∷ []) (search sides depth 40 fits 20000) tt

-- a point where f meets the line of o lies inside f, if the ends of f lie on two sides of that line
module _ (o f : Edge) (p : Point) (L : IsProper f.low) (H : IsProper f.high) (P : IsProper p) (ordered : Lt f.low f.high) (on_f : side f p ≡ pos 0) (on_o : side o p ≡ pos 0)
    (off_low : side o f.low ≢ pos 0) (off_high : side o f.high ≢ pos 0) (apart : lt_z (side o f.low) (pos 0) ≢ lt_z (side o f.high) (pos 0)) where
  not_below : Lt p f.low → ⊥
  not_below h =
      let e : Edge = record { low = p; high = f.high } in
      let i : IsInside e f.low = record { after = h; before = ordered; on = opposite_nothing (side f p) (side e f.low) (flat_turned f.low f.high p) on_f } in
      let m = mean_of e f.low P H L i in
      apart (same_sign m.k (side o f.low) m.t (side o f.high) m.k_pos m.t_pos (second_only (side o f.low) m.k (side o p) m.s (side o f.high) m.t (from_low e f.low m o) on_o))

  not_above : Lt f.high p → ⊥
  not_above h =
      let e : Edge = record { low = f.low; high = p } in
      let i : IsInside e f.high = record { after = ordered; before = h; on = opposite_nothing (side f p) (side e f.high) (flat_swapped f.low f.high p) on_f } in
      let m = mean_of e f.high L P H i in
      apart (sym (same_sign m.k (side o f.high) m.s (side o f.low) m.k_pos m.s_pos (second_only (side o f.high) m.k (side o p) m.t (side o f.low) m.s (from_high e f.high m o) on_o)))

  pub lies_inside : IsInside f p
  lies_inside = record { after = after (tri f.low p); before = before (tri p f.high); on = on_f }
    where
      after : Tri f.low p → Lt f.low p
      after (less l) = l
      after (same q) = absurd (off_low (ap (side o) q ∙ on_o))
      after (more l) = absurd (not_below l)

      before : Tri p f.high → Lt p f.high
      before (less l) = l
      before (same q) = absurd (off_high (ap (side o) (sym q) ∙ on_o))
      before (more l) = absurd (not_above l)

-- ---- two edges that hold one point inside
-- the lower end of one edge is on the right of the other where the other's is on its left
pub faced : (e f : Edge) (p : Point) → MeanOf e p → MeanOf f p → lt_z (side e f.low) (pos 0) ≡ lt_z (pos 0) (side f e.low)
faced e f p m n =
    sym (lower_right e p m f.low)
    ∙ lt_turned (side (lower_part e p) f.low) (side (lower_part f p) e.low) (flat_turned e.low p f.low)
    ∙ lower_left f p n e.low

balanced : (g d u a v b : ℤ) → g *ℤ d ≡ u *ℤ a +ℤ v *ℤ b → pos 0 <ℤ a → pos 0 <ℤ b → g ≡ pos 0 → u <ℤ pos 0 → pos 0 <ℤ v
balanced g d u a v b e A B G h =
    by_lt_z (pos 0) v (λ k. k) (λ k. absurd (let z = (mean_zero g d u a v b e A B G (λ x y. omega (arith, ints)) (λ x y. omega (arith, ints))).0 in omega (arith, ints)))

balanced_up : (g d u a v b : ℤ) → g *ℤ d ≡ u *ℤ a +ℤ v *ℤ b → pos 0 <ℤ a → pos 0 <ℤ b → g ≡ pos 0 → pos 0 <ℤ u → v <ℤ pos 0
balanced_up g d u a v b e A B G h =
    by_lt_z v (pos 0) (λ k. k) (λ k. absurd (let z = (mean_zero g d u a v b e A B G (λ x y. omega (arith, ints)) (λ x y. omega (arith, ints))).0 in omega (arith, ints)))

module _ (e f : Edge) (p : Point) (m : MeanOf e p) (n : MeanOf f p) (on_e : side e p ≡ pos 0) (on_f : side f p ≡ pos 0) where
  -- where the lower end of e is on the left of f, the two cross
  pub crossing_right : pos 0 <ℤ side f e.low → IsCrossing e f
  crossing_right h =
      let r = faced e f p m n ∙ lt_yes _ _ h in
      record {
        starts = lt_yes _ _ h;
        ends = lt_yes _ _ (balanced_up (side f p) m.k (side f e.low) m.s (side f e.high) m.t (from_low e p m f) m.s_pos m.t_pos on_f h);
        right = r;
        left = lt_yes _ _ (balanced (side e p) n.k (side e f.low) n.s (side e f.high) n.t (from_low f p n e) n.s_pos n.t_pos on_e (lt_is _ _ r));
      }

  -- where the lower end of e is on the line of f, so is the upper
  pub upper_on : side f e.low ≡ pos 0 → side f e.high ≡ pos 0
  upper_on h =
      (mean_zero (side f p) m.k (side f e.low) m.s (side f e.high) m.t (from_low e p m f) m.s_pos m.t_pos on_f (λ x y. omega (arith, ints)) (λ x y. omega (arith, ints))).1
