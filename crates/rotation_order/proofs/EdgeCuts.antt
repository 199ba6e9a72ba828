-- The two parts of an edge at a point inside it.
use Rattle.std.proofs.Common.{◌≡◌, true, false, arith, sym, ap, ◌∙◌, inl, inr, [], ◌∷◌}
use Rattle.std.specs.Prelude.{ℤ, pos, ◌+ℤ◌, ◌-ℤ◌, ◌*ℤ◌, ◌<ℤ◌, not, ◌&&◌}
use Rattle.std.proofs.lemmas.Int.{ints}
use Rattle.std.proofs.lemmas.Bool.{and_parts, not-true, cases_Bool, false≢true, false_from_ne_true, true_from_ne_false}
use lib.Signed.{lt_z}
use Rattle.integers.proofs.Reify.{ring, sides}
use Rattle.exact_plane.specs.Point.{Point}
use Rattle.plane_graphs.specs.Graph.{Edge}
use Rattle.slab_laws.specs.Skeleton.{HasWeight, left_of, lower_than, on_wall, run, side, precedes, inside, below}
use Rattle.slab_laws.specs.Darts.{Dart, start, source, kind, ahead, back}
use Rattle.slab_laws.specs.Rotation.{turn}
use Rattle.slab_faces.proofs.Ints.{same_sign, zero_weak}
use Rattle.slab_faces.proofs.Points.{before_weak, before_on_wall}
use Rattle.slab_faces.proofs.Walls.{left_of-before, left_of-after, run_positive, side-upper, side-lower, side_rises}
use Rattle.slab_faces.proofs.Next.{kind_zero, kind_two}
use Rattle.rotation_order.specs.EdgeParts.{IsForwardEdge, lower_part, upper_part, IsParted}
use Rattle.rotation_order.proofs.Factors.{zero_between, same_above, less_nothing, more_nothing}
use Rattle.rotation_order.proofs.Fans.{from_low, from_low_too, from_high, from_high_too}
use Rattle.rotation_order.proofs.OneDirection.{before_alike, behind_alike}

-- ---- the determinant with a point between in place of an end
abbrev det : (a b c d e f x y w : ℤ) → ℤ
det a b c d e f x y w = (b *ℤ f -ℤ e *ℤ c) *ℤ x +ℤ (d *ℤ c -ℤ a *ℤ f) *ℤ y +ℤ (a *ℤ e -ℤ d *ℤ b) *ℤ w

module _ (a b c d e f g h i x y w : ℤ) (on : det a b c d e f g h i ≡ pos 0) where
  shorter_low : (d *ℤ c -ℤ a *ℤ f) *ℤ det a b c g h i x y w ≡ (g *ℤ c -ℤ a *ℤ i) *ℤ det a b c d e f x y w
  shorter_low = ring (a ∷ b ∷ c ∷ d ∷ e ∷ f ∷ g ∷ h ∷ i ∷ x ∷ y ∷ w ∷ []) (search sides depth 40 fits 20000) tt ∙ less_nothing ((g *ℤ c -ℤ a *ℤ i) *ℤ det a b c d e f x y w) (x *ℤ c -ℤ a *ℤ w) (det a b c d e f g h i) on

  shorter_high : (d *ℤ c -ℤ a *ℤ f) *ℤ det g h i d e f x y w ≡ (d *ℤ i -ℤ g *ℤ f) *ℤ det a b c d e f x y w
  shorter_high = ring (a ∷ b ∷ c ∷ d ∷ e ∷ f ∷ g ∷ h ∷ i ∷ x ∷ y ∷ w ∷ []) (search sides depth 40 fits 20000) tt ∙ more_nothing ((d *ℤ i -ℤ g *ℤ f) *ℤ det a b c d e f x y w) (x *ℤ f -ℤ d *ℤ w) (det a b c d e f g h i) on

-- ---- what it is to come before
pub climbs_on_wall : (p q : Point) → precedes p q ≡ true → on_wall p q ≡ true → lower_than p q ≡ true
climbs_on_wall p q h k = before_on_wall p q h (not-true (left_of p q) (and_parts (not (left_of p q)) (not (left_of q p)) k).0)

pub edge_before : (p q : Point) → HasWeight p → HasWeight q → precedes p q ≡ true → IsForwardEdge (record { low = p; high = q })
edge_before p q P Q h = record { low_weight = P; high_weight = Q; forward = before_weak p q h; upright = climbs_on_wall p q h }

not_zero_above : (s t : ℤ) → s ≡ pos 0 → pos 0 <ℤ s → ⊥
not_zero_above s t e h = omega (arith, ints)

-- ---- a point inside an edge
module _ (e : Edge) (r : Point) (L : HasWeight e.low) (H : HasWeight e.high) (R : HasWeight r) (in' : inside e r ≡ true) where
  between : (precedes e.low r ≡ true) × (precedes r e.high ≡ true)
  between = and_parts (precedes e.low r) (precedes r e.high) (and_parts (precedes e.low r && precedes r e.high) (not (lt_z (side e r) (pos 0)) && not (lt_z (pos 0) (side e r))) in').0

  on : side e r ≡ pos 0
  on =
      let a = and_parts (not (lt_z (side e r) (pos 0))) (not (lt_z (pos 0) (side e r))) (and_parts (precedes e.low r && precedes r e.high) (not (lt_z (side e r) (pos 0)) && not (lt_z (pos 0) (side e r))) in').1 in
      zero_between (side e r) (not-true (lt_z (side e r) (pos 0)) a.0) (not-true (lt_z (pos 0) (side e r)) a.1)

  slants_low : left_of e.low e.high ≡ true → left_of e.low r ≡ true
  slants_low h =
      true_from_ne_false (left_of e.low r) (λ k. not_zero_above (side e r) (side e r) on
      (side_rises e e.low r L R (run_positive e h) k (before_weak e.low r between.0) (before_on_wall e.low r between.0 k) (zero_weak (side e e.low) (side-lower e))))

  slants_high : left_of e.low e.high ≡ true → left_of r e.high ≡ true
  slants_high h =
      true_from_ne_false (left_of r e.high) (λ k. not_zero_above (side e e.high) (side e e.high) (side-upper e)
      (side_rises e r e.high R H (run_positive e h) k (before_weak r e.high between.1) (before_on_wall r e.high between.1 k) (zero_weak (side e r) on)))

  upright_low : left_of e.low e.high ≡ false → left_of e.low r ≡ false
  upright_low h = false_from_ne_true (left_of e.low r) (λ k. false≢true (sym h ∙ left_of-before e.low r e.high L R H k (before_weak r e.high between.1)))

  upright_high : left_of e.low e.high ≡ false → left_of r e.high ≡ false
  upright_high h = false_from_ne_true (left_of r e.high) (λ k. false≢true (sym h ∙ left_of-after e.low r e.high L R H (before_weak e.low r between.0) k))

  alike_low : left_of e.low r ≡ left_of e.low e.high
  alike_low = elim (cases_Bool (left_of e.low e.high)) [ inl h ↦ slants_low h ∙ sym h | inr h ↦ upright_low h ∙ sym h ]

  alike_high : left_of r e.high ≡ left_of e.low e.high
  alike_high = elim (cases_Bool (left_of e.low e.high)) [ inl h ↦ slants_high h ∙ sym h | inr h ↦ upright_high h ∙ sym h ]

  -- ---- each part has the sides of the whole
  module _ (t : Point) where
    low_sides : run e *ℤ side (lower_part e r) t ≡ run (lower_part e r) *ℤ side e t
    unfolding run side
    low_sides = shorter_low e.low.x e.low.y e.low.w e.high.x e.high.y e.high.w r.x r.y r.w t.x t.y t.w on

    high_sides : run e *ℤ side (upper_part e r) t ≡ run (upper_part e r) *ℤ side e t
    unfolding run side
    high_sides = shorter_high e.low.x e.low.y e.low.w e.high.x e.high.y e.high.w r.x r.y r.w t.x t.y t.w on

    module _ (h : left_of e.low e.high ≡ true) where
      low_right : lt_z (side (lower_part e r) t) (pos 0) ≡ lt_z (side e t) (pos 0)
      low_right = same_sign (run e) (side (lower_part e r) t) (run (lower_part e r)) (side e t) (run_positive e h) (run_positive (lower_part e r) (slants_low h)) low_sides

      low_left : lt_z (pos 0) (side (lower_part e r) t) ≡ lt_z (pos 0) (side e t)
      low_left = same_above (run e) (side (lower_part e r) t) (run (lower_part e r)) (side e t) (run_positive e h) (run_positive (lower_part e r) (slants_low h)) low_sides

      high_right : lt_z (side (upper_part e r) t) (pos 0) ≡ lt_z (side e t) (pos 0)
      high_right = same_sign (run e) (side (upper_part e r) t) (run (upper_part e r)) (side e t) (run_positive e h) (run_positive (upper_part e r) (slants_high h)) high_sides

      high_left : lt_z (pos 0) (side (upper_part e r) t) ≡ lt_z (pos 0) (side e t)
      high_left = same_above (run e) (side (upper_part e r) t) (run (upper_part e r)) (side e t) (run_positive e h) (run_positive (upper_part e r) (slants_high h)) high_sides

  -- ---- and stands alike round the end that it keeps
  module _ (c : Dart) where
    ahead_never_left : turn (ahead e) ≡ 0 → ⊥
    ahead_never_left z = false≢true (sym (kind_zero (left_of e.low e.high) true z).1)

    back_never_right : turn (back e) ≡ 2 → ⊥
    back_never_right z = false≢true (kind_two (left_of e.low e.high) false z).1

    module _ (s : source c ≡ e.low) (z : turn (ahead e) ≡ 2) (y : turn c ≡ 2) where
      low_slant : left_of e.low e.high ≡ true
      low_slant = (kind_two (left_of e.low e.high) true z).0

      low_other : left_of c.edge.low c.edge.high ≡ true
      low_other = (kind_two (left_of c.edge.low c.edge.high) c.forward y).0

      low_one : e.low ≡ c.edge.low
      low_one = sym (sym (ap (start c.edge) (kind_two (left_of c.edge.low c.edge.high) c.forward y).1) ∙ s)

      low_before : below c.edge (lower_part e r) ≡ below c.edge e
      low_before = from_low (lower_part e r) c.edge (slants_low low_slant) low_other low_one ∙ low_right c.edge.high low_slant ∙ sym (from_low e c.edge low_slant low_other low_one)

      low_behind : below (lower_part e r) c.edge ≡ below e c.edge
      low_behind =
          from_low_too c.edge (lower_part e r) low_other (slants_low low_slant) (sym low_one) ∙ low_left c.edge.high low_slant ∙ sym (from_low_too c.edge e low_other low_slant (sym low_one))

    module _ (s : source c ≡ e.high) (z : turn (back e) ≡ 0) (y : turn c ≡ 0) where
      high_slant : left_of e.low e.high ≡ true
      high_slant = (kind_zero (left_of e.low e.high) false z).0

      high_other : left_of c.edge.low c.edge.high ≡ true
      high_other = (kind_zero (left_of c.edge.low c.edge.high) c.forward y).0

      high_one : e.high ≡ c.edge.high
      high_one = sym (sym (ap (start c.edge) (kind_zero (left_of c.edge.low c.edge.high) c.forward y).1) ∙ s)

      high_before : below (upper_part e r) c.edge ≡ below e c.edge
      high_before =
          from_high_too c.edge (upper_part e r) high_other (slants_high high_slant) (sym high_one) ∙ high_left c.edge.low high_slant ∙ sym (from_high_too c.edge e high_other high_slant (sym high_one))

      high_behind : below c.edge (upper_part e r) ≡ below c.edge e
      high_behind = from_high (upper_part e r) c.edge (slants_high high_slant) high_other high_one ∙ high_right c.edge.low high_slant ∙ sym (from_high e c.edge high_slant high_other high_one)

  pub parted : IsParted e r
  parted = record {
    lower_edge = edge_before e.low r L R between.0;
    upper_edge = edge_before r e.high R H between.1;
    at_low = record {
      way = ap (λ l. kind l true) alike_low;
      before = λ c s. before_alike (ahead (lower_part e r)) (ahead e) c (ap (λ l. kind l true) alike_low) (λ z y. absurd (ahead_never_left c z)) (λ z y. low_before c s z y);
      behind = λ c s. behind_alike (ahead (lower_part e r)) (ahead e) c (ap (λ l. kind l true) alike_low) (λ z y. absurd (ahead_never_left c z)) (λ z y. low_behind c s z y);
    };
    at_high = record {
      way = ap (λ l. kind l false) alike_high;
      before = λ c s. before_alike (back (upper_part e r)) (back e) c (ap (λ l. kind l false) alike_high) (λ z y. high_before c s z y) (λ z y. absurd (back_never_right c z));
      behind = λ c s. behind_alike (back (upper_part e r)) (back e) c (ap (λ l. kind l false) alike_high) (λ z y. high_behind c s z y) (λ z y. absurd (back_never_right c z));
    };
    onward = ap (λ l. kind l true) alike_high;
    backward = ap (λ l. kind l false) alike_low;
  }
