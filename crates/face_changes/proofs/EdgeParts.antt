-- The two parts of an edge at a point inside it: each has the sides and the gaps of the whole.
use Rattle.std.proofs.Common.{◌≡◌, ◌∙◌, ◌∷◌, []}
use Rattle.std.specs.Prelude.{ℤ, pos, ◌-ℤ◌, ◌*ℤ◌, ◌+ℤ◌}
use Rattle.exact_plane.specs.Point.{Point}
use Rattle.plane_graphs.specs.Graph.{Edge}
use Rattle.slab_laws.specs.Skeleton.{over, run, side, gap}
use lib.Signed.{lt_z}
use Rattle.integers.proofs.Reify.{ring, sides}
use Rattle.rotation_order.specs.EdgeParts.{lower_part, upper_part}
use Rattle.rotation_order.proofs.Factors.{same_above}
use Rattle.sound_changes.proofs.PointInside.{MeanOf, lower_side, upper_side, lower_right, upper_right}

-- ---- a part has the sides and the gaps of the whole
scaled : (k c rq re sq se rz sz : ℤ) → k *ℤ rq ≡ c *ℤ re → k *ℤ sq ≡ c *ℤ se → k *ℤ (rq *ℤ sz -ℤ rz *ℤ sq) ≡ c *ℤ (re *ℤ sz -ℤ rz *ℤ se)
scaled k c rq re sq se rz sz a b =
    ring (k ∷ rq ∷ sq ∷ rz ∷ sz ∷ []) (search sides depth 40 fits 20000) tt
    ∙ (λ i. a i *ℤ sz -ℤ rz *ℤ b i)
    ∙ ring (c ∷ re ∷ se ∷ rz ∷ sz ∷ []) (search sides depth 40 fits 20000) tt

scaled_back : (k c rq re sq se rz sz : ℤ) → k *ℤ rq ≡ c *ℤ re → k *ℤ sq ≡ c *ℤ se → k *ℤ (rz *ℤ sq -ℤ rq *ℤ sz) ≡ c *ℤ (rz *ℤ se -ℤ re *ℤ sz)
scaled_back k c rq re sq se rz sz a b =
    ring (k ∷ rq ∷ sq ∷ rz ∷ sz ∷ []) (search sides depth 40 fits 20000) tt
    ∙ (λ i. rz *ℤ b i -ℤ a i *ℤ sz)
    ∙ ring (c ∷ re ∷ se ∷ rz ∷ sz ∷ []) (search sides depth 40 fits 20000) tt

module _ (a b c d f x w k s t : ℤ) (mx : x *ℤ k ≡ a *ℤ s +ℤ d *ℤ t) (mw : w *ℤ k ≡ c *ℤ s +ℤ f *ℤ t) where
  run_lower_by : k *ℤ (x *ℤ c -ℤ a *ℤ w) ≡ t *ℤ (d *ℤ c -ℤ a *ℤ f)
  run_lower_by =
      ring (a ∷ c ∷ x ∷ w ∷ k ∷ []) (search sides depth 40 fits 20000) tt
      ∙ (λ i. mx i *ℤ c -ℤ a *ℤ mw i)
      ∙ ring (a ∷ c ∷ d ∷ f ∷ s ∷ t ∷ []) (search sides depth 40 fits 20000) tt

  run_upper_by : k *ℤ (d *ℤ w -ℤ x *ℤ f) ≡ s *ℤ (d *ℤ c -ℤ a *ℤ f)
  run_upper_by =
      ring (d ∷ f ∷ x ∷ w ∷ k ∷ []) (search sides depth 40 fits 20000) tt
      ∙ (λ i. d *ℤ mw i -ℤ mx i *ℤ f)
      ∙ ring (a ∷ c ∷ d ∷ f ∷ s ∷ t ∷ []) (search sides depth 40 fits 20000) tt

-- q has the sides and the gaps of e
pub record IsPart (q e : Edge) : Type 0 where
  pub sides_over : (t : Point) → over q t ≡ over e t
  pub gap_to : (z : Edge) (t : Point) → lt_z (pos 0) (gap z q t) ≡ lt_z (pos 0) (gap z e t)
  pub gap_from : (z : Edge) (t : Point) → lt_z (pos 0) (gap q z t) ≡ lt_z (pos 0) (gap e z t)

module _ (e : Edge) (p : Point) (m : MeanOf e p) where
  pub lower_run : m.k *ℤ run (lower_part e p) ≡ m.t *ℤ run e
  unfolding run
  lower_run = run_lower_by e.low.x e.low.y e.low.w e.high.x e.high.w p.x p.w m.k m.s m.t m.x m.w

  pub upper_run : m.k *ℤ run (upper_part e p) ≡ m.s *ℤ run e
  unfolding run
  upper_run = run_upper_by e.low.x e.low.y e.low.w e.high.x e.high.w p.x p.w m.k m.s m.t m.x m.w

  pub lower_is : IsPart (lower_part e p) e
  unfolding over gap
  lower_is = record {
    sides_over = λ t. lower_right e p m t;
    gap_to = λ z t. same_above m.k _ m.t _ m.k_pos m.t_pos (scaled m.k m.t (run (lower_part e p)) (run e) (side (lower_part e p) t) (side e t) (run z) (side z t) lower_run (lower_side e p m t));
    gap_from = λ z t. same_above m.k _ m.t _ m.k_pos m.t_pos (scaled_back m.k m.t (run (lower_part e p)) (run e) (side (lower_part e p) t) (side e t) (run z) (side z t) lower_run (lower_side e p m t));
  }

  pub upper_is : IsPart (upper_part e p) e
  unfolding over gap
  upper_is = record {
    sides_over = λ t. upper_right e p m t;
    gap_to = λ z t. same_above m.k _ m.s _ m.k_pos m.s_pos (scaled m.k m.s (run (upper_part e p)) (run e) (side (upper_part e p) t) (side e t) (run z) (side z t) upper_run (upper_side e p m t));
    gap_from = λ z t. same_above m.k _ m.s _ m.k_pos m.s_pos (scaled_back m.k m.s (run (upper_part e p)) (run e) (side (upper_part e p) t) (side e t) (run z) (side z t) upper_run (upper_side e p m t));
  }
