-- A point inside an edge is a mean of the edge's ends: what that says of sides.
use Rattle.std.proofs.Common.{◌≡◌, arith, [], ◌∷◌, inl, inr, true, not, ◌&&◌, refl, ap, ◌∙◌}
use Rattle.std.specs.Prelude.{ℤ, pos, ◌+ℤ◌, ◌-ℤ◌, ◌*ℤ◌, ◌<ℤ◌}
use Rattle.std.specs.List.{Contains}
use Rattle.std.proofs.lemmas.Bool.{cases_Bool}
use Rattle.std.proofs.lemmas.Int.{ints}
use lib.Signed.{lt_z}
use Rattle.integers.proofs.Reify.{ring, sides}
use Rattle.exact_plane.specs.Plane.{RunsForward, Before}
use Rattle.exact_plane.specs.Point.{Point}
use Rattle.exact_plane.proofs.Along.{mean_between}
use Rattle.exact_plane.proofs.Between.{Mean, mean_side}
use Rattle.exact_plane.specs.PointOrderLaws.{and_true}
use Rattle.plane_graphs.specs.Graph.{Edge}
use Rattle.plane_graphs.specs.Line.{IsProper}
use Rattle.plane_graphs.proofs.Crossed.{runs_lt}
use Rattle.plane_graphs.proofs.Lines.{span_a, span_b, span_c, span_runs}
use Rattle.plane_graphs.proofs.Lists.{and_in, not_out}
use Rattle.plane_graphs.proofs.Order.{Lt, lt_trans}
use Rattle.slab_laws.specs.Skeleton.{Skeleton, side, inside, precedes, left_of, lower_than, IsPlaneSkeleton}
use Rattle.slab_faces.proofs.Ints.{same_sign}
use Rattle.slab_faces.proofs.PlaneGraphs.{comes_before, comes_runs}
use Rattle.slab_faces.proofs.Walls.{side-lower, side-upper}
use Rattle.rotation_order.specs.EdgeParts.{lower_part, upper_part}
use Rattle.rotation_order.proofs.Factors.{zero_between, same_above}

-- p lies on the edge between its ends
pub record IsInside (e : Edge) (p : Point) : Type 0 where
  pub after : Lt e.low p
  pub before : Lt p e.high
  pub on : side e p ≡ pos 0

module _ (e : Edge) (p : Point) (L : IsProper e.low) (H : IsProper e.high) (P : IsProper p) where
  pub inside_out : inside e p ≡ true → IsInside e p
  inside_out h =
      let a = and_true (precedes e.low p && precedes p e.high) (not (lt_z (side e p) (pos 0)) && not (lt_z (pos 0) (side e p))) h in
      let b = and_true (precedes e.low p) (precedes p e.high) a.0 in
      let c = and_true (not (lt_z (side e p) (pos 0))) (not (lt_z (pos 0) (side e p))) a.1 in
      record {
        after = runs_lt e.low p L P (comes_runs e.low p b.0);
        before = runs_lt p e.high P H (comes_runs p e.high b.1);
        on = zero_between (side e p) (not_out (lt_z (side e p) (pos 0)) c.0) (not_out (lt_z (pos 0) (side e p)) c.1);
      }

  pub inside_in : IsInside e p → inside e p ≡ true
  inside_in i =
      and_in (and_in (comes_before e.low p (span_runs e.low p L P i.after)) (comes_before p e.high (span_runs p e.high P H i.before)))
      (ap (λ z. not (lt_z z (pos 0)) && not (lt_z (pos 0) z)) i.on)

-- the ends of an edge of a plane graph stand in order
pub ends_ordered : (g : Skeleton) (e : Edge) → IsPlaneSkeleton g → Contains g.edges e → IsProper e.low → IsProper e.high → Lt e.low e.high
ends_ordered g e plane E L H = runs_lt e.low e.high L H (comes_runs e.low e.high first)
  where
    first : precedes e.low e.high ≡ true
    first =
        elim (cases_Bool (left_of e.low e.high)) [
          | inl y ↦ rw y refl
          | inr n ↦
              let f = plane.forward e E in
              let u : lower_than e.low e.high ≡ true = plane.upright e E (rw (n, f) refl) in
              rw (n, f, u) refl
        ]

-- ---- the mean
before_by : (p q : Point) → RunsForward (span_a p q) (span_b p q) → Before p.x p.y p.w q.x q.y q.w
before_by p q (inl h) = inl (omega (arith, ints))
before_by p q (inr h) = let e : span_b p q ≡ pos 0 = h.0 in let l : span_a p q <ℤ pos 0 = h.1 in inr (omega (arith, ints), omega (arith, ints))

abbrev pub MeanOf : Edge → Point → Type 0
MeanOf e p = Mean e.low.x e.low.y e.low.w p.x p.y p.w e.high.x e.high.y e.high.w

pub mean_of : (e : Edge) (p : Point) → IsProper e.low → IsProper e.high → IsProper p → IsInside e p → MeanOf e p
unfolding side
mean_of e p L H P i =
    mean_between (span_a e.low e.high) (span_b e.low e.high) (span_c e.low e.high) e.low.x e.low.y e.low.w p.x p.y p.w e.high.x e.high.y e.high.w
    (span_runs e.low e.high L H (lt_trans i.after i.before)) L.positive P.positive H.positive (side-lower e) i.on (side-upper e)
    (before_by e.low p (span_runs e.low p L P i.after)) (before_by p e.high (span_runs p e.high P H i.before))

-- ---- the sides of the parts: a, b, c and d, f, g are the ends, x, y, w the point between, u, v, z another
module _ (a b c x y w d f g u v z : ℤ) (m : Mean a b c x y w d f g) where
  lower_by : m.k *ℤ ((b *ℤ w -ℤ y *ℤ c) *ℤ u +ℤ (x *ℤ c -ℤ a *ℤ w) *ℤ v +ℤ (a *ℤ y -ℤ x *ℤ b) *ℤ z) ≡ m.t *ℤ ((b *ℤ g -ℤ f *ℤ c) *ℤ u +ℤ (d *ℤ c -ℤ a *ℤ g) *ℤ v +ℤ (a *ℤ f -ℤ d *ℤ b) *ℤ z)
  lower_by =
      ring (a ∷ b ∷ c ∷ x ∷ y ∷ w ∷ u ∷ v ∷ z ∷ m.k ∷ []) (search sides depth 40 fits 20000) tt
      ∙ (λ i. (b *ℤ m.w i -ℤ m.y i *ℤ c) *ℤ u +ℤ (m.x i *ℤ c -ℤ a *ℤ m.w i) *ℤ v +ℤ (a *ℤ m.y i -ℤ m.x i *ℤ b) *ℤ z)
      ∙ ring (a ∷ b ∷ c ∷ d ∷ f ∷ g ∷ u ∷ v ∷ z ∷ m.s ∷ m.t ∷ []) (search sides depth 40 fits 20000) tt

  upper_by : m.k *ℤ ((y *ℤ g -ℤ f *ℤ w) *ℤ u +ℤ (d *ℤ w -ℤ x *ℤ g) *ℤ v +ℤ (x *ℤ f -ℤ d *ℤ y) *ℤ z) ≡ m.s *ℤ ((b *ℤ g -ℤ f *ℤ c) *ℤ u +ℤ (d *ℤ c -ℤ a *ℤ g) *ℤ v +ℤ (a *ℤ f -ℤ d *ℤ b) *ℤ z)
  upper_by =
      ring (d ∷ f ∷ g ∷ x ∷ y ∷ w ∷ u ∷ v ∷ z ∷ m.k ∷ []) (search sides depth 40 fits 20000) tt
      ∙ (λ i. (m.y i *ℤ g -ℤ f *ℤ m.w i) *ℤ u +ℤ (d *ℤ m.w i -ℤ m.x i *ℤ g) *ℤ v +ℤ (m.x i *ℤ f -ℤ d *ℤ m.y i) *ℤ z)
      ∙ ring (a ∷ b ∷ c ∷ d ∷ f ∷ g ∷ u ∷ v ∷ z ∷ m.s ∷ m.t ∷ []) (search sides depth 40 fits 20000) tt

other_way : (s t u : ℤ) → u ≡ s +ℤ t → u ≡ t +ℤ s
other_way s t u e = omega (arith, ints)

module _ (e : Edge) (p : Point) (m : MeanOf e p) where
  -- the side of the point is a mean of the sides of the ends
  pub from_low : (f : Edge) → side f p *ℤ m.k ≡ side f e.low *ℤ m.s +ℤ side f e.high *ℤ m.t
  unfolding side
  from_low f = mean_side (span_a f.low f.high) (span_b f.low f.high) (span_c f.low f.high) e.low.x e.low.y e.low.w p.x p.y p.w e.high.x e.high.y e.high.w m

  pub from_high : (f : Edge) → side f p *ℤ m.k ≡ side f e.high *ℤ m.t +ℤ side f e.low *ℤ m.s
  from_high f = other_way (side f e.low *ℤ m.s) (side f e.high *ℤ m.t) (side f p *ℤ m.k) (from_low f)

  -- each part has the sides of the whole
  pub lower_side : (q : Point) → m.k *ℤ side (lower_part e p) q ≡ m.t *ℤ side e q
  unfolding side
  lower_side q = lower_by e.low.x e.low.y e.low.w p.x p.y p.w e.high.x e.high.y e.high.w q.x q.y q.w m

  pub upper_side : (q : Point) → m.k *ℤ side (upper_part e p) q ≡ m.s *ℤ side e q
  unfolding side
  upper_side q = upper_by e.low.x e.low.y e.low.w p.x p.y p.w e.high.x e.high.y e.high.w q.x q.y q.w m

  pub lower_right : (q : Point) → lt_z (side (lower_part e p) q) (pos 0) ≡ lt_z (side e q) (pos 0)
  lower_right q = same_sign m.k (side (lower_part e p) q) m.t (side e q) m.k_pos m.t_pos (lower_side q)

  pub lower_left : (q : Point) → lt_z (pos 0) (side (lower_part e p) q) ≡ lt_z (pos 0) (side e q)
  lower_left q = same_above m.k (side (lower_part e p) q) m.t (side e q) m.k_pos m.t_pos (lower_side q)

  pub upper_right : (q : Point) → lt_z (side (upper_part e p) q) (pos 0) ≡ lt_z (side e q) (pos 0)
  upper_right q = same_sign m.k (side (upper_part e p) q) m.s (side e q) m.k_pos m.s_pos (upper_side q)

  pub upper_left : (q : Point) → lt_z (pos 0) (side (upper_part e p) q) ≡ lt_z (pos 0) (side e q)
  upper_left q = same_above m.k (side (upper_part e p) q) m.s (side e q) m.k_pos m.s_pos (upper_side q)
