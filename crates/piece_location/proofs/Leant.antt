-- Of two edges that a point sees below it, the one that is above the other is higher where the leant vertical below the point meets both.
use Rattle.std.proofs.Common.{◌≡◌, true, false, arith, ap, ◌∙◌, ◌⊎◌, inl, inr, [], ◌∷◌}
use Rattle.std.specs.Prelude.{ℤ, pos, ◌+ℤ◌, ◌-ℤ◌, ◌*ℤ◌, ◌<ℤ◌, ◌≤ℤ◌}
use Rattle.std.proofs.lemmas.Int.{ints, by_lt_z}
use Rattle.std.proofs.lemmas.Bool.{cases_Bool}
use Rattle.integers.proofs.Reify.{ring, sides}
use Rattle.integers.proofs.Signs.{mul_pos', mul_nonneg'}
use Rattle.exact_plane.specs.Point.{Point}
use Rattle.plane_graphs.specs.Graph.{Edge}
use Rattle.slab_laws.specs.Skeleton.{Skeleton, HasWeight, IsPlaneSkeleton, left_of, run, side, steep, gap, below}
use Rattle.slab_faces.proofs.Ints.{times_mixed}
use Rattle.slab_faces.proofs.OverUnder.{under_out}
use Rattle.slab_faces.proofs.Order.{Passes, below_from, below_asym, gap-swap, witness}
use Rattle.slab_faces.proofs.Points.{before_weak, before_asym}
use Rattle.slab_faces.proofs.Walls.{left_of-irrefl, left_of-asym, left_of-after}
use Rattle.edge_predicates.specs.Above.{is_above, IsBeside}
use Rattle.edge_predicates.specs.Levels.{IsSeen}
use Rattle.edge_predicates.proofs.Seen.{slanted_below, reaches}
use Rattle.edge_predicates.proofs.SidesKept.{stacked}

-- how fast the second edge's line climbs away from the first one's, to the right
unfoldable pub turn : Edge → Edge → ℤ
turn f e = run e *ℤ steep f -ℤ run f *ℤ steep e

along : (a b c d e f x y w X Y W : ℤ) →
    (e *ℤ (a *ℤ x +ℤ b *ℤ y +ℤ c *ℤ w) -ℤ b *ℤ (d *ℤ x +ℤ e *ℤ y +ℤ f *ℤ w)) *ℤ W
    ≡ (e *ℤ (a *ℤ X +ℤ b *ℤ Y +ℤ c *ℤ W) -ℤ b *ℤ (d *ℤ X +ℤ e *ℤ Y +ℤ f *ℤ W)) *ℤ w +ℤ (e *ℤ a -ℤ b *ℤ d) *ℤ (x *ℤ W -ℤ X *ℤ w)
along a b c d e f x y w X Y W = ring (a ∷ b ∷ c ∷ d ∷ e ∷ f ∷ x ∷ y ∷ w ∷ X ∷ Y ∷ W ∷ []) (search sides depth 40 fits 20000) tt

-- the gap goes from point to point by the turn
gap_along : (f e : Edge) (q t : Point) → gap f e t *ℤ q.w ≡ gap f e q *ℤ t.w +ℤ turn f e *ℤ (t.x *ℤ q.w -ℤ q.x *ℤ t.w)
unfolding gap side turn run steep
gap_along f e q t =
    along (f.low.y *ℤ f.high.w -ℤ f.high.y *ℤ f.low.w) (f.high.x *ℤ f.low.w -ℤ f.low.x *ℤ f.high.w) (f.low.x *ℤ f.high.y -ℤ f.high.x *ℤ f.low.y)
    (e.low.y *ℤ e.high.w -ℤ e.high.y *ℤ e.low.w) (e.high.x *ℤ e.low.w -ℤ e.low.x *ℤ e.high.w) (e.low.x *ℤ e.high.y -ℤ e.high.x *ℤ e.low.y)
    t.x t.y t.w q.x q.y q.w

-- so it goes from a point where it is 0
gap_from_zero : (f e : Edge) (q t : Point) → gap f e q ≡ pos 0 → gap f e t *ℤ q.w ≡ turn f e *ℤ (t.x *ℤ q.w -ℤ q.x *ℤ t.w)
gap_from_zero f e q t z = gap_along f e q t ∙ ap (λ g. g *ℤ t.w +ℤ turn f e *ℤ (t.x *ℤ q.w -ℤ q.x *ℤ t.w)) z ∙ ring (t.w ∷ (turn f e *ℤ (t.x *ℤ q.w -ℤ q.x *ℤ t.w)) ∷ []) (search sides depth 40 fits 20000) tt

away_right : (q t : Point) → left_of q t ≡ true → pos 0 <ℤ (t.x *ℤ q.w -ℤ q.x *ℤ t.w)
unfolding left_of
away_right q t h = omega (arith, ints)

-- a product with a positive number that falls is of one that falls
falls : (g w t a : ℤ) → pos 0 <ℤ w → pos 0 <ℤ a → t <ℤ pos 0 → g *ℤ w ≡ t *ℤ a → g <ℤ pos 0
falls g w t a W A h e = by_lt_z g (pos 0) (λ k. k) (λ k. let m = times_mixed t a h A in let n = mul_nonneg' g w k (omega (arith, ints)) in absurd (omega (arith, ints)))

-- a positive number comes of two that aren't both at least and at most 0
turns_down : (g w t a : ℤ) → pos 0 <ℤ w → pos 0 <ℤ g → t ≤ℤ pos 0 → g *ℤ w ≡ t *ℤ a → t <ℤ pos 0
turns_down g w t a W G h e = by_lt_z t (pos 0) (λ k. k) (λ k. let z : t ≡ pos 0 = omega (arith, ints) in let m = mul_pos' g w G W in let y : t *ℤ a ≡ pos 0 = ap (λ u. u *ℤ a) z ∙ ring (a ∷ []) (search sides depth 40 fits 20000) tt in absurd (omega (arith, ints)))

module _ (g : Skeleton) (q : Point) (e f : Edge) (plane : IsPlaneSkeleton g) (T : HasWeight q) (s : IsSeen g q e) (t : IsSeen g q f) where
  el : HasWeight e.low
  el = (plane.proper_edge e s.in').0

  eh : HasWeight e.high
  eh = (plane.proper_edge e s.in').1

  fl : HasWeight f.low
  fl = (plane.proper_edge f t.in').0

  fh : HasWeight f.high
  fh = (plane.proper_edge f t.in').1

  e_long : left_of e.low e.high ≡ true
  e_long = slanted_below e q el eh T s.spanning s.lies_under

  f_long : left_of f.low f.high ≡ true
  f_long = slanted_below f q fl fh T t.spanning t.lies_under

  q_el : left_of q e.low ≡ false
  q_el = before_weak e.low q s.spanning.from

  q_fl : left_of q f.low ≡ false
  q_fl = before_weak f.low q t.spanning.from

  q_eh : left_of q e.high ≡ true
  q_eh = reaches e q el eh T s.spanning s.lies_under

  q_fh : left_of q f.high ≡ true
  q_fh = reaches f q fl fh T t.spanning t.lies_under

  el_fh : left_of e.low f.high ≡ true
  el_fh = left_of-after e.low q f.high el T fh q_el q_fh

  fl_eh : left_of f.low e.high ≡ true
  fl_eh = left_of-after f.low q e.high fl T eh q_fl q_eh

  beside : IsBeside g e f q
  beside = record {
    plane = plane;
    E = s.in';
    F = t.in';
    Q = T;
    spanning = t.spanning;
    from = before_asym e.low q s.spanning.from;
    to = before_asym q e.high s.spanning.to;
    off = λ z. let k = under_out f q t.lies_under in absurd (omega (arith, ints));
  }

  passes : (u : Point) → left_of u e.low ≡ false → left_of e.high u ≡ false → left_of u f.low ≡ false → left_of f.high u ≡ false → Passes e f u
  passes u a b c d = record { f_from = a; f_to = b; e_from = c; e_to = d; f_long = e_long; e_long = f_long; f_e = el_fh; e_f = fl_eh }

  module _ (h : is_above e f ≡ true) where
    f_below : below f e ≡ true
    f_below = stacked g e f q beside h s.spanning s.lies_under

    -- e isn't below f where both pass
    never_down : (u : Point) → Passes e f u → gap f e u <ℤ pos 0 → ⊥
    never_down u p k = let w = gap-swap f e u in below_asym g f e plane t.in' s.in' f_below (below_from e f u p (omega (arith, ints)))

    at_q : Passes e f q
    at_q = passes q q_el (left_of-asym q e.high q_eh) q_fl (left_of-asym q f.high q_fh)

    -- from a point where both lines meet, e's line climbs
    never_falls : (u : Point) → left_of q u ≡ true → Passes e f u → gap f e q ≡ pos 0 → turn f e <ℤ pos 0 → ⊥
    never_falls u r p z k = never_down u p (falls (gap f e u) q.w (turn f e) (u.x *ℤ q.w -ℤ q.x *ℤ u.w) T (away_right q u r) k (gap_from_zero f e q u z))

    never_falls_at_end : gap f e q ≡ pos 0 → turn f e <ℤ pos 0 → ⊥
    never_falls_at_end z k =
        elim (cases_Bool (left_of f.high e.high)) [
          | inl a ↦ never_falls f.high q_fh (passes f.high (left_of-asym e.low f.high el_fh) (left_of-asym f.high e.high a) (left_of-asym f.low f.high f_long) (left_of-irrefl f.high)) z k
          | inr a ↦ never_falls e.high q_eh (passes e.high (left_of-asym e.low e.high e_long) (left_of-irrefl e.high) (left_of-asym f.low e.high fl_eh) a) z k
        ]

    climbs : gap f e q ≡ pos 0 → pos 0 <ℤ turn f e
    climbs z =
        let w = witness g f e plane t.in' s.in' f_below in
        by_lt_z (pos 0) (turn f e) (λ k. k) (λ k. absurd (never_falls_at_end z (turns_down (gap f e w.0) q.w (turn f e) (w.0.x *ℤ q.w -ℤ q.x *ℤ w.0.w) T w.1.gap_up k (gap_from_zero f e q w.0 z))))

    pub higher_there : (pos 0 <ℤ gap f e q) ⊎ ((gap f e q ≡ pos 0) × (pos 0 <ℤ turn f e))
    higher_there =
        by_lt_z (pos 0) (gap f e q) inl
        (λ k. by_lt_z (gap f e q) (pos 0) (λ l. absurd (never_down q at_q l)) (λ l. let z : gap f e q ≡ pos 0 = omega (arith, ints) in inr (z, climbs z)))
