-- Edges on lines: their sides are the lines', and of two that a point sees the one on the higher line has no lower level.
use Rattle.std.proofs.Common.{◌≡◌, ℤ, pos, ◌+ℤ◌, ◌-ℤ◌, ◌*ℤ◌, ◌<ℤ◌, neg_ℤ, true, false, arith, sym, ap, ap₂, ◌∙◌, inl, inr, subst, [], ◌∷◌, ◌≤◌, Ordering, Less, Equal, Greater}
use Rattle.std.specs.Ordering.{int_cmp, ordering_then, ordering_reverse, is_gt}
use Rattle.std.specs.Cmp.{IsTotalOrder}
use Rattle.std.proofs.lemmas.Cmp.{then_total}
use Rattle.std.proofs.lemmas.Int.{ints}
use Rattle.std.proofs.lemmas.Bool.{cases_Bool}
use Rattle.integers.proofs.Compare.{same_cmp, greater_in, equal_in, ratio_total}
use Rattle.integers.proofs.Reify.{ring, sides}
use Rattle.integers.proofs.Signs.{mul_pos', cancel_pos}
use Rattle.exact_plane.specs.Height.{height_over, height_under, height_cmp}
use Rattle.exact_plane.specs.Line.{Line, side_of}
use Rattle.exact_plane.specs.Plane.{RunsForward}
use Rattle.exact_plane.specs.Point.{Point}
use Rattle.exact_plane.specs.PointOrder.{weight}
use Rattle.exact_plane.specs.PointOrderLaws.{weight-positive}
use Rattle.exact_plane.specs.Slope.{fraction_cmp}
use Rattle.exact_plane.proofs.Places.{ratio_cmp-is}
use Rattle.plane_graphs.specs.Graph.{Edge}
use Rattle.plane_graphs.proofs.Crossings.{spans_w, spans_x, spans_y, turned, zero_too}
use Rattle.slab_laws.specs.Skeleton.{Skeleton, HasWeight, IsPlaneSkeleton, precedes, run, side, steep, gap, under}
use Rattle.slab_faces.proofs.Ints.{times_mixed}
use Rattle.slab_faces.proofs.OverUnder.{under_in, under_out}
use Rattle.slab_faces.proofs.PlaneGraphs.{comes_runs}
use Rattle.slab_faces.proofs.Walls.{run_positive}
use Rattle.edge_predicates.specs.Above.{is_above}
use Rattle.edge_predicates.specs.Highest.{IsSpanning}
use Rattle.edge_predicates.specs.Levels.{IsSeen, level}
use Rattle.edge_predicates.proofs.Levels.{levels_tell_highest}
use Rattle.edge_predicates.proofs.Seen.{slanted, slanted_below}
use Rattle.piece_location.specs.Heights.{IsOnLine, leant_cmp, is_higher}
use Rattle.piece_location.proofs.Leant.{turn, higher_there}

-- ---- the order
pub leant_total : (q : Point) → IsTotalOrder (leant_cmp q)
leant_total q = then_total (ratio_total (λ (l : Line). height_over l q) (λ (l : Line). weight (height_under l q)) (λ l. weight-positive (height_under l q))) (ratio_total (λ (l : Line). neg_ℤ l.a) (λ (l : Line). weight l.b) (λ l. weight-positive l.b))

-- of lines that aren't vertical it is told by the heights and the slopes as they are
pub leant_is : (q : Point) (l m : Line) → HasWeight q → pos 0 <ℤ l.b → pos 0 <ℤ m.b → leant_cmp q l m ≡ ordering_then (height_cmp l m q) (fraction_cmp l m)
leant_is q l m T L M = sym (ap₂ ordering_then (ratio_cmp-is (height_over l q) (height_under l q) (height_over m q) (height_under m q) (mul_pos' l.b q.w L T) (mul_pos' m.b q.w M T)) (ratio_cmp-is (neg_ℤ l.a) l.b (neg_ℤ m.a) m.b L M))

-- ---- an edge on a line
in_proportion : (a b c A B C X Y W : ℤ) → a *ℤ B -ℤ A *ℤ b ≡ pos 0 → b *ℤ C -ℤ B *ℤ c ≡ pos 0 → b *ℤ (A *ℤ X +ℤ B *ℤ Y +ℤ C *ℤ W) ≡ B *ℤ (a *ℤ X +ℤ b *ℤ Y +ℤ c *ℤ W)
in_proportion a b c A B C X Y W e f =
    ring (a ∷ b ∷ c ∷ A ∷ B ∷ C ∷ X ∷ Y ∷ W ∷ []) (search sides depth 40 fits 20000) tt
    ∙ (λ i. B *ℤ (a *ℤ X +ℤ b *ℤ Y +ℤ c *ℤ W) +ℤ (W *ℤ f i -ℤ X *ℤ e i))
    ∙ ring (B ∷ (a *ℤ X +ℤ b *ℤ Y +ℤ c *ℤ W) ∷ X ∷ W ∷ []) (search sides depth 40 fits 20000) tt

equal_from : (x y : ℤ) → x -ℤ y ≡ pos 0 → y ≡ x
equal_from x y e = omega (arith, ints)

module _ (l : Line) (e : Edge) (on : IsOnLine l e) where
  w_is : l.a *ℤ run e -ℤ steep e *ℤ l.b ≡ pos 0
  unfolding run steep
  w_is = spans_w l.a l.b l.c e.low.x e.low.y e.low.w e.high.x e.high.y e.high.w on.low_on on.high_on

  -- the edge's side is the line's, up to the factors by which both run
  pub side_scaled : (t : Point) → l.b *ℤ side e t ≡ run e *ℤ side_of l t
  unfolding run side
  side_scaled t =
      in_proportion l.a l.b l.c (e.low.y *ℤ e.high.w -ℤ e.high.y *ℤ e.low.w) (e.high.x *ℤ e.low.w -ℤ e.low.x *ℤ e.high.w) (e.low.x *ℤ e.high.y -ℤ e.high.x *ℤ e.low.y) t.x t.y t.w
      (spans_w l.a l.b l.c e.low.x e.low.y e.low.w e.high.x e.high.y e.high.w on.low_on on.high_on)
      (spans_x l.a l.b l.c e.low.x e.low.y e.low.w e.high.x e.high.y e.high.w on.low_on on.high_on)

  pub steep_scaled : steep e *ℤ l.b ≡ l.a *ℤ run e
  steep_scaled = equal_from (l.a *ℤ run e) (steep e *ℤ l.b) w_is

  -- where the edge isn't vertical, the line isn't
  pub line_slanted : RunsForward l.a l.b → pos 0 <ℤ run e → pos 0 <ℤ l.b
  line_slanted (inl h) r = h
  line_slanted (inr h) r = absurd (let m = times_mixed l.a (run e) h.1 r in let z : steep e *ℤ l.b ≡ pos 0 = ap (λ b. steep e *ℤ b) h.0 ∙ ring (steep e ∷ []) (search sides depth 40 fits 20000) tt in let s = steep_scaled in omega (arith, ints))

  -- a point is on the one exactly where it is on the other
  pub zero_on_edge : (t : Point) → RunsForward l.a l.b → side_of l t ≡ pos 0 → side e t ≡ pos 0
  unfolding side
  zero_on_edge t r z =
      zero_too l.a l.b l.c (e.low.y *ℤ e.high.w -ℤ e.high.y *ℤ e.low.w) (e.high.x *ℤ e.low.w -ℤ e.low.x *ℤ e.high.w) (e.low.x *ℤ e.high.y -ℤ e.high.x *ℤ e.low.y) t.x t.y t.w
      (spans_w l.a l.b l.c e.low.x e.low.y e.low.w e.high.x e.high.y e.high.w on.low_on on.high_on)
      (spans_x l.a l.b l.c e.low.x e.low.y e.low.w e.high.x e.high.y e.high.w on.low_on on.high_on)
      (spans_y l.a l.b l.c e.low.x e.low.y e.low.w e.high.x e.high.y e.high.w on.low_on on.high_on) z r

  pub zero_on_line : (t : Point) → precedes e.low e.high ≡ true → side e t ≡ pos 0 → side_of l t ≡ pos 0
  unfolding side
  zero_on_line t f z =
      zero_too (e.low.y *ℤ e.high.w -ℤ e.high.y *ℤ e.low.w) (e.high.x *ℤ e.low.w -ℤ e.low.x *ℤ e.high.w) (e.low.x *ℤ e.high.y -ℤ e.high.x *ℤ e.low.y) l.a l.b l.c t.x t.y t.w
      (turned l.a (e.high.x *ℤ e.low.w -ℤ e.low.x *ℤ e.high.w) (e.low.y *ℤ e.high.w -ℤ e.high.y *ℤ e.low.w) l.b (spans_w l.a l.b l.c e.low.x e.low.y e.low.w e.high.x e.high.y e.high.w on.low_on on.high_on))
      (turned l.b (e.low.x *ℤ e.high.y -ℤ e.high.x *ℤ e.low.y) (e.high.x *ℤ e.low.w -ℤ e.low.x *ℤ e.high.w) l.c (spans_x l.a l.b l.c e.low.x e.low.y e.low.w e.high.x e.high.y e.high.w on.low_on on.high_on))
      (turned l.c (e.low.y *ℤ e.high.w -ℤ e.high.y *ℤ e.low.w) (e.low.x *ℤ e.high.y -ℤ e.high.x *ℤ e.low.y) l.a (spans_y l.a l.b l.c e.low.x e.low.y e.low.w e.high.x e.high.y e.high.w on.low_on on.high_on)) z (comes_runs e.low e.high f)

  module _ (q : Point) (r : RunsForward l.a l.b) (P : HasWeight e.low) (Q : HasWeight e.high) (T : HasWeight q) (s : IsSpanning e q) (F : precedes e.low e.high ≡ true) where
    -- what a point that the edge spans sees below it, it sees of the line, and the other way round
    pub over_edge : pos 0 <ℤ side_of l q → under e q ≡ true
    over_edge h =
        let R = run_positive e (slanted e q P Q T s (λ z. let k = zero_on_line q F z in omega (arith, ints))) in
        let b = line_slanted r R in
        under_in e q (cancel_pos {k = l.b} b (subst (λ z. pos 0 <ℤ z) (sym (side_scaled q) ∙ ring (l.b ∷ side e q ∷ []) (search sides depth 40 fits 20000) tt) (mul_pos' (run e) (side_of l q) R h)))

    pub over_line : under e q ≡ true → pos 0 <ℤ side_of l q
    over_line u =
        let R = run_positive e (slanted_below e q P Q T s u) in
        let b = line_slanted r R in
        cancel_pos {k = run e} R (subst (λ z. pos 0 <ℤ z) (side_scaled q ∙ ring (run e ∷ side_of l q ∷ []) (search sides depth 40 fits 20000) tt) (mul_pos' l.b (side e q) b (under_out e q u)))

-- ---- two edges on two lines
by_heights : (a b c d e f x y w R S s t : ℤ) → b *ℤ s ≡ R *ℤ (a *ℤ x +ℤ b *ℤ y +ℤ c *ℤ w) → e *ℤ t ≡ S *ℤ (d *ℤ x +ℤ e *ℤ y +ℤ f *ℤ w) →
    (neg_ℤ (d *ℤ x +ℤ f *ℤ w) *ℤ (b *ℤ w) -ℤ neg_ℤ (a *ℤ x +ℤ c *ℤ w) *ℤ (e *ℤ w)) *ℤ (R *ℤ S) ≡ (pos 0 -ℤ (R *ℤ t -ℤ S *ℤ s)) *ℤ (b *ℤ e *ℤ w)
by_heights a b c d e f x y w R S s t h k =
    ring (a ∷ b ∷ c ∷ d ∷ e ∷ f ∷ x ∷ y ∷ w ∷ R ∷ S ∷ []) (search sides depth 40 fits 20000) tt
    ∙ (λ i. S *ℤ e *ℤ w *ℤ sym h i -ℤ R *ℤ b *ℤ w *ℤ sym k i)
    ∙ ring (b ∷ e ∷ w ∷ R ∷ S ∷ s ∷ t ∷ []) (search sides depth 40 fits 20000) tt

by_slopes : (a b d e R S p u : ℤ) → p *ℤ b ≡ a *ℤ R → u *ℤ e ≡ d *ℤ S → (neg_ℤ d *ℤ b -ℤ neg_ℤ a *ℤ e) *ℤ (R *ℤ S) ≡ (pos 0 -ℤ (R *ℤ u -ℤ S *ℤ p)) *ℤ (b *ℤ e)
by_slopes a b d e R S p u h k =
    ring (a ∷ b ∷ d ∷ e ∷ R ∷ S ∷ []) (search sides depth 40 fits 20000) tt
    ∙ (λ i. S *ℤ e *ℤ sym h i -ℤ R *ℤ b *ℤ sym k i)
    ∙ ring (b ∷ e ∷ R ∷ S ∷ p ∷ u ∷ []) (search sides depth 40 fits 20000) tt

module _ (q : Point) (l m : Line) (e f : Edge) (on : IsOnLine l e) (at : IsOnLine m f) (T : HasWeight q) (L : pos 0 <ℤ l.b) (M : pos 0 <ℤ m.b) (E : pos 0 <ℤ run e) (F : pos 0 <ℤ run f) where
  heights_by_gap : height_cmp l m q ≡ int_cmp (gap f e q) (pos 0)
  unfolding gap
  heights_by_gap =
      same_cmp (height_over l q *ℤ height_under m q) (height_over m q *ℤ height_under l q) (run e *ℤ side f q -ℤ run f *ℤ side e q) (pos 0) {k = run e *ℤ run f} {m = l.b *ℤ m.b *ℤ q.w} (mul_pos' (run e) (run f) E F) (mul_pos' (l.b *ℤ m.b) q.w (mul_pos' l.b m.b L M) T)
      (by_heights l.a l.b l.c m.a m.b m.c q.x q.y q.w (run e) (run f) (side e q) (side f q) (side_scaled l e on q) (side_scaled m f at q))

  slopes_by_turn : fraction_cmp l m ≡ int_cmp (turn f e) (pos 0)
  unfolding turn
  slopes_by_turn =
      same_cmp (neg_ℤ l.a *ℤ m.b) (neg_ℤ m.a *ℤ l.b) (run e *ℤ steep f -ℤ run f *ℤ steep e) (pos 0) {k = run e *ℤ run f} {m = l.b *ℤ m.b} (mul_pos' (run e) (run f) E F) (mul_pos' l.b m.b L M)
      (by_slopes l.a l.b m.a m.b (run e) (run f) (steep e) (steep f) (steep_scaled l e on) (steep_scaled m f at))

  pub leant_by_gap : leant_cmp q l m ≡ ordering_then (int_cmp (gap f e q) (pos 0)) (int_cmp (turn f e) (pos 0))
  leant_by_gap = leant_is q l m T L M ∙ ap₂ ordering_then heights_by_gap slopes_by_turn

-- ---- levels
not_both : (o p : Ordering) → o ≡ ordering_reverse p → is_gt o ≡ true → is_gt p ≡ true → ⊥
not_both o Greater e h k = let i = ap is_gt e in cc
not_both o Less e h k = cc
not_both o Equal e h k = cc

module _ (g : Skeleton) (q : Point) (plane : IsPlaneSkeleton g) (T : HasWeight q) where
  runs_of : (e : Edge) → IsSeen g q e → pos 0 <ℤ run e
  runs_of e s = let p = plane.proper_edge e s.in' in run_positive e (slanted_below e q p.0 p.1 T s.spanning s.lies_under)

  module _ (l m : Line) (e f : Edge) (rl : RunsForward l.a l.b) (rm : RunsForward m.a m.b) (on : IsOnLine l e) (at : IsOnLine m f) (s : IsSeen g q e) (t : IsSeen g q f) where
    -- an edge above another one is on the higher line
    above_is_higher : is_above e f ≡ true → is_higher q l m ≡ true
    above_is_higher h =
        let E = runs_of e s in
        let F = runs_of f t in
        let by = leant_by_gap q l m e f on at T (line_slanted l e on rl E) (line_slanted m f at rm F) E F in
        elim (higher_there g q e f plane T s t h) [
          | inl k ↦ ap is_gt (by ∙ ap (λ o. ordering_then o (int_cmp (turn f e) (pos 0))) (greater_in (gap f e q) (pos 0) k))
          | inr z ↦ ap is_gt (by ∙ ap₂ ordering_then (equal_in (gap f e q) (pos 0) z.0) (greater_in (turn f e) (pos 0) z.1))
        ]

  module _ (l m : Line) (e f : Edge) (rl : RunsForward l.a l.b) (rm : RunsForward m.a m.b) (on : IsOnLine l e) (at : IsOnLine m f) (s : IsSeen g q e) (t : IsSeen g q f) where
    -- what is on the higher line has no lower level, and what isn't has no higher one
    pub not_lower : is_higher q l m ≡ true → level g q f ≤ level g q e
    not_lower h =
        elim (cases_Bool (is_above f e)) [
          | inl a ↦ absurd (not_both (leant_cmp q l m) (leant_cmp q m l) ((leant_total q).antisymm l m) h (above_is_higher m l f e rm rl at on t s a))
          | inr a ↦ levels_tell_highest.not_above g q f e plane T t s a
        ]

    pub not_higher : is_higher q l m ≡ false → level g q e ≤ level g q f
    not_higher h =
        elim (cases_Bool (is_above e f)) [
          | inl a ↦ let k = above_is_higher l m e f rl rm on at s t a in cc
          | inr a ↦ levels_tell_highest.not_above g q e f plane T s t a
        ]

-- told by the heights as they were compared
pub leant_told : (q : Point) (l m : Line) (o : Ordering) → HasWeight q → pos 0 <ℤ l.b → pos 0 <ℤ m.b → o ≡ height_cmp l m q → leant_cmp q l m ≡ ordering_then o (fraction_cmp l m)
leant_told q l m o T L M e = leant_is q l m T L M ∙ ap (λ x. ordering_then x (fraction_cmp l m)) (sym e)
