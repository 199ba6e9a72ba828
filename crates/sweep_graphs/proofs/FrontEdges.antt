-- Two edges that the front through q meets strictly below q are in the order of their pieces in the status.
use Rattle.std.proofs.Common.{◌≡◌, ℕ, ℤ, pos, ◌-ℤ◌, ◌*ℤ◌, ◌<ℤ◌, ◌≤ℤ◌, true, false, arith, refl, sym, ap, ◌∙◌, ◌⊎◌, inl, inr, [], ◌∷◌, Ordering, Less, Equal, Greater, nat_cmp, int_cmp}
use Rattle.std.specs.Prelude.{not}
use Rattle.std.specs.Ordering.{is_gt, ordering_then}
use Rattle.std.specs.List.{Contains}
use Rattle.std.proofs.lemmas.Int.{ints, by_lt_z}
use Rattle.std.proofs.lemmas.Bool.{and_parts, not-true}
use lib.Signed.{lt_z}
use lib.IntN.{*ℤ-zero}
use Rattle.integers.proofs.Compare.{greater_in, greater_out}
use Rattle.integers.proofs.Reify.{ring, sides}
use Rattle.integers.proofs.Signs.{mul_pos'}
use Rattle.exact_plane.specs.Height.{height_cmp, height_over, height_under}
use Rattle.exact_plane.specs.Line.{Line, side_of}
use Rattle.exact_plane.specs.Point.{Point}
use Rattle.exact_plane.specs.Span.{Span, IsSpan}
use Rattle.plane_graphs.specs.Graph.{Edge}
use Rattle.slab_laws.specs.Skeleton.{Skeleton, HasWeight, IsPlaneSkeleton, left_of, gap, below}
use Rattle.slab_laws.specs.Slabs.{reaches_right}
use Rattle.slab_faces.proofs.Ints.{times_less, times_at_most}
use Rattle.slab_faces.proofs.Order.{below_from, gap-swap}
use Rattle.slab_faces.proofs.Cells.{right_side}
use Rattle.slab_faces.proofs.Slabs.{IsThrough, by_gap, below_at}
use Rattle.slab_faces.proofs.Turns.{on_own_wall}
use Rattle.slab_faces.proofs.Walls.{left_of-irrefl}
use Rattle.edge_predicates.proofs.Heights.{higher_is, not_vertical}
use Rattle.sweep_events.specs.Front.{across, upward, lean, after_cmp}
use Rattle.sweep_events.proofs.FrontOrder.{across_moves, cross_back, not_behind_twice}
use Rattle.sweep_events.proofs.SlabList.{low_across}
use Rattle.sweep_graphs.proofs.BesideWalls.{beside_wall, beside_proper, upto_beside, after_beside}

-- heights by `across`
height_gap : (l m : Line) (t : Point) → height_over m t *ℤ height_under l t -ℤ height_over l t *ℤ height_under m t ≡ across l m t *ℤ t.w
height_gap l m t = ring (l.a ∷ l.b ∷ l.c ∷ m.a ∷ m.b ∷ m.c ∷ t.x ∷ t.y ∷ t.w ∷ []) (search sides depth 40 fits 20000) tt

above_here : (l m : Line) (t : Point) → HasWeight t → pos 0 <ℤ across l m t → is_gt (height_cmp m l t) ≡ true
above_here l m t T h =
    let a = mul_pos' (across l m t) t.w h T in
    let b = height_gap l m t in
    ap is_gt (greater_in (height_over m t *ℤ height_under l t) (height_over l t *ℤ height_under m t) (omega (arith, ints)))

across_there : (l m : Line) (t : Point) → HasWeight t → is_gt (height_cmp l m t) ≡ true → across l m t <ℤ pos 0
across_there l m t T h =
    by_lt_z (across l m t) (pos 0) (λ k. k) (λ k.
    let a = times_at_most t.w (pos 0) (across l m t) T (omega (arith, ints)) in
    let z = *ℤ-zero t.w in
    let b = height_gap l m t in
    let c : across l m t *ℤ t.w ≡ t.w *ℤ across l m t = ring (across l m t ∷ t.w ∷ []) (search sides depth 40 fits 20000) tt in
    let d = greater_out (height_over l t *ℤ height_under m t) (height_over m t *ℤ height_under l t) (is_more (height_cmp l m t) h) in
    absurd (omega (arith, ints)))
  where
    is_more : (o : Ordering) → is_gt o ≡ true → o ≡ Greater
    is_more Less e = absurd cc
    is_more Equal e = absurd cc
    is_more Greater e = refl

module _ (g : Skeleton) (plane : IsPlaneSkeleton g) (q : Point) (Q : Contains g.vertices q) (f e : Edge) (F : Contains g.edges f) (E : Contains g.edges e) (rf : reaches_right f q ≡ true) (re : reaches_right e q ≡ true) (l m : Line) (sf : IsSpan (record { lower = f.low; upper = f.high; line = l })) (se : IsSpan (record { lower = e.low; upper = e.high; line = m })) (up : pos 0 <ℤ side_of l q) (i j : ℕ) (first : ordering_then (after_cmp q l m) (nat_cmp i j) ≡ Less) where
  W : HasWeight q
  W = plane.proper q Q

  long_f : left_of f.low f.high ≡ true
  long_f = ((right_side g q plane (on_own_wall g q plane Q)).passes f e F E rf re).f_long

  long_e : left_of e.low e.high ≡ true
  long_e = ((right_side g q plane (on_own_wall g q plane Q)).passes f e F E rf re).e_long

  not_behind : across l m q ≡ pos 0 → pos 0 ≤ℤ upward l m q
  not_behind z = by_lt_z (upward l m q) (pos 0) (λ k. absurd (not_behind_twice (across l m q) (upward l m q) (int_cmp (pos 0) (lean l m)) (nat_cmp i j) first (inr (omega (arith, ints), omega (arith, ints))))) (λ k. omega (arith, ints))

  -- where they meet on q's wall, the upper one isn't flatter
  not_flatter : across l m q ≡ pos 0 → lean l m <ℤ pos 0 → ⊥
  not_flatter z h =
      let c = cross_back l m q in
      let a = times_less (side_of l q) (lean l m) (pos 0) up h in
      let b = times_at_most l.b (pos 0) (upward l m q) (not_vertical (record { lower = f.low; upper = f.high; line = l }) sf long_f) (not_behind z) in
      let z1 = *ℤ-zero (side_of l q) in
      let z2 = *ℤ-zero l.b in
      let z3 : l.a *ℤ across l m q ≡ pos 0 = ap (λ x. l.a *ℤ x) z ∙ *ℤ-zero l.a in
      absurd (omega (arith, ints))

  inside : Point
  inside = beside_wall g q

  falls : across l m q ≡ pos 0 → across l m inside <ℤ pos 0 → lean l m <ℤ pos 0
  unfolding inside
  falls z h =
      let M = beside_proper g q W in
      let a = across_moves l m q inside in
      let right : left_of q inside ≡ true = upto_beside g q q W (irrefl q) in
      let dx : pos 0 <ℤ (inside.x *ℤ q.w -ℤ q.x *ℤ inside.w) = apart q inside right in
      by_lt_z (lean l m) (pos 0) (λ k. k) (λ k.
      let b = times_at_most (inside.x *ℤ q.w -ℤ q.x *ℤ inside.w) (pos 0) (lean l m) dx (omega (arith, ints)) in
      let c = times_less q.w (across l m inside) (pos 0) W h in
      let z1 = *ℤ-zero q.w in
      let z2 = *ℤ-zero (inside.x *ℤ q.w -ℤ q.x *ℤ inside.w) in
      let z3 : across l m q *ℤ inside.w ≡ pos 0 = ap (λ x. x *ℤ inside.w) z ∙ ring (inside.w ∷ []) (search sides depth 40 fits 20000) tt in
      let s : across l m inside *ℤ q.w ≡ q.w *ℤ across l m inside = ring (across l m inside ∷ q.w ∷ []) (search sides depth 40 fits 20000) tt in
      absurd (omega (arith, ints)))
    where
      irrefl : (p : Point) → left_of p p ≡ false
      irrefl p = left_of-irrefl p

      apart : (p r : Point) → left_of p r ≡ true → pos 0 <ℤ (r.x *ℤ p.w -ℤ p.x *ℤ r.w)
      apart p r h = unfold left_of in omega (arith, ints)

  goes_through : (h : Edge) → Contains g.edges h → reaches_right h q ≡ true → IsThrough h inside
  unfolding inside
  goes_through h H r =
      let a = and_parts (not (left_of q h.low)) (left_of q h.high) r in
      record { from = upto_beside g q h.low (plane.proper_edge h H).0 (not-true (left_of q h.low) a.0); to = after_beside g q h.high (plane.upper_in h H) a.1 }

  positive_by : (z : ℤ) → lt_z (pos 0) z ≡ true → pos 0 <ℤ z
  positive_by z h = omega (arith, ints)

  pub in_order_below : (f ≡ e) ⊎ (below f e ≡ true)
  unfolding inside
  in_order_below =
      let s = right_side g q plane (on_own_wall g q plane Q) in
      let sF : Span = record { lower = f.low; upper = f.high; line = l } in
      let sE : Span = record { lower = e.low; upper = e.high; line = m } in
      let low = low_across l m q (int_cmp (pos 0) (lean l m)) (nat_cmp i j) first in
      by_lt_z (pos 0) (across l m q)
      (λ k. let h = higher_is sF sE q (height_cmp m l q) sf se W long_f long_e refl in
      inr (below_from f e q (s.passes f e F E rf re) (positive_by (gap f e q) (sym h ∙ above_here l m q W k))))
      (λ k. let z : across l m q ≡ pos 0 = omega (arith, ints) in
      let T = beside_proper g q W in
      let tf = goes_through f F rf in
      let te = goes_through e E re in
      by_gap g f e inside plane F E T tf te
      (λ u. inr (below_at g f e inside plane F E T tf te u))
      (λ u. let S = gap-swap f e inside in
      let h = higher_is sE sF inside (height_cmp l m inside) se sf T long_e long_f refl in
      let up' : lt_z (pos 0) (gap e f inside) ≡ true = lt_yes' (gap e f inside) (omega (arith, ints)) in
      let a = across_there l m inside T (h ∙ up') in
      absurd (not_flatter z (falls z a)))
      (λ u. inl u))
    where
      lt_yes' : (z : ℤ) → pos 0 <ℤ z → lt_z (pos 0) z ≡ true
      lt_yes' z h = let e : true ≡ lt_z (pos 0) z = omega (arith, ints) in sym e
