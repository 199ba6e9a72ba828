-- A piece whose box is wholly below that of a piece that the point sees: it doesn't go through the point, and isn't higher.
use Rattle.std.proofs.Common.{◌≡◌, ℤ, pos, ◌+ℤ◌, ◌-ℤ◌, ◌*ℤ◌, ◌<ℤ◌, ◌≤ℤ◌, true, false, arith, sym, ap, ap₂, ◌∙◌, subst, [], ◌∷◌}
use Rattle.std.specs.Int.{int_max, int_min}
use Rattle.std.specs.Ordering.{int_cmp, ordering_then, is_gt}
use Rattle.std.proofs.lemmas.Int.{ints, by_lt_z, int_max_is, int_min_is}
use Rattle.integers.proofs.Compare.{less_in}
use Rattle.integers.proofs.Reify.{ring, sides}
use Rattle.integers.proofs.Signs.{mul_pos, mul_pos', mul_nonneg, cancel_pos, sum_pos_l, sum_pos_r}
use Rattle.exact_plane.specs.Point.{Point}
use Rattle.exact_plane.specs.WholeParts.{whole_parts}
use Rattle.plane_graphs.specs.Fit.{IsFitPiece}
use Rattle.plane_graphs.specs.Graph.{Edge}
use Rattle.plane_graphs.specs.Line.{IsProper}
use Rattle.plane_graphs.specs.Piece.{Piece}
use Rattle.plane_graphs.proofs.Lines.{along_out, segment_runs}
use Rattle.plane_graphs.proofs.Order.{lt_out as lt_point}
use Rattle.plane_graphs.proofs.Vertices.{proper_piece}
use Rattle.slab_laws.specs.Skeleton.{left_of, lower_than, run, side, gap, under}
use Rattle.slab_faces.proofs.InnerPoints.{before_in}
use Rattle.slab_faces.proofs.OverUnder.{under_in}
use Rattle.slab_faces.proofs.Points.{before_weak}
use Rattle.slab_faces.proofs.Walls.{run_positive}
use Rattle.edge_predicates.proofs.Seen.{slanted_below}
use Rattle.locate_walk.proofs.Heights.{lower_by_whole, under_lower, IsLower}
use Rattle.piece_location.specs.Heights.{ends_of, is_higher, line_of, IsOnLine, IsPieceSeen, IsPieceThrough, IsSpanned}
use Rattle.piece_location.proofs.Leant.{turn}
use Rattle.piece_location.proofs.OnLines.{leant_by_gap, line_slanted, over_edge, zero_on_edge}

-- ---- a sum of positive numbers, with weights that aren't both 0
mixed : (u v a b : ℤ) → pos 0 ≤ℤ u → pos 0 ≤ℤ v → (u ≡ pos 0 → v ≡ pos 0 → ⊥) → pos 0 <ℤ a → pos 0 <ℤ b → pos 0 <ℤ (u *ℤ a +ℤ v *ℤ b)
mixed u v a b U V n A B =
    by_lt_z (pos 0) u (λ h. sum_pos_l (mul_pos h A) (mul_nonneg V (omega (arith, ints))))
    (λ h. by_lt_z (pos 0) v (λ k. sum_pos_r (mul_nonneg U (omega (arith, ints))) (mul_pos k B)) (λ k. absurd (n (omega (arith, ints)) (omega (arith, ints)))))

-- weights of which some sum is positive aren't both 0
not_both_zero : (u v p r n : ℤ) → pos 0 <ℤ n → n ≡ u *ℤ p +ℤ v *ℤ r → u ≡ pos 0 → v ≡ pos 0 → ⊥
not_both_zero u v p r n N e U V =
    let z : u *ℤ p +ℤ v *ℤ r ≡ pos 0 = ap₂ (λ a b. a *ℤ p +ℤ b *ℤ r) U V ∙ ring (p ∷ r ∷ []) (search sides depth 40 fits 20000) tt in
    absurd (omega (arith, ints))

-- ---- two edges by their ends, and a point between those of each: their gap there is a mean of the gaps of their ends
module _ (px py pw rx ry rw sx sy sw tx ty tw x y w : ℤ) where
  abbrev to_high : ℤ
  to_high = rx *ℤ w -ℤ x *ℤ rw

  abbrev from_low : ℤ
  from_low = x *ℤ pw -ℤ px *ℤ w

  abbrev side_f : ℤ
  side_f = (py *ℤ rw -ℤ ry *ℤ pw) *ℤ x +ℤ (rx *ℤ pw -ℤ px *ℤ rw) *ℤ y +ℤ (px *ℤ ry -ℤ rx *ℤ py) *ℤ w

  abbrev side_e : ℤ
  side_e = (sy *ℤ tw -ℤ ty *ℤ sw) *ℤ x +ℤ (tx *ℤ sw -ℤ sx *ℤ tw) *ℤ y +ℤ (sx *ℤ ty -ℤ tx *ℤ sy) *ℤ w

  abbrev u_e : ℤ
  u_e = tx *ℤ w -ℤ x *ℤ tw

  abbrev v_e : ℤ
  v_e = x *ℤ sw -ℤ sx *ℤ w

  run_is : (rx *ℤ pw -ℤ px *ℤ rw) *ℤ w ≡ to_high *ℤ pw +ℤ from_low *ℤ rw
  run_is = ring (px ∷ pw ∷ rx ∷ rw ∷ x ∷ w ∷ []) (search sides depth 40 fits 20000) tt

  mean : (pos 0 -ℤ ((tx *ℤ sw -ℤ sx *ℤ tw) *ℤ side_f -ℤ (rx *ℤ pw -ℤ px *ℤ rw) *ℤ side_e)) *ℤ w
      ≡ u_e *ℤ (to_high *ℤ (py *ℤ sw -ℤ sy *ℤ pw) +ℤ from_low *ℤ (ry *ℤ sw -ℤ sy *ℤ rw)) +ℤ v_e *ℤ (to_high *ℤ (py *ℤ tw -ℤ ty *ℤ pw) +ℤ from_low *ℤ (ry *ℤ tw -ℤ ty *ℤ rw))
  mean = ring (px ∷ py ∷ pw ∷ rx ∷ ry ∷ rw ∷ sx ∷ sy ∷ sw ∷ tx ∷ ty ∷ tw ∷ x ∷ y ∷ w ∷ []) (search sides depth 40 fits 20000) tt

  mean_positive : pos 0 <ℤ w → pos 0 <ℤ (rx *ℤ pw -ℤ px *ℤ rw) → pos 0 <ℤ (tx *ℤ sw -ℤ sx *ℤ tw) → pos 0 ≤ℤ to_high → pos 0 ≤ℤ from_low → pos 0 ≤ℤ u_e → pos 0 ≤ℤ v_e →
      pos 0 <ℤ (py *ℤ sw -ℤ sy *ℤ pw) → pos 0 <ℤ (ry *ℤ sw -ℤ sy *ℤ rw) → pos 0 <ℤ (py *ℤ tw -ℤ ty *ℤ pw) → pos 0 <ℤ (ry *ℤ tw -ℤ ty *ℤ rw) →
      (u_e ≡ pos 0 → v_e ≡ pos 0 → ⊥) → pos 0 <ℤ (pos 0 -ℤ ((tx *ℤ sw -ℤ sx *ℤ tw) *ℤ side_f -ℤ (rx *ℤ pw -ℤ px *ℤ rw) *ℤ side_e))
  mean_positive W F E a b c d g h i j n =
      let k = not_both_zero to_high from_low pw rw ((rx *ℤ pw -ℤ px *ℤ rw) *ℤ w) (mul_pos' (rx *ℤ pw -ℤ px *ℤ rw) w F W) run_is in
      cancel_pos {x = pos 0 -ℤ ((tx *ℤ sw -ℤ sx *ℤ tw) *ℤ side_f -ℤ (rx *ℤ pw -ℤ px *ℤ rw) *ℤ side_e)} {k = w} W
      (subst (λ z. pos 0 <ℤ z) (sym mean)
      (mixed u_e v_e (to_high *ℤ (py *ℤ sw -ℤ sy *ℤ pw) +ℤ from_low *ℤ (ry *ℤ sw -ℤ sy *ℤ rw)) (to_high *ℤ (py *ℤ tw -ℤ ty *ℤ pw) +ℤ from_low *ℤ (ry *ℤ tw -ℤ ty *ℤ rw)) c d n
      (mixed to_high from_low (py *ℤ sw -ℤ sy *ℤ pw) (ry *ℤ sw -ℤ sy *ℤ rw) a b k g h)
      (mixed to_high from_low (py *ℤ tw -ℤ ty *ℤ pw) (ry *ℤ tw -ℤ ty *ℤ rw) a b k i j)))

below_zero : (z : ℤ) → pos 0 <ℤ (pos 0 -ℤ z) → z <ℤ pos 0
below_zero z h = omega (arith, ints)

lower_gap : (p q : Point) → lower_than p q ≡ true → pos 0 <ℤ (q.y *ℤ p.w -ℤ p.y *ℤ q.w)
unfolding lower_than
lower_gap p q h = omega (arith, ints)

weak_gap : (p q : Point) → left_of q p ≡ false → pos 0 ≤ℤ (q.x *ℤ p.w -ℤ p.x *ℤ q.w)
unfolding left_of
weak_gap p q h = omega (arith, ints)

-- an edge that is below another one by all ends is below it at the point
gap_falls : (e f : Edge) (q : Point) → IsLower e f q → pos 0 <ℤ run e → pos 0 <ℤ run f → gap f e q <ℤ pos 0
unfolding gap side run
gap_falls e f q h E F =
    let W = h.weights.4 in
    let a = weak_gap q f.high (before_weak q f.high h.spanned.to) in
    let b = weak_gap f.low q (before_weak f.low q h.spanned.from) in
    let c = weak_gap q e.high (before_weak q e.high h.spans.to) in
    let d = weak_gap e.low q (before_weak e.low q h.spans.from) in
    let n = not_both_zero (e.high.x *ℤ q.w -ℤ q.x *ℤ e.high.w) (q.x *ℤ e.low.w -ℤ e.low.x *ℤ q.w) e.low.w e.high.w ((e.high.x *ℤ e.low.w -ℤ e.low.x *ℤ e.high.w) *ℤ q.w)
    (mul_pos' (e.high.x *ℤ e.low.w -ℤ e.low.x *ℤ e.high.w) q.w E W) (run_is e.low.x e.low.y e.low.w e.high.x e.high.y e.high.w f.low.x f.low.y f.low.w f.high.x f.high.y f.high.w q.x q.y q.w) in
    below_zero _
    (mean_positive f.low.x f.low.y f.low.w f.high.x f.high.y f.high.w e.low.x e.low.y e.low.w e.high.x e.high.y e.high.w q.x q.y q.w W F E a b c d
    (lower_gap e.low f.low h.low_low) (lower_gap e.low f.high h.low_high) (lower_gap e.high f.low h.high_low) (lower_gap e.high f.high h.high_high) n)

-- ---- the two pieces
module _ (q : Point) (Q : IsProper q) (k m : Piece) (fk : IsFitPiece k) (fm : IsFitPiece m) (seen : IsPieceSeen q k) (s : IsSpanned q m)
    (low : int_max (whole_parts m.from).y (whole_parts m.to).y <ℤ int_min (whole_parts k.from).y (whole_parts k.to).y) where
  on_m : IsOnLine (line_of m) (ends_of m)
  on_m = record { low_on = along_out m m.from fm.from_on; high_on = along_out m m.to fm.to_on }

  on_k : IsOnLine (line_of k) (ends_of k)
  on_k = record { low_on = along_out k k.from fk.from_on; high_on = along_out k k.to fk.to_on }

  is_lower : IsLower (ends_of m) (ends_of k) q
  is_lower = record {
    weights = (fm.from.positive, fm.to.positive, fk.from.positive, fk.to.positive, Q.positive);
    spans = s;
    spanned = seen.spanning;
    low_low = lower_by_whole m.from k.from fm.from.positive fk.from.positive (omega (arith, ints, int_max_is (whole_parts m.from).y (whole_parts m.to).y, int_min_is (whole_parts k.from).y (whole_parts k.to).y));
    low_high = lower_by_whole m.from k.to fm.from.positive fk.to.positive (omega (arith, ints, int_max_is (whole_parts m.from).y (whole_parts m.to).y, int_min_is (whole_parts k.from).y (whole_parts k.to).y));
    high_low = lower_by_whole m.to k.from fm.to.positive fk.from.positive (omega (arith, ints, int_max_is (whole_parts m.from).y (whole_parts m.to).y, int_min_is (whole_parts k.from).y (whole_parts k.to).y));
    high_high = lower_by_whole m.to k.to fm.to.positive fk.to.positive (omega (arith, ints, int_max_is (whole_parts m.from).y (whole_parts m.to).y, int_min_is (whole_parts k.from).y (whole_parts k.to).y));
  }

  k_under : under (ends_of k) q ≡ true
  k_under = over_edge (line_of k) (ends_of k) on_k q (segment_runs k (proper_piece k fk)) fk.from.positive fk.to.positive Q.positive seen.spanning (before_in k.from k.to fk.from fk.to (lt_point k.from k.to fk.forward)) seen.over_line

  m_side : pos 0 <ℤ side (ends_of m) q
  m_side = under_lower (ends_of m) (ends_of k) q is_lower k_under

  pub lower_off : IsPieceThrough q m → ⊥
  lower_off t = let z = zero_on_edge (line_of m) (ends_of m) on_m q (segment_runs m (proper_piece m fm)) t.on_line in let y = m_side in absurd (omega (arith, ints))

  run_k : pos 0 <ℤ run (ends_of k)
  run_k = run_positive (ends_of k) (slanted_below (ends_of k) q fk.from.positive fk.to.positive Q.positive seen.spanning k_under)

  run_m : pos 0 <ℤ run (ends_of m)
  run_m = run_positive (ends_of m) (slanted_below (ends_of m) q fm.from.positive fm.to.positive Q.positive s (under_in (ends_of m) q m_side))

  pub lower_not_higher : is_higher q (line_of m) (line_of k) ≡ false
  lower_not_higher =
      let M = line_slanted (line_of m) (ends_of m) on_m (segment_runs m (proper_piece m fm)) run_m in
      let K = line_slanted (line_of k) (ends_of k) on_k (segment_runs k (proper_piece k fk)) run_k in
      let g = gap_falls (ends_of m) (ends_of k) q is_lower run_m run_k in
      ap is_gt (leant_by_gap q (line_of m) (line_of k) (ends_of m) (ends_of k) on_m on_k Q.positive M K run_m run_k ∙ ap (λ o. ordering_then o (int_cmp (turn (ends_of k) (ends_of m)) (pos 0))) (less_in (gap (ends_of k) (ends_of m) q) (pos 0) g))
