-- A common point of two pieces of different lines is in range, since it stands between two points that are.
use Rattle.std.proofs.Common.{◌≡◌, ◌≢◌, [], ◌∷◌, ℤ, pos, ◌+ℤ◌, ◌*ℤ◌, ◌<ℤ◌, neg_ℤ, Bool, true, false, refl, sym, ap, ◌∙◌, subst, arith, ⊎_elim, Ordering, Less, Equal, Greater}
use Rattle.std.specs.Ordering.{int_cmp}
use Rattle.std.proofs.lemmas.Int.{ints}
use Rattle.integers.proofs.Compare.{less_out, equal_out, greater_out}
use Rattle.integers.proofs.Reify.{ring, sides}
use Rattle.integers.proofs.Signs.{mul_pos, cancel_pos, neg_above}
use Rattle.exact_plane.specs.Line.{Line, side_of}
use Rattle.exact_plane.specs.Point.{Point, IsPoint}
use Rattle.exact_plane.specs.Segment.{line_of_segment}
use Rattle.exact_plane.specs.Span.{IsSpan}
use Rattle.exact_plane.proofs.Along.{mean_between}
use Rattle.exact_plane.proofs.Between.{Mean, mean_side}
use Rattle.exact_plane.proofs.PlaneLaws.{Crossing, crosses_to_right, crosses_to_left}
use Rattle.plane_graphs.specs.Fit.{IsFitPiece}
use Rattle.plane_graphs.specs.Line.{IsProper, are_parallel}
use Rattle.plane_graphs.specs.Piece.{Piece}
use Rattle.plane_graphs.proofs.Lines.{along_out, along_in, segment_runs, crossing_is, same_numbers, point_is_proper, before_of}
use Rattle.plane_graphs.proofs.Marks.{On, le_cases}
use Rattle.plane_graphs.proofs.Order.{Lt}
use Rattle.plane_graphs.proofs.Vertices.{proper_piece}
use Rattle.present_graphs.specs.Spans.{span_of_piece}

-- where a mean of two numbers is 0, one is below 0 and the other above
balanced : (z k A s B t : ℤ) → z ≡ pos 0 → pos 0 <ℤ s → pos 0 <ℤ t → z *ℤ k ≡ A *ℤ s +ℤ B *ℤ t → pos 0 <ℤ A → pos 0 <ℤ neg_ℤ B
balanced z k A s B t e hs ht m hA =
    let p : pos 0 <ℤ (A *ℤ s) = mul_pos hA hs in
    let q : neg_ℤ B *ℤ t ≡ A *ℤ s = ring (B ∷ t ∷ []) (search sides depth 40 fits 20000) tt ∙ minus (sym m ∙ ap (λ y. y *ℤ k) e ∙ ring (k ∷ []) (search sides depth 40 fits 20000) tt) in
    cancel_pos {x = neg_ℤ B} ht (subst (λ y. pos 0 <ℤ y) (sym q) p)
  where
    minus : A *ℤ s +ℤ B *ℤ t ≡ pos 0 → neg_ℤ (B *ℤ t) ≡ A *ℤ s
    minus f = omega (arith, ints)

below : (z : ℤ) → pos 0 <ℤ neg_ℤ z → z <ℤ pos 0
below z h = omega (arith, ints)

-- the same, from below
balanced_back : (z k A s B t : ℤ) → z ≡ pos 0 → pos 0 <ℤ s → pos 0 <ℤ t → z *ℤ k ≡ A *ℤ s +ℤ B *ℤ t → A <ℤ pos 0 → pos 0 <ℤ B
balanced_back z k A s B t e hs ht m hA =
    let p : pos 0 <ℤ (neg_ℤ A *ℤ s) = mul_pos (neg_above A hA) hs in
    let q : B *ℤ t ≡ neg_ℤ A *ℤ s = minus (sym m ∙ ap (λ y. y *ℤ k) e ∙ ring (k ∷ []) (search sides depth 40 fits 20000) tt) ∙ ring (A ∷ s ∷ []) (search sides depth 40 fits 20000) tt in
    cancel_pos {x = B} ht (subst (λ y. pos 0 <ℤ y) (sym q) p)
  where
    minus : A *ℤ s +ℤ B *ℤ t ≡ pos 0 → B *ℤ t ≡ neg_ℤ (A *ℤ s)
    minus f = omega (arith, ints)

module _ (k m : Piece) (hk : IsFitPiece k) (hm : IsFitPiece m) (sk : IsSpan (span_of_piece k)) (sm : IsSpan (span_of_piece m)) (x : Point) (px : IsProper x) (ok : On k x) (om : On m x) where
  abbrev l : Line
  l = line_of_segment k.segment

  abbrev n : Line
  n = line_of_segment m.segment

  module _ (apart : are_parallel (line_of_segment k.segment) (line_of_segment m.segment) ≡ false) where
    -- the point is the only one on both lines
    one : (y : Point) → IsPoint y → side_of l y ≡ pos 0 → side_of n y ≡ pos 0 → IsPoint x
    one y hy a b =
        subst IsPoint
        (crossing_is k m (proper_piece k hk) (proper_piece m hm) apart y (point_is_proper y hy) (along_in k y a) (along_in m y b)
        ∙ sym (crossing_is k m (proper_piece k hk) (proper_piece m hm) apart x px ok.line om.line))
        hy

    crossed : Crossing l n k.from k.to → IsPoint x
    crossed c = one c.place c.is.point c.is.on_first c.is.on_second

    inner : Lt k.from x → Lt x k.to → IsPoint x
    inner a b =
        let w = mean_between l.a l.b l.c k.from.x k.from.y k.from.w x.x x.y x.w k.to.x k.to.y k.to.w (segment_runs k (proper_piece k hk)) hk.from.positive px.positive hk.to.positive
        (along_out k k.from hk.from_on) (along_out k x ok.line) (along_out k k.to hk.to_on) (before_of k.from x hk.from px a) (before_of x k.to px hk.to b) in
        by w (mean_side n.a n.b n.c k.from.x k.from.y k.from.w x.x x.y x.w k.to.x k.to.y k.to.w w) (int_cmp (side_of n k.from) (pos 0)) refl
      where
        by : (w : Mean k.from.x k.from.y k.from.w x.x x.y x.w k.to.x k.to.y k.to.w) → side_of n x *ℤ w.k ≡ side_of n k.from *ℤ w.s +ℤ side_of n k.to *ℤ w.t → (o : Ordering) → int_cmp (side_of n k.from) (pos 0) ≡ o → IsPoint x
        by w e Less f =
            let h = less_out (side_of n k.from) (pos 0) f in
            crossed (crosses_to_left l n sk.line sm.line k.from k.to sk.lower sk.upper sk.way.lower_on sk.way.upper_on sk.way.ascending h
            (balanced_back (side_of n x) w.k (side_of n k.from) w.s (side_of n k.to) w.t (along_out m x om.line) w.s_pos w.t_pos e h))
        by w e Equal f = one k.from sk.lower sk.way.lower_on (equal_out (side_of n k.from) (pos 0) f)
        by w e Greater f =
            let h = greater_out (side_of n k.from) (pos 0) f in
            crossed (crosses_to_right l n sk.line sm.line k.from k.to sk.lower sk.upper sk.way.lower_on sk.way.upper_on sk.way.ascending h
            (below (side_of n k.to) (balanced (side_of n x) w.k (side_of n k.from) w.s (side_of n k.to) w.t (along_out m x om.line) w.s_pos w.t_pos e h)))

    pub at_crossing : IsPoint x
    at_crossing =
        ⊎_elim (λ e. subst IsPoint e sk.lower)
        (λ a. ⊎_elim (λ e. subst IsPoint (sym e) sk.upper) (λ b. inner a b) (le_cases x k.to ok.high))
        (le_cases k.from x ok.low)

  pub in_range : (line_of_segment k.segment ≢ line_of_segment m.segment) → IsPoint x
  in_range differ = by (are_parallel (line_of_segment k.segment) (line_of_segment m.segment)) refl
    where
      by : (b : Bool) → are_parallel (line_of_segment k.segment) (line_of_segment m.segment) ≡ b → IsPoint x
      by true e = absurd (differ (same_numbers k m (proper_piece k hk) (proper_piece m hm) e x px ok.line om.line))
      by false e = at_crossing e
