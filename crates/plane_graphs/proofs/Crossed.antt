-- Two edges that cross by signs would share a point inside both.
use Rattle.std.proofs.Common.{◌≡◌, [], ◌∷◌, ℤ, pos, ◌+ℤ◌, ◌-ℤ◌, ◌*ℤ◌, ◌<ℤ◌, neg_ℤ, true, ◌&&◌, ap, ap₂, sym, ◌∙◌, subst, arith, inl, inr, ⊎_elim, Ordering, Less, Equal, int_cmp}
use Rattle.std.proofs.lemmas.Int.{ints}
use Rattle.integers.proofs.Reify.{ring, sides}
use Rattle.integers.proofs.Signs.{cancel_pos, cancel_zero, mul_pos, sum_pos}
use Rattle.integers.proofs.Compare.{less_out, less_in, equal_in}
use Rattle.integers.proofs.Tests.{is_less, not_true}
use Rattle.exact_plane.specs.Point.{reduced, Point}
use Rattle.plane_graphs.proofs.Lines.{by_x-is, by_y-is, reduced_is, span_a, span_b, span_runs, IsReduced, collinear_in}
use Rattle.plane_graphs.proofs.Crossings.{minus_times}
use Rattle.std.specs.Ordering.{ordering_then}
use Rattle.exact_plane.specs.PointOrder.{point_cmp, by_x, by_y}
use Rattle.plane_graphs.specs.Graph.{Graph, Mark, det, collinear, on_edge, is_negative, is_positive, crosses}
use Rattle.plane_graphs.specs.Line.{IsProper}
use Rattle.plane_graphs.specs.Plane.{IsPlane}
use Rattle.plane_graphs.specs.GraphLaws.{NoneCross}
use Rattle.plane_graphs.specs.Ascending.{Member}
use Rattle.exact_plane.specs.Plane.{side, RunsForward}
use Rattle.exact_plane.specs.PointOrderLaws.{and_true}
use Rattle.plane_graphs.proofs.Lists.{and_in}
use Rattle.plane_graphs.proofs.Order.{Lt, lt_out, lt_never}
use Rattle.plane_graphs.proofs.Marks.{le_lt, le_in}

-- ---- the order by the numbers of the line
pub less_by : (s t u : Ordering) → s ≡ Less → ordering_then s (ordering_then t u) ≡ Less
less_by s t u e = ap (λ o. ordering_then o (ordering_then t u)) e

pub less_then : (s t u : Ordering) → s ≡ Equal → t ≡ Less → ordering_then s (ordering_then t u) ≡ Less
less_then s t u e f = ap₂ (λ o r. ordering_then o (ordering_then r u)) e f

by_runs : (p q : Point) → IsProper p → IsProper q → RunsForward (span_a p q) (span_b p q) → point_cmp p q ≡ Less
by_runs p q pp pq (inl h) =
    let l : (p.x *ℤ q.w) <ℤ (q.x *ℤ p.w) = omega (arith, ints) in
    less_by (by_x p q) (by_y p q) (int_cmp p.w q.w) (by_x-is p q pp pq ∙ less_in (p.x *ℤ q.w) (q.x *ℤ p.w) l)
by_runs p q pp pq (inr h) =
    let e : p.x *ℤ q.w ≡ q.x *ℤ p.w = (let f : span_b p q ≡ pos 0 = h.0 in omega (arith, ints)) in
    let l : (p.y *ℤ q.w) <ℤ (q.y *ℤ p.w) = (let f : span_a p q <ℤ pos 0 = h.1 in omega (arith, ints)) in
    less_then (by_x p q) (by_y p q) (int_cmp p.w q.w) (by_x-is p q pp pq ∙ equal_in (p.x *ℤ q.w) (q.x *ℤ p.w) e) (by_y-is p q pp pq ∙ less_in (p.y *ℤ q.w) (q.y *ℤ p.w) l)

pub runs_lt : (p q : Point) → IsProper p → IsProper q → RunsForward (span_a p q) (span_b p q) → Lt p q
runs_lt p q pp pq r = record { is = by_runs p q pp pq r }

-- ---- a mean of two points
module _ (x1 y1 w1 x2 y2 w2 x y w g s t : ℤ) (hs : pos 0 <ℤ s) (ht : pos 0 <ℤ t) (hg : pos 0 <ℤ g)
    (ex : x *ℤ g ≡ s *ℤ x1 +ℤ t *ℤ x2) (ey : y *ℤ g ≡ s *ℤ y1 +ℤ t *ℤ y2) (ew : w *ℤ g ≡ s *ℤ w1 +ℤ t *ℤ w2) where
  mean_b : (x *ℤ w1 -ℤ x1 *ℤ w) *ℤ g ≡ (x2 *ℤ w1 -ℤ x1 *ℤ w2) *ℤ t
  mean_b = ring (x ∷ w1 ∷ x1 ∷ w ∷ g ∷ []) (search sides depth 40 fits 20000) tt ∙ (λ i. ex i *ℤ w1 -ℤ x1 *ℤ ew i) ∙ ring (x1 ∷ w1 ∷ x2 ∷ w2 ∷ s ∷ t ∷ []) (search sides depth 40 fits 20000) tt

  mean_a : (y1 *ℤ w -ℤ y *ℤ w1) *ℤ g ≡ (y1 *ℤ w2 -ℤ y2 *ℤ w1) *ℤ t
  mean_a = ring (y ∷ w1 ∷ y1 ∷ w ∷ g ∷ []) (search sides depth 40 fits 20000) tt ∙ (λ i. y1 *ℤ ew i -ℤ ey i *ℤ w1) ∙ ring (y1 ∷ w1 ∷ y2 ∷ w2 ∷ s ∷ t ∷ []) (search sides depth 40 fits 20000) tt

  mean_b2 : (x2 *ℤ w -ℤ x *ℤ w2) *ℤ g ≡ (x2 *ℤ w1 -ℤ x1 *ℤ w2) *ℤ s
  mean_b2 = ring (x ∷ w2 ∷ x2 ∷ w ∷ g ∷ []) (search sides depth 40 fits 20000) tt ∙ (λ i. x2 *ℤ ew i -ℤ ex i *ℤ w2) ∙ ring (x1 ∷ w1 ∷ x2 ∷ w2 ∷ s ∷ t ∷ []) (search sides depth 40 fits 20000) tt

  mean_a2 : (y *ℤ w2 -ℤ y2 *ℤ w) *ℤ g ≡ (y1 *ℤ w2 -ℤ y2 *ℤ w1) *ℤ s
  mean_a2 = ring (y ∷ w2 ∷ y2 ∷ w ∷ g ∷ []) (search sides depth 40 fits 20000) tt ∙ (λ i. ey i *ℤ w2 -ℤ y2 *ℤ ew i) ∙ ring (y1 ∷ w1 ∷ y2 ∷ w2 ∷ s ∷ t ∷ []) (search sides depth 40 fits 20000) tt

  mean_det : side (y1 *ℤ w2 -ℤ y2 *ℤ w1) (x2 *ℤ w1 -ℤ x1 *ℤ w2) (x1 *ℤ y2 -ℤ x2 *ℤ y1) x y w ≡ pos 0
  mean_det = cancel_zero hg (ring (x1 ∷ y1 ∷ w1 ∷ x2 ∷ y2 ∷ w2 ∷ x ∷ y ∷ w ∷ g ∷ []) (search sides depth 40 fits 20000) tt ∙ (λ i. side (y1 *ℤ w2 -ℤ y2 *ℤ w1) (x2 *ℤ w1 -ℤ x1 *ℤ w2) (x1 *ℤ y2 -ℤ x2 *ℤ y1) (ex i) (ey i) (ew i)) ∙ ring (x1 ∷ y1 ∷ w1 ∷ x2 ∷ y2 ∷ w2 ∷ s ∷ t ∷ []) (search sides depth 40 fits 20000) tt)

-- a positive factor keeps the way
no_times : (t : ℤ) → pos 0 *ℤ t ≡ pos 0
no_times t = ring (t ∷ []) (search sides depth 40 fits 20000) tt

runs_by : (a b A B g t : ℤ) → pos 0 <ℤ g → pos 0 <ℤ t → a *ℤ g ≡ A *ℤ t → b *ℤ g ≡ B *ℤ t → RunsForward A B → RunsForward a b
runs_by a b A B g t hg ht ea eb (inl k) = inl (cancel_pos hg (subst (λ z. pos 0 <ℤ z) (sym eb) (mul_pos k ht)))
runs_by a b A B g t hg ht ea eb (inr k) =
    let n : A <ℤ pos 0 = k.1 in
    let m : pos 0 <ℤ neg_ℤ A = omega (arith, ints) in
    let p : pos 0 <ℤ neg_ℤ a = cancel_pos {x = neg_ℤ a} hg (subst (λ z. pos 0 <ℤ z) (minus_times A t ∙ ap neg_ℤ (sym ea) ∙ sym (minus_times a g)) (mul_pos m ht)) in
    inr (cancel_zero hg (eb ∙ ap (λ z. z *ℤ t) k.0 ∙ no_times t), omega (arith, ints))

-- r is s p + t q over g
module _ (p q r : Point) (pp : IsProper p) (pq : IsProper q) (pr : IsProper r) (l : Lt p q) (g s t : ℤ) (hs : pos 0 <ℤ s) (ht : pos 0 <ℤ t) (hg : pos 0 <ℤ g)
    (ex : r.x *ℤ g ≡ s *ℤ p.x +ℤ t *ℤ q.x) (ey : r.y *ℤ g ≡ s *ℤ p.y +ℤ t *ℤ q.y) (ew : r.w *ℤ g ≡ s *ℤ p.w +ℤ t *ℤ q.w) where
  mean_after : Lt p r
  mean_after = runs_lt p r pp pr (runs_by (span_a p r) (span_b p r) (span_a p q) (span_b p q) g t hg ht (mean_a p.x p.y p.w q.x q.y q.w r.x r.y r.w g s t hs ht hg ex ey ew) (mean_b p.x p.y p.w q.x q.y q.w r.x r.y r.w g s t hs ht hg ex ey ew) (span_runs p q pp pq l))

  mean_before : Lt r q
  mean_before = runs_lt r q pr pq (runs_by (span_a r q) (span_b r q) (span_a p q) (span_b p q) g s hg hs (mean_a2 p.x p.y p.w q.x q.y q.w r.x r.y r.w g s t hs ht hg ex ey ew) (mean_b2 p.x p.y p.w q.x q.y q.w r.x r.y r.w g s t hs ht hg ex ey ew) (span_runs p q pp pq l))

  mean_collinear : collinear p q r ≡ true
  mean_collinear = collinear_in p q r (mean_det p.x p.y p.w q.x q.y q.w r.x r.y r.w g s t hs ht hg ex ey ew)

-- ---- the common point, by either edge
abbrev volume : ℤ → ℤ → ℤ → ℤ → ℤ → ℤ → ℤ → ℤ → ℤ → ℤ
volume x1 y1 w1 x2 y2 w2 x y w = side (y1 *ℤ w2 -ℤ y2 *ℤ w1) (x2 *ℤ w1 -ℤ x1 *ℤ w2) (x1 *ℤ y2 -ℤ x2 *ℤ y1) x y w

module _ (x1 y1 w1 x2 y2 w2 x3 y3 w3 x4 y4 w4 : ℤ) where
  common_x : neg_ℤ (volume x3 y3 w3 x4 y4 w4 x2 y2 w2) *ℤ x1 +ℤ volume x3 y3 w3 x4 y4 w4 x1 y1 w1 *ℤ x2 ≡ volume x1 y1 w1 x2 y2 w2 x4 y4 w4 *ℤ x3 +ℤ neg_ℤ (volume x1 y1 w1 x2 y2 w2 x3 y3 w3) *ℤ x4
  common_x = ring (x1 ∷ y1 ∷ w1 ∷ x2 ∷ y2 ∷ w2 ∷ x3 ∷ y3 ∷ w3 ∷ x4 ∷ y4 ∷ w4 ∷ []) (search sides depth 40 fits 20000) tt

  common_y : neg_ℤ (volume x3 y3 w3 x4 y4 w4 x2 y2 w2) *ℤ y1 +ℤ volume x3 y3 w3 x4 y4 w4 x1 y1 w1 *ℤ y2 ≡ volume x1 y1 w1 x2 y2 w2 x4 y4 w4 *ℤ y3 +ℤ neg_ℤ (volume x1 y1 w1 x2 y2 w2 x3 y3 w3) *ℤ y4
  common_y = ring (x1 ∷ y1 ∷ w1 ∷ x2 ∷ y2 ∷ w2 ∷ x3 ∷ y3 ∷ w3 ∷ x4 ∷ y4 ∷ w4 ∷ []) (search sides depth 40 fits 20000) tt

  common_w : neg_ℤ (volume x3 y3 w3 x4 y4 w4 x2 y2 w2) *ℤ w1 +ℤ volume x3 y3 w3 x4 y4 w4 x1 y1 w1 *ℤ w2 ≡ volume x1 y1 w1 x2 y2 w2 x4 y4 w4 *ℤ w3 +ℤ neg_ℤ (volume x1 y1 w1 x2 y2 w2 x3 y3 w3) *ℤ w4
  common_w = ring (x1 ∷ y1 ∷ w1 ∷ x2 ∷ y2 ∷ w2 ∷ x3 ∷ y3 ∷ w3 ∷ x4 ∷ y4 ∷ w4 ∷ []) (search sides depth 40 fits 20000) tt

positive_out : (z : ℤ) → is_positive z ≡ true → pos 0 <ℤ z
positive_out z h = less_out (pos 0) z (is_less (int_cmp (pos 0) z) h)

negative_out : (z : ℤ) → is_negative z ≡ true → pos 0 <ℤ neg_ℤ z
negative_out z h = let k : z <ℤ pos 0 = less_out z (pos 0) (is_less (int_cmp z (pos 0)) h) in omega (arith, ints)

edge_in : (t : Point) (m : Mark) → Lt m.low t → Lt t m.high → collinear m.low m.high t ≡ true → on_edge t m ≡ true
unfolding on_edge
edge_in t m a b c = and_in (and_in (le_in (le_lt a)) (le_in (le_lt b))) c

own_end : (x1 y1 w1 x2 y2 w2 : ℤ) → volume x1 y1 w1 x2 y2 w2 x1 y1 w1 ≡ pos 0
own_end x1 y1 w1 x2 y2 w2 = ring (x1 ∷ y1 ∷ w1 ∷ x2 ∷ y2 ∷ w2 ∷ []) (search sides depth 40 fits 20000) tt

not_zero : (z : ℤ) → pos 0 <ℤ z → z ≡ pos 0 → ⊥
not_zero z h e = omega (arith, ints)

module _ (g : Graph) (pl : IsPlane g) (m n : Mark) (hm : Member m g.marks) (hn : Member n g.marks) where
  never : crosses m n ≡ true → ⊥
  unfolding crosses det
  never h =
      let p = m.low in
      let q = m.high in
      let r = n.low in
      let s = n.high in
      let gp = pl.proper p (pl.low_in m hm) in
      let gq = pl.proper q (pl.high_in m hm) in
      let gr = pl.proper r (pl.low_in n hn) in
      let gs = pl.proper s (pl.high_in n hn) in
      let a = and_true (is_positive (det r s p) && is_negative (det r s q)) (is_negative (det p q r) && is_positive (det p q s)) h in
      let b = and_true (is_positive (det r s p)) (is_negative (det r s q)) a.0 in
      let c = and_true (is_negative (det p q r)) (is_positive (det p q s)) a.1 in
      let rsp : pos 0 <ℤ det n.low n.high m.low = positive_out (det r s p) b.0 in
      let rsq : pos 0 <ℤ neg_ℤ (det n.low n.high m.high) = negative_out (det r s q) b.1 in
      let pqr : pos 0 <ℤ neg_ℤ (det m.low m.high n.low) = negative_out (det p q r) c.0 in
      let pqs : pos 0 <ℤ det m.low m.high n.high = positive_out (det p q s) c.1 in
      let X : ℤ = neg_ℤ (det r s q) *ℤ p.x +ℤ det r s p *ℤ q.x in
      let Y : ℤ = neg_ℤ (det r s q) *ℤ p.y +ℤ det r s p *ℤ q.y in
      let W : ℤ = neg_ℤ (det r s q) *ℤ p.w +ℤ det r s p *ℤ q.w in
      let t : Point = reduced X Y W in
      let red : IsReduced X Y W (reduced X Y W) = reduced_is X Y W (sum_pos (mul_pos rsq gp.positive) (mul_pos rsp gq.positive)) in
      let ex = common_x p.x p.y p.w q.x q.y q.w r.x r.y r.w s.x s.y s.w in
      let ey = common_y p.x p.y p.w q.x q.y q.w r.x r.y r.w s.x s.y s.w in
      let ew = common_w p.x p.y p.w q.x q.y q.w r.x r.y r.w s.x s.y s.w in
      let l = lt_out p q (pl.forward m hm) in
      let k = lt_out r s (pl.forward n hn) in
      let after = mean_after p q t gp gq red.proper l red.factor (neg_ℤ (det r s q)) (det r s p) rsq rsp red.factor_pos red.x_is red.y_is red.w_is in
      let before = mean_before p q t gp gq red.proper l red.factor (neg_ℤ (det r s q)) (det r s p) rsq rsp red.factor_pos red.x_is red.y_is red.w_is in
      let line = mean_collinear p q t gp gq red.proper l red.factor (neg_ℤ (det r s q)) (det r s p) rsq rsp red.factor_pos red.x_is red.y_is red.w_is in
      let after' = mean_after r s t gr gs red.proper k red.factor (det p q s) (neg_ℤ (det p q r)) pqs pqr red.factor_pos (red.x_is ∙ ex) (red.y_is ∙ ey) (red.w_is ∙ ew) in
      let before' = mean_before r s t gr gs red.proper k red.factor (det p q s) (neg_ℤ (det p q r)) pqs pqr red.factor_pos (red.x_is ∙ ex) (red.y_is ∙ ey) (red.w_is ∙ ew) in
      let line' = mean_collinear r s t gr gs red.proper k red.factor (det p q s) (neg_ℤ (det p q r)) pqs pqr red.factor_pos (red.x_is ∙ ex) (red.y_is ∙ ey) (red.w_is ∙ ew) in
      ⊎_elim
      (λ e. not_zero (det r s p) rsp ((λ i. det (sym e.0 i) (sym e.1 i) p) ∙ own_end p.x p.y p.w q.x q.y q.w))
      (λ e. ⊎_elim (λ i. lt_never (subst (λ z. Lt p z) i after)) (λ i. lt_never (subst (λ z. Lt z q) i before)) e.0)
      (pl.apart m n hm hn t red.proper (edge_in t m after before line) (edge_in t n after' before' line'))

pub none_cross : NoneCross
none_cross g pl m n hm hn = not_true (crosses m n) (λ e. never g pl m n hm hn e)
