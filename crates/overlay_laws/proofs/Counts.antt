-- The cell of a layer at a point, and the cell of the overlay there: one holds the other.
use Rattle.std.proofs.Common.{◌≡◌, Bool, true, false, arith, sym, ap, ◌∙◌, inl, inr}
use Rattle.std.specs.Prelude.{ℤ, pos, ◌+ℤ◌, ◌*ℤ◌, not, ◌&&◌}
use Rattle.std.specs.List.{Contains, count_by}
use Rattle.std.proofs.lemmas.Int.{ints}
use Rattle.std.proofs.lemmas.Bool.{false≢true, and_parts, not-true, not-false, false_from_ne_true, cases_Bool}
use lib.Dec.{ltb, leb}
use lib.IntN.{*ℤ-zero, zero-*ℤ}
use Rattle.exact_plane.specs.Point.{Point}
use Rattle.plane_graphs.specs.Line.{IsProper}
use Rattle.plane_graphs.specs.Graph.{Edge, det, collinear}
use Rattle.plane_graphs.proofs.Lists.{or_left as or_first}
use Rattle.plane_graphs.proofs.Order.{Lt}
use Rattle.plane_graphs.proofs.Marks.{Le}
use Rattle.plane_graphs.proofs.Lines.{zero_out}
use Rattle.slab_laws.specs.declared.slab_cell.SlabCell.{SlabCell}
use Rattle.slab_laws.specs.Skeleton.{Skeleton, HasWeight, left_of, run, side, over, gap, IsPlaneSkeleton}
use Rattle.slab_laws.specs.Slabs.{slab_right, spans, place}
use Rattle.slab_faces.proofs.Ints.{same_sign, zero_back, swapped}
use Rattle.slab_faces.proofs.Sums.{fewer, fewer_than}
use Rattle.slab_faces.proofs.Walls.{left_of-irrefl, left_of-asym, left_of-before, left_of-after, run_positive, side-lower, side-upper}
use Rattle.slab_faces.proofs.Order.{gap_mean, gap-on_e, away_yes, away}
use Rattle.slab_faces.proofs.Cells.{leb_by, ltb_by, not_right_trans, IsSideOf, place_over, place_under, on_side}
use Rattle.slab_faces.proofs.InnerPoints.{before_out}
use Rattle.overlay_laws.proofs.Laid.{IsWithin}

-- ---- the order of points, and that of abscissas
-- q isn't to the left of an earlier point
pub not_left : (p q : Point) → IsProper p → IsProper q → Le p q → left_of q p ≡ false
not_left p q P Q h = false_from_ne_true (left_of q p) (λ l. h.never (before_out q p Q P (or_first (left_of q p) _ l)))

pub left_lt : (p q : Point) → IsProper p → IsProper q → left_of p q ≡ true → Lt p q
left_lt p q P Q h = before_out p q P Q (or_first (left_of p q) _ h)

-- ---- cuts of the plane at the wall of t, just to its left or just to its right
pub record IsCutAt (t : Point) (c : Point → Bool) : Type 0 where
  pub closed : (v w : Point) → HasWeight v → HasWeight w → left_of w v ≡ false → c w ≡ true → c v ≡ true
  pub before : (v : Point) → c v ≡ true → left_of t v ≡ false
  pub after : (v : Point) → c v ≡ false → left_of v t ≡ false

pub left_cut : (t : Point) → HasWeight t → IsCutAt t (λ v. left_of v t)
left_cut t T = record {
  closed = λ v w V W a h. left_of-after v w t V W T a h;
  before = λ v h. left_of-asym v t h;
  after = λ v h. h;
}

pub right_cut : (t : Point) → HasWeight t → IsCutAt t (λ v. not (left_of t v))
right_cut t T = record {
  closed = λ v w V W a h. ap not (not_right_trans v w t V W T a (not-true _ h));
  before = λ v h. not-true _ h;
  after = λ v h. left_of-asym t v (not-false (left_of t v) h);
}

-- the edge reaches the cut
abbrev pub reach : (Point → Bool) → Edge → Bool
reach c e = c e.low && not (c e.high)

-- the cell at the cut that has as many edges below it as reach the wall at t or below
abbrev pub cell_at : Skeleton → (Point → Bool) → Point → SlabCell
cell_at g c t = record { slab = count_by c g.vertices; place = count_by (λ e. reach c e && not (over e t)) g.edges }

-- the layer's cell that holds a cell of the overlay
abbrev pub cell_by : (Edge → Bool) → Skeleton → Skeleton → SlabCell → SlabCell
cell_by own r g c = record {
  slab = count_by (λ v. leb (slab_right g v) c.slab) r.vertices;
  place = count_by (λ e. (spans g c.slab e && ltb (place g c.slab e) c.place) && own e) g.edges;
}

-- ---- in one skeleton
module _ (g : Skeleton) (plane : IsPlaneSkeleton g) (t : Point) (T : HasWeight t) (c : Point → Bool) (cut : IsCutAt t c) where
  pub turns : (v w : Point) → HasWeight v → HasWeight w → c v ≡ true → c w ≡ false → left_of v w ≡ true
  turns v w V W a b = elim (cases_Bool (left_of v w)) [
    | inl h ↦ h
    | inr h ↦ absurd (false≢true (sym b ∙ cut.closed w v W V h a))
  ]

  -- a vertex is at or left of the slab's left wall exactly where it is before the cut
  pub slab_cut : (v : Point) → Contains g.vertices v → leb (slab_right g v) (count_by c g.vertices) ≡ c v
  slab_cut v V =
      let P = plane.proper v V in
      leb_by (slab_right g v) (count_by c g.vertices) (c v)
      (λ h. fewer (λ w. not (left_of v w)) c g.vertices (λ w W k. cut.closed w v (plane.proper w W) P (not-true _ k) h))
      (λ h. fewer_than c (λ w. not (left_of v w)) g.vertices v V h (ap not (left_of-irrefl v)) (λ w W k. ap not (left_of-asym w v (turns w v (plane.proper w W) P k h))))

  after_cut : (v : Point) → Contains g.vertices v → ltb (count_by c g.vertices) (slab_right g v) ≡ not (c v)
  after_cut v V =
      let P = plane.proper v V in
      ltb_by (count_by c g.vertices) (slab_right g v) (c v)
      (λ h. fewer (λ w. not (left_of v w)) c g.vertices (λ w W k. cut.closed w v (plane.proper w W) P (not-true _ k) h))
      (λ h. fewer_than c (λ w. not (left_of v w)) g.vertices v V h (ap not (left_of-irrefl v)) (λ w W k. ap not (left_of-asym w v (turns w v (plane.proper w W) P k h))))

  pub reach_parts : (e : Edge) → reach c e ≡ true → (c e.low ≡ true) × (c e.high ≡ false)
  reach_parts e h = let a = and_parts (c e.low) (not (c e.high)) h in (a.0, not-true _ a.1)

  pub cut_side : IsSideOf g t (count_by c g.vertices) (reach c)
  cut_side = record {
    spanned = λ e E. (λ i. slab_cut e.low (plane.lower_in e E) i && after_cut e.high (plane.upper_in e E) i);
    passes = λ f e F E rf re.
        let a = reach_parts f rf in
        let b = reach_parts e re in
        let p = plane.proper_edge f F in
        let q = plane.proper_edge e E in
        record {
          f_from = cut.before f.low a.0;
          f_to = cut.after f.high a.1;
          e_from = cut.before e.low b.0;
          e_to = cut.after e.high b.1;
          f_long = turns f.low f.high p.0 p.1 a.0 a.1;
          e_long = turns e.low e.high q.0 q.1 b.0 b.1;
          f_e = turns f.low e.high p.0 q.1 a.0 b.1;
          e_f = turns e.low f.high q.0 p.1 b.0 a.1;
        };
  }

  -- an edge is below the cell at t exactly where it reaches the cut at t or below
  pub below_cut : (e : Edge) → Contains g.edges e → (spans g (count_by c g.vertices) e && ltb (place g (count_by c g.vertices) e) (count_by (λ f. reach c f && not (over f t)) g.edges)) ≡ (reach c e && not (over e t))
  below_cut e E =
      on_side _ _ (reach c e) (not (over e t)) (cut_side.spanned e E)
      (λ h. ltb_by _ _ (over e t) (λ o. place_over g t (count_by c g.vertices) (reach c) e cut_side E h o) (λ o. place_under g t (count_by c g.vertices) (reach c) e plane cut_side E h o))

-- ---- one edge within another
module _ (f e : Edge) (fl : IsProper f.low) (fh : IsProper f.high) (el : IsProper e.low) (eh : IsProper e.high) (w : IsWithin f e) (long : left_of e.low e.high ≡ true) where
  pub on_low : side f e.low ≡ pos 0
  unfolding side
  on_low = unfold collinear det in zero_out (det f.low f.high e.low) w.low_on

  pub on_high : side f e.high ≡ pos 0
  unfolding side
  on_high = unfold collinear det in zero_out (det f.low f.high e.high) w.high_on

  pub whole_long : left_of f.low f.high ≡ true
  whole_long =
      left_of-after f.low e.low f.high fl.positive el.positive fh.positive (not_left f.low e.low fl el w.first)
      (left_of-before e.low e.high f.high el.positive eh.positive fh.positive long (not_left e.high f.high eh fh w.last))

  -- the lines are one
  no_gap : (t : Point) → gap f e t ≡ pos 0
  no_gap t =
      let a : gap f e e.low ≡ pos 0 = gap-on_e f e e.low (side-lower e) ∙ ap (λ z. run e *ℤ z) on_low ∙ *ℤ-zero (run e) in
      let b : gap f e e.high ≡ pos 0 = gap-on_e f e e.high (side-upper e) ∙ ap (λ z. run e *ℤ z) on_high ∙ *ℤ-zero (run e) in
      let m = gap_mean f e t e.low e.high in
      let k : gap f e t *ℤ away e.low e.high ≡ pos 0 = m ∙ ap (λ z. z *ℤ away t e.high +ℤ gap f e e.high *ℤ away e.low t) a ∙ ap (λ z. pos 0 *ℤ away t e.high +ℤ z *ℤ away e.low t) b ∙ none (away t e.high) (away e.low t) in
      zero_back (away e.low e.high) (gap f e t) (away_yes e.low e.high long) (swapped (away e.low e.high) (gap f e t) ∙ k)
    where
      none : (x y : ℤ) → pos 0 *ℤ x +ℤ pos 0 *ℤ y ≡ pos 0
      none x y = let a = zero-*ℤ x in let b = zero-*ℤ y in omega (arith, ints)

  lines_agree : (t : Point) → run e *ℤ side f t ≡ run f *ℤ side e t
  unfolding gap
  lines_agree t = let z = no_gap t in omega (arith, ints)

  pub same_over : (t : Point) → over f t ≡ over e t
  unfolding over
  same_over t = same_sign (run e) (side f t) (run f) (side e t) (run_positive e long) (run_positive f whole_long) (lines_agree t)

  -- a point of the whole is on the line of the part
  pub on_part : (t : Point) → side f t ≡ pos 0 → side e t ≡ pos 0
  on_part t h = zero_back (run f) (side e t) (run_positive f whole_long) (sym (lines_agree t) ∙ ap (λ z. run e *ℤ z) h ∙ *ℤ-zero (run e))
