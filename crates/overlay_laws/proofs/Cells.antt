-- At each point, the overlay's cell lies in the layer's cell; so cells of one face lie in cells of one face.
use Rattle.std.proofs.Common.{◌≡◌, ℕ, Bool, true, false, cond, refl, sym, ap, ◌∙◌, subst, inl, inr, ⊎_elim}
use Rattle.std.specs.Prelude.{pos, not, ◌&&◌}
use Rattle.std.specs.List.{Contains, count_by, list_any}
use lib.Dec.{ltb, leb}
use Rattle.std.proofs.lemmas.Bool.{false≢true, and_parts, and_from, not-true, not-false, false_from_ne_true}
use Rattle.exact_plane.specs.Point.{Point}
use Rattle.plane_graphs.specs.Line.{IsProper}
use Rattle.plane_graphs.specs.Graph.{Edge, det, collinear, spans as holds}
use Rattle.plane_graphs.specs.Meaning.{IsEndOfEdge}
use Rattle.plane_graphs.proofs.Ascending.{to_member, from_member}
use Rattle.plane_graphs.proofs.Lists.{and_in, any_out, any_none, decide}
use Rattle.plane_graphs.proofs.Order.{Lt, lt_never, Tri, tri}
use Rattle.plane_graphs.proofs.Order.Tri.{less, same, more}
use Rattle.plane_graphs.proofs.Marks.{Le, le_in, le_lt, le_trans, le_lt_lt, lt_le_lt}
use Rattle.plane_graphs.proofs.Lines.{zero_in}
use Rattle.slab_laws.specs.declared.slab_cell.SlabCell.{SlabCell}
use Rattle.slab_laws.specs.Skeleton.{Skeleton, HasWeight, left_of, lower_than, on_wall, side, over, IsPlaneSkeleton}
use Rattle.slab_laws.specs.Slabs.{slab_right, spans, place, left_cell, right_cell}
use Rattle.slab_laws.specs.Meets.{IsOnWall, IsOpenAbove, covers_above, Meets, SameFace, across, here, right, left}
use Rattle.slab_faces.proofs.Sums.{each, sum_by-same}
use Rattle.slab_faces.proofs.Cells.{not_right_trans}
use Rattle.slab_faces.proofs.Along.{covers_parts}
use Rattle.slab_faces.proofs.Turns.{face_trans, face_sym, face_at}
use Rattle.slab_faces.proofs.WallsLemmas.{off_walls}
use Rattle.slab_faces.proofs.InnerPoints.{inside_by}
use Rattle.slab_faces.proofs.SharedEnds.{plane_skeletons_share_ends}
use Rattle.overlay_laws.proofs.Laid.{IsWithin, within, within_in, within_out, IsLaid}
use Rattle.overlay_laws.proofs.Pairs.{pairs_count}
use Rattle.overlay_laws.proofs.Counts.{IsCutAt, left_cut, right_cut, reach, cell_at, cell_by, not_left, left_lt, turns, slab_cut, reach_parts, below_cut, on_low, on_high, same_over, on_part}

-- on the line of the edge
pub is_collinear : (e : Edge) (t : Point) → side e t ≡ pos 0 → collinear e.low e.high t ≡ true
unfolding side
is_collinear e t h = unfold collinear det in zero_in (det e.low e.high t) h

module _ (r g : Skeleton) (own : Edge → Bool) (pr : IsPlaneSkeleton r) (pg : IsPlaneSkeleton g) (laid : IsLaid r g own) where
  part_low : (e : Edge) → Contains g.edges e → IsProper e.low
  part_low e E = laid.proper e.low (pg.lower_in e E)

  part_high : (e : Edge) → Contains g.edges e → IsProper e.high
  part_high e E = laid.proper e.high (pg.upper_in e E)

  whole_low : (f : Edge) → Contains r.edges f → IsProper f.low
  whole_low f F = laid.proper f.low (laid.vertex f.low (pr.lower_in f F))

  whole_high : (f : Edge) → Contains r.edges f → IsProper f.high
  whole_high f F = laid.proper f.high (laid.vertex f.high (pr.upper_in f F))

  -- ---- at a cut
  module _ (t : Point) (T : HasWeight t) (c : Point → Bool) (cut : IsCutAt t c) where
    long : (e : Edge) → Contains g.edges e → reach c e ≡ true → left_of e.low e.high ≡ true
    long e E h = let a = reach_parts g pg t T c cut e h in turns g pg t T c cut e.low e.high (part_low e E).positive (part_high e E).positive a.0 a.1

    -- of two parts of one edge that reach the cut, neither begins after the other, nor ends before it
    module _ (f e d : Edge) (F : Contains r.edges f) (E : Contains g.edges e) (D : Contains g.edges d) (re : reach c e ≡ true) (rd : reach c d ≡ true) (we : IsWithin f e) (wd : IsWithin f d) where
      apart : left_of d.low e.high ≡ true
      apart = turns g pg t T c cut d.low e.high (part_low d D).positive (part_high e E).positive (reach_parts g pg t T c cut d rd).0 (reach_parts g pg t T c cut e re).1

      begins : Lt e.low d.low → ⊥
      begins l =
          let a : side e d.low ≡ pos 0 = on_part f e (whole_low f F) (whole_high f F) (part_low e E) (part_high e E) we (long e E re) d.low (on_low f d (whole_low f F) (whole_high f F) (part_low d D) (part_high d D) wd (long d D rd)) in
          false≢true (sym (pg.clear e d.low E (pg.lower_in d D)) ∙ inside_by e d.low (part_low e E) (part_high e E) (part_low d D) l (left_lt d.low e.high (part_low d D) (part_high e E) apart) (is_collinear e d.low a))

      ends : Lt e.high d.high → ⊥
      ends l =
          let a : side d e.high ≡ pos 0 = on_part f d (whole_low f F) (whole_high f F) (part_low d D) (part_high d D) wd (long d D rd) e.high (on_high f e (whole_low f F) (whole_high f F) (part_low e E) (part_high e E) we (long e E re)) in
          false≢true (sym (pg.clear d e.high D (pg.upper_in e E)) ∙ inside_by d e.high (part_low d D) (part_high d D) (part_high e E) (left_lt d.low e.high (part_low d D) (part_high e E) apart) l (is_collinear d e.high a))

    no_less : (p q : Point) → (Lt p q → ⊥) → (Lt q p → ⊥) → p ≡ q
    no_less p q a b = by (tri p q)
      where
        by : Tri p q → p ≡ q
        by (less l) = absurd (a l)
        by (same i) = i
        by (more l) = absurd (b l)

    one_part : (f e d : Edge) → Contains r.edges f → Contains g.edges e → Contains g.edges d → reach c e ≡ true → reach c d ≡ true → IsWithin f e → IsWithin f d → e ≡ d
    one_part f e d F E D re rd we wd =
        let low = no_less e.low d.low (begins f e d F E D re rd we wd) (begins f d e F D E rd re wd we) in
        let high = no_less e.high d.high (ends f e d F E D re rd we wd) (ends f d e F D E rd re wd we) in
        λ i. record { low = low i; high = high i }

    -- an edge of the overlay is a part of one edge of the layer
    own_ends : (f e : Edge) → IsWithin f e → Lt e.low e.high → IsEndOfEdge e.low f → IsEndOfEdge e.high f → f ≡ e
    own_ends f e w l (inl a) (inl b) = absurd (lt_never (subst (λ z. Lt z e.high) (a ∙ sym b) l))
    own_ends f e w l (inl a) (inr b) = λ i. record { low = sym a i; high = sym b i }
    own_ends f e w l (inr a) b = absurd (lt_never (lt_le_lt l (subst (Le e.high) (sym a) w.last)))

    one_whole : (e f h : Edge) → Contains g.edges e → Contains r.edges f → Contains r.edges h → reach c e ≡ true → IsWithin f e → IsWithin h e → f ≡ h
    one_whole e f h E F H re wf wh =
        let l = laid.forward e E in
        let proper : (x : Point) → Contains r.vertices x → IsProper x = λ x X. laid.proper x (laid.vertex x X) in
        let at_low : (k : Edge) → IsWithin k e → holds k.low k.high e.low ≡ true = λ k w. and_in (and_in (le_in w.first) (le_in (le_lt (lt_le_lt l w.last)))) w.low_on in
        let at_high : (k : Edge) → IsWithin k e → holds k.low k.high e.high ≡ true = λ k w. and_in (and_in (le_in (le_lt (le_lt_lt w.first l))) (le_in w.last)) w.high_on in
        ⊎_elim (λ i. i)
        (λ a. ⊎_elim (λ i. i) (λ b. own_ends f e wf l a.0 b.0 ∙ sym (own_ends h e wh l a.1 b.1)) (plane_skeletons_share_ends r pr proper f h e.high F H (part_high e E) (at_high f wf) (at_high h wh)))
        (plane_skeletons_share_ends r pr proper f h e.low F H (part_low e E) (at_low f wf) (at_low h wh))

    -- ---- as many edges of the layer reach the cut as own edges of the overlay, and of these as many at t or below
    whole_reach : (f e : Edge) → Contains r.edges f → Contains g.edges e → reach c e ≡ true → IsWithin f e → reach c f ≡ true
    whole_reach f e F E h w =
        let a = reach_parts g pg t T c cut e h in
        and_from (c f.low) (not (c f.high))
        (cut.closed f.low e.low (whole_low f F).positive (part_low e E).positive (not_left f.low e.low (whole_low f F) (part_low e E) w.first) a.0)
        (ap not (false_from_ne_true (c f.high) (λ k. false≢true (sym a.1 ∙ cut.closed e.high f.high (part_high e E).positive (whole_high f F).positive (not_left e.high f.high (part_high e E) (whole_high f F) w.last) k))))

    one_over : (f e : Edge) → Contains r.edges f → Contains g.edges e → reach c e ≡ true → IsWithin f e → over f t ≡ over e t
    one_over f e F E h w = same_over f e (whole_low f F) (whole_high f F) (part_low e E) (part_high e E) w (long e E h) t

    module _ (ok : Edge → Bool) (one_ok : (f e : Edge) → Contains r.edges f → Contains g.edges e → reach c e ≡ true → IsWithin f e → ok f ≡ ok e) where
      counts_of : count_by (λ f. reach c f && ok f) r.edges ≡ count_by (λ e. (reach c e && ok e) && own e) g.edges
      counts_of =
          pairs_count (λ f. reach c f && ok f) (λ e. (reach c e && ok e) && own e) within r.edges g.edges pr.edge_once pg.edge_once
          (λ f F h.
          let a = and_parts (reach c f) (ok f) h in
          let b = and_parts (c f.low) (not (c f.high)) a.0 in
          let w = laid.cut f F c b.0 (not-true _ b.1) in
          let e = w.part in
          let E = w.part_in in
          let re : reach c e ≡ true = and_from _ _ w.before (ap not w.after) in
          record {
            edge = e;
            there = E;
            passes = and_from _ _ (and_from _ _ (and_from _ _ re (sym (one_ok f e F E re w.is_within) ∙ a.1)) w.is_own) (within_in f e w.is_within);
            only = λ d D k.
                let x = and_parts ((reach c d && ok d) && own d) (within f d) k in
                let y = and_parts (reach c d && ok d) (own d) x.0 in
                let z = and_parts (reach c d) (ok d) y.0 in
                one_part f e d F E D re z.0 w.is_within (within_out f d x.1);
          })
          (λ e E h.
          let a = and_parts (reach c e && ok e) (own e) h in
          let b = and_parts (reach c e) (ok e) a.0 in
          let w = laid.along e E a.1 in
          let f = w.whole in
          let F = w.whole_in in
          record {
            edge = f;
            there = F;
            passes = and_from _ _ (and_from _ _ (whole_reach f e F E b.0 w.is_within) (one_ok f e F E b.0 w.is_within ∙ b.1)) (within_in f e w.is_within);
            only = λ k K m.
                let x = and_parts (reach c k && ok k) (within k e) m in
                one_whole e f k E F K b.0 w.is_within (within_out k e x.1);
          })

    counts : count_by (λ f. reach c f && not (over f t)) r.edges ≡ count_by (λ e. (reach c e && not (over e t)) && own e) g.edges
    counts = counts_of (λ e. not (over e t)) (λ f e F E h w. ap not (one_over f e F E h w))

    pub all_counts : count_by (λ f. reach c f && true) r.edges ≡ count_by (λ e. (reach c e && true) && own e) g.edges
    all_counts = counts_of (λ e. true) (λ f e F E h w. refl)

    -- the overlay's cell at t lies in the layer's cell at t
    pub cell_holds : cell_by own r g (cell_at g c t) ≡ cell_at r c t
    cell_holds =
        let i : ℕ = count_by c g.vertices in
        let j : ℕ = count_by (λ f. reach c f && not (over f t)) g.edges in
        let starts : Point → ℕ = λ v. cond (leb (slab_right g v) i) 1 0 in
        let lies : Edge → ℕ = λ e. cond ((spans g i e && ltb (place g i e) j) && own e) 1 0 in
        let reaches : Edge → ℕ = λ e. cond ((reach c e && not (over e t)) && own e) 1 0 in
        let a : count_by (λ v. leb (slab_right g v) i) r.vertices ≡ count_by c r.vertices =
        sum_by-same starts (λ v. cond (c v) 1 0) r.vertices (each (λ v. starts v ≡ cond (c v) 1 0) r.vertices (λ v V. ap (λ b. cond {A = ℕ} b 1 0) (slab_cut g pg t T c cut v (laid.vertex v V)))) in
        let b : count_by (λ e. (spans g i e && ltb (place g i e) j) && own e) g.edges ≡ count_by (λ e. (reach c e && not (over e t)) && own e) g.edges =
        sum_by-same lies reaches g.edges (each (λ e. lies e ≡ reaches e) g.edges (λ e E. ap (λ b. cond {A = ℕ} (b && own e) 1 0) (below_cut g pg t T c cut e E))) in
        let d = b ∙ sym counts in
        λ k. record { slab = a k; place = d k }

  -- ---- left and right of a point
  pub left_holds : (t : Point) → HasWeight t → cell_by own r g (left_cell g t) ≡ left_cell r t
  left_holds t T = cell_holds t T (λ v. left_of v t) (left_cut t T)

  twice : (b : Bool) → not (not b) ≡ b
  twice true = refl
  twice false = refl

  as_cut : (s : Skeleton) (t : Point) → cell_at s (λ v. not (left_of t v)) t ≡ right_cell s t
  as_cut s t = λ i. record { slab = count_by (λ v. not (left_of t v)) s.vertices; place = count_by (λ e. (not (left_of t e.low) && twice (left_of t e.high) i) && not (over e t)) s.edges }

  pub right_holds : (t : Point) → HasWeight t → cell_by own r g (right_cell g t) ≡ right_cell r t
  right_holds t T = ap (cell_by own r g) (sym (as_cut g t)) ∙ cell_holds t T (λ v. not (left_of t v)) (right_cut t T) ∙ as_cut r t

  -- ---- cells that meet lie in cells of one face
  -- where an edge of the layer covers the wall above t, a part of it does
  covered : (f : Edge) (t : Point) → Contains r.edges f → HasWeight t → covers_above f t ≡ true → (e : Edge) × Contains g.edges e × (covers_above e t ≡ true)
  covered f t F T h =
      let a = covers_parts f t h in
      let w = laid.cut f F (λ v. not (lower_than t v)) (ap not a.1.0) (ap not a.1.1) in
      let e = w.part in
      let E = w.part_in in
      let n = w.is_within in
      let fl = whole_low f F in
      let fh = whole_high f F in
      let el = part_low e E in
      let eh = part_high e E in
      let lt : Le e.low e.high = le_lt (laid.forward e E) in
      let low_1 = not_right_trans t f.low e.low T fl.positive el.positive a.0.lower_1 (not_left f.low e.low fl el n.first) in
      let low_2 = not_right_trans e.low f.high t el.positive fh.positive T (not_left e.low f.high el fh (le_trans lt n.last)) a.0.upper_2 in
      let high_1 = not_right_trans t f.low e.high T fl.positive eh.positive a.0.lower_1 (not_left f.low e.high fl eh (le_trans n.first lt)) in
      let high_2 = not_right_trans e.high f.high t eh.positive fh.positive T (not_left e.high f.high eh fh n.last) a.0.upper_2 in
      (e, E, and_from _ _ (and_from _ _ (and_from _ _ (and_from _ _ (ap not low_1) (ap not low_2)) (and_from _ _ (ap not high_1) (ap not high_2))) w.before) (not-false (lower_than t e.high) w.after))

  across_wall : (t : Point) → IsOnWall g t → IsOpenAbove g t → SameFace r (left_cell r t) (right_cell r t)
  across_wall t wall open' =
      ⊎_elim
      (λ some. let w = any_out (λ v. on_wall v t) r.vertices some in
      right _ _ _ (here (left_cell r t)) (across t (record { proper = wall.proper; vertex = w.0; is_vertex = from_member r.vertices w.0 w.1; same = w.2 }) (record { open_at = λ f F. false_from_ne_true (covers_above f t) (λ h. let e = covered f t F wall.proper h in false≢true (sym (open'.open_at e.0 e.1) ∙ e.2)) })))
      (λ none. face_at r (left_cell r t) (right_cell r t) (off_walls r t pr wall.proper (λ v V. false_from_ne_true (on_wall v t) (λ h. any_none (λ v. on_wall v t) v r.vertices none (to_member r.vertices v V) h))))
      (decide (list_any (λ v. on_wall v t) r.vertices))

  meets_kept : (b d : SlabCell) → Meets g b d → SameFace r (cell_by own r g b) (cell_by own r g d)
  meets_kept b d (across t wall open') = subst (λ (p : SlabCell × SlabCell). SameFace r p.0 p.1) (λ i. (sym (left_holds t wall.proper) i, sym (right_holds t wall.proper) i)) (across_wall t wall open')

  pub face_kept : (b d : SlabCell) → SameFace g b d → SameFace r (cell_by own r g b) (cell_by own r g d)
  face_kept b d (here b') = here (cell_by own r g b')
  face_kept b d (right b' c' d' s m) = face_trans r _ _ _ (face_kept b' c' s) (meets_kept c' d' m)
  face_kept b d (left b' c' d' s m) = face_trans r _ _ _ (face_kept b' c' s) (face_sym r _ _ (meets_kept d' c' m))
