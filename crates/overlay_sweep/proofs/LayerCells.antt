-- A layer r in the graph g of all: the cell above an own edge lies in the face of r above the edge that holds it; on both sides of any other edge one face of r lies.
use Rattle.std.proofs.Common.{◌≡◌, ℕ, ◌+◌, ◌<◌, Bool, true, false, cond, arith, refl, sym, ap, ◌∙◌, subst, inl, inr, ⊎_elim}
use Rattle.std.specs.Prelude.{pos, ◌<ℤ◌, not, ◌&&◌}
use Rattle.std.specs.List.{count_by, list_any, Contains}
use Rattle.std.proofs.lemmas.Int.{ints}
use Rattle.std.proofs.lemmas.Bool.{false≢true, true≢false, and_from, not-false, or_right, false_from_ne_true, cases_Bool, ltb-true, lt-ltb}
use lib.Dec.{ltb, leb}
use Rattle.integers.proofs.Signs.{mul_pos'}
use Rattle.exact_plane.specs.Point.{Point}
use Rattle.plane_graphs.specs.Line.{IsProper}
use Rattle.plane_graphs.specs.Graph.{Edge, det, collinear}
use Rattle.plane_graphs.proofs.Ascending.{to_member, from_member}
use Rattle.plane_graphs.proofs.Lists.{any_out, any_none, decide}
use Rattle.plane_graphs.proofs.Lines.{zero_out}
use Rattle.plane_graphs.proofs.Order.{lt_never}
use Rattle.plane_graphs.proofs.Marks.{Le, le_lt, le_lt_lt, lt_le_lt, le_trans}
use Rattle.slab_laws.specs.declared.slab_cell.SlabCell.{SlabCell}
use Rattle.slab_laws.specs.Skeleton.{Skeleton, HasWeight, IsPlaneSkeleton, left_of, lower_than, on_wall, side, run, foot}
use Rattle.slab_laws.specs.Slabs.{spans, place, slab_left, slab_right, left_cell, right_cell, left_count, forward_cell, backward_cell}
use Rattle.slab_laws.specs.Meets.{SameFace, IsOnWall, IsOpenAbove, covers_above, across, here, right}
use Rattle.slab_laws.specs.Darts.{cell_of, cell_by as beside_edge}
use Rattle.slab_faces.proofs.Sums.{each, sum_by-same}
use Rattle.slab_faces.proofs.Walls.{left_of-irrefl, left_of-before, left_of-after, run_positive, lower_than-irrefl}
use Rattle.slab_faces.proofs.Cells.{not_right_trans, spans_right}
use Rattle.slab_faces.proofs.Slabs.{IsThrough, place_same}
use Rattle.slab_faces.proofs.Nudge.{right_inside, is_slab_right}
use Rattle.slab_faces.proofs.Along.{covers_parts, side_above}
use Rattle.slab_faces.proofs.Turns.{face_trans, face_sym, face_at, on_own_wall, foot_before, foot_after, foot_on}
use Rattle.slab_faces.proofs.Points.{before_on_wall}
use Rattle.slab_faces.proofs.Upright.{one_cover}
use Rattle.slab_faces.proofs.Corners.{IsAlong, along_left}
use Rattle.slab_faces.proofs.AddedUpright.{one_slab_left}
use Rattle.slab_faces.proofs.WallsLemmas.{off_walls}
use Rattle.slab_faces.proofs.InnerPoints.{before_in}
use Rattle.overlay_laws.proofs.Laid.{IsWithin, IsLaid}
use Rattle.overlay_laws.proofs.Counts.{cell_by, not_left, whole_long, on_part}
use Rattle.overlay_laws.proofs.Cells.{left_holds, right_holds, face_kept}
use Rattle.face_roots.proofs.PointOrder.{before}
use Rattle.sweep_graphs.proofs.BesideWalls.{beside_wall, beside_proper, upto_beside, after_beside}
use Rattle.overlay_sweep.proofs.OnEdges.{IsOff, above_edge}

-- ---- counts that differ by the edges of one place alone
one_place : (s o : Bool) (p j : ℕ) → (s ≡ true → p ≡ j → o ≡ false) → ((s && ltb p (j + 1)) && o) ≡ ((s && ltb p j) && o)
one_place false o p j h = refl
one_place true false p j h = none (ltb p (j + 1)) ∙ sym (none (ltb p j))
  where
    none : (b : Bool) → (b && false) ≡ false
    none true = refl
    none false = refl
one_place true true p j h = ap (λ b. b && true) (same (ltb p (j + 1)) (ltb p j) refl refl)
  where
    same : (b c : Bool) → ltb p (j + 1) ≡ b → ltb p j ≡ c → ltb p (j + 1) ≡ ltb p j
    same true true a k = a ∙ sym k
    same false false a k = a ∙ sym k
    same true false a k = let u = ltb-true p (j + 1) a in absurd (true≢false (h refl (omega (arith, (λ (l : p < j). false≢true (sym k ∙ lt-ltb p j l))))))
    same false true a k = let u = ltb-true p j k in absurd (false≢true (sym a ∙ lt-ltb p (j + 1) (omega arith)))

module _ (r g : Skeleton) (own : Edge → Bool) (pr : IsPlaneSkeleton r) (pg : IsPlaneSkeleton g) (laid : IsLaid r g own) where
  abbrev in_layer : SlabCell → SlabCell
  in_layer c = cell_by own r g c

  part_low : (e : Edge) → Contains g.edges e → IsProper e.low
  part_low e E = laid.proper e.low (pg.lower_in e E)

  part_high : (e : Edge) → Contains g.edges e → IsProper e.high
  part_high e E = laid.proper e.high (pg.upper_in e E)

  whole_low : (f : Edge) → Contains r.edges f → IsProper f.low
  whole_low f F = laid.proper f.low (laid.vertex f.low (pr.lower_in f F))

  whole_high : (f : Edge) → Contains r.edges f → IsProper f.high
  whole_high f F = laid.proper f.high (laid.vertex f.high (pr.upper_in f F))

  module _ (e : Edge) (E : Contains g.edges e) where
    -- ---- above an own edge that isn't vertical
    module _ (f : Edge) (F : Contains r.edges f) (w : IsWithin f e) where
      slanted_above : left_of e.low e.high ≡ true → SameFace r (in_layer (forward_cell g e)) (forward_cell r f)
      slanted_above long =
          let el = part_low e E in
          let eh = part_high e E in
          let fl = whole_low f F in
          let fh = whole_high f F in
          let m = beside_wall g e.low in
          let M = beside_proper g e.low el.positive in
          let t = foot f m in
          let rf = run_positive f (whole_long f e fl fh el eh w long) in
          let T = foot_proper f m rf M in
          let from_m : left_of e.low m ≡ true = upto_beside g e.low e.low el.positive (left_of-irrefl e.low) in
          let to_m : left_of m e.high ≡ true = after_beside g e.low e.high (pg.upper_in e E) long in
          let te : IsThrough e t = record { from = foot_before f m e.low rf ∙ from_m; to = foot_after f m e.high rf ∙ to_m } in
          let ffrom = left_of-after f.low e.low m fl.positive el.positive M (not_left f.low e.low fl el w.first) from_m in
          let fto = left_of-before m e.high f.high M eh.positive fh.positive to_m (not_left e.high f.high eh fh w.last) in
          let tf : IsThrough f t = record { from = foot_before f m f.low rf ∙ ffrom; to = foot_after f m f.high rf ∙ fto } in
          let off : IsOff g t = λ v V. rw (foot_before f m v rf, foot_after f m v rf) (elim (cases_Bool (left_of e.low v)) [
            | inl k ↦ rw (after_beside g e.low v V k) (never (left_of v m))
            | inr k ↦ rw (upto_beside g e.low v (pg.proper v V) k) refl
          ]) in
          let on_f = foot_on f m in
          let on_e = on_part f e fl fh el eh w long t on_f in
          let a = above_edge g pg t T off e E te on_e in
          let b = above_edge r pr t T (λ v V. off v (laid.vertex v V)) f F tf on_f in
          let c = face_kept r g own pr pg laid (left_cell g t) (forward_cell g e) a in
          let d = left_holds r g own pr pg laid t T in
          face_trans r _ _ _ (face_sym r _ _ c) (subst (λ x. SameFace r x (forward_cell r f)) (sym d) b)
        where
          foot_proper : (f : Edge) (m : Point) → pos 0 <ℤ run f → HasWeight m → HasWeight (foot f m)
          foot_proper f m R M = unfold foot in mul_pos' (run f) m.w R M

          never : (b : Bool) → (not b && not true) ≡ false
          never true = refl
          never false = refl

      -- ---- and above one that is
      side_f : (t : Point) → collinear f.low f.high t ≡ true → side f t ≡ pos 0
      unfolding side
      side_f t h = unfold collinear det in zero_out (det f.low f.high t) h

      whole_upright : left_of e.low e.high ≡ false → left_of f.low f.high ≡ false
      whole_upright q = false_from_ne_true _ (λ h.
          let a = side_f e.low w.low_on in
          let b = side_f e.high w.high_on in
          let k = pg.forward e E in
          let u = pg.upright e E (rw (q, k) refl) in
          let s = side_above f e.low e.high (part_low e E).positive (run_positive f h) a k q u in
          absurd (omega (arith, ints)))

      upright_left : left_of e.low e.high ≡ false → left_cell r e.low ≡ left_cell r f.low
      upright_left q =
          let k = pg.forward e E in
          let h = whole_upright q in
          let n = pr.forward f F in
          let el = part_low e E in
          let eh = part_high e E in
          let fl = whole_low f F in
          let fh = whole_high f F in
          let a1 = not_left f.low e.low fl el w.first in
          let le : Le e.low f.high = le_trans (le_lt (laid.forward e E)) w.last in
          let b2 = not_left e.low f.high el fh le in
          let a2 = not_right_trans e.low f.high f.low el.positive fh.positive fl.positive b2 h in
          let b1 = not_right_trans f.high f.low e.low fh.positive fl.positive el.positive h a1 in
          let wall : IsOnWall r e.low = record { proper = el.positive; vertex = f.low; is_vertex = pr.lower_in f F; same = rw (a1, a2) refl } in
          let low : lower_than e.low f.low ≡ false = false_from_ne_true _ (λ x. lt_never (le_lt_lt w.first (before e.low f.low el.positive fl.positive (or_right (left_of e.low f.low) (not (left_of f.low e.low) && lower_than e.low f.low) (and_from (not (left_of f.low e.low)) (lower_than e.low f.low) (ap not a2) x))))) in
          let high : lower_than e.low f.high ≡ true = before_on_wall e.low f.high (before_in e.low f.high el fh (lt_le_lt (laid.forward e E) w.last)) b1 in
          let A : IsAlong r f e.low = record { plane = pr; S = F; wall = wall; upright = record { lower_1 = a2; lower_2 = a1; upper_1 = b2; upper_2 = b1 }; from = low; to = high } in
          let B : IsAlong r f f.low = record { plane = pr; S = F; wall = on_own_wall r f.low pr (pr.lower_in f F); upright = record { lower_1 = left_of-irrefl f.low; lower_2 = left_of-irrefl f.low; upper_1 = n; upper_2 = h }; from = lower_than-irrefl f.low; to = pr.upright f F (rw (h, n) refl) } in
          let c : left_count r e.low ≡ left_count r f.low = along_left r f e.low A ∙ sym (along_left r f f.low B) in
          let s : slab_left r e.low ≡ slab_left r f.low = one_slab_left r e.low f.low pr.proper el.positive fl.positive a1 a2 in
          λ i. record { slab = s i; place = c i }

      -- above an own edge
      pub own_above : SameFace r (in_layer (cell_of g e true)) (cell_of r f true)
      own_above = go (left_of e.low e.high) refl
        where
          go : (b : Bool) → left_of e.low e.high ≡ b → SameFace r (in_layer (beside_edge g e b true)) (cell_of r f true)
          go true q =
              let l = whole_long f e (whole_low f F) (whole_high f F) (part_low e E) (part_high e E) w q in
              subst (λ b. SameFace r (in_layer (forward_cell g e)) (beside_edge r f b true)) (sym l) (slanted_above q)
          go false q =
              let l = whole_upright q in
              let a = left_holds r g own pr pg laid e.low (part_low e E).positive in
              subst (λ b. SameFace r (in_layer (left_cell g e.low)) (beside_edge r f b true)) (sym l) (face_at r _ _ (a ∙ upright_left q))

    -- ---- on both sides of another edge
    module _ (other : own e ≡ false) where
      slanted_sides : left_of e.low e.high ≡ true → in_layer (forward_cell g e) ≡ in_layer (backward_cell g e)
      slanted_sides long =
          let i = slab_right g e.low in
          let j = place g i e in
          let wall = on_own_wall g e.low pg (pg.lower_in e E) in
          let se : spans g i e ≡ true = spans_right g e.low e pg wall E ∙ and_from (not (left_of e.low e.low)) (left_of e.low e.high) (ap not (left_of-irrefl e.low)) long in
          let up : Edge → ℕ = λ f. cond ((spans g i f && ltb (place g i f) (j + 1)) && own f) 1 0 in
          let down : Edge → ℕ = λ f. cond ((spans g i f && ltb (place g i f) j) && own f) 1 0 in
          let c : count_by (λ f. (spans g i f && ltb (place g i f) (j + 1)) && own f) g.edges ≡ count_by (λ f. (spans g i f && ltb (place g i f) j) && own f) g.edges =
          sum_by-same up down g.edges (each (λ f. up f ≡ down f) g.edges (λ f F. ap (λ b. cond {A = ℕ} b 1 0) (one_place (spans g i f) (own f) (place g i f) j (λ sf q.
          subst (λ x. own x ≡ false) (sym (place_same g i (right_inside g e.low) f e pg (is_slab_right g e.low pg wall) F E sf se q)) other)))) in
          λ k. record { slab = count_by (λ v. leb (slab_right g v) i) r.vertices; place = c k }

      -- where an edge of the layer covers the wall above t, an own part of it does
      covered : (f : Edge) (t : Point) → Contains r.edges f → HasWeight t → covers_above f t ≡ true → (d : Edge) × Contains g.edges d × (covers_above d t ≡ true) × (own d ≡ true)
      covered f t F T h =
          let a = covers_parts f t h in
          let w = laid.cut f F (λ v. not (lower_than t v)) (ap not a.1.0) (ap not a.1.1) in
          let d = w.part in
          let D = w.part_in in
          let n = w.is_within in
          let fl = whole_low f F in
          let fh = whole_high f F in
          let el = laid.proper d.low (pg.lower_in d D) in
          let eh = laid.proper d.high (pg.upper_in d D) in
          let lt : Le d.low d.high = le_lt (laid.forward d D) in
          let low_1 = not_right_trans t f.low d.low T fl.positive el.positive a.0.lower_1 (not_left f.low d.low fl el n.first) in
          let low_2 = not_right_trans d.low f.high t el.positive fh.positive T (not_left d.low f.high el fh (le_trans lt n.last)) a.0.upper_2 in
          let high_1 = not_right_trans t f.low d.high T fl.positive eh.positive a.0.lower_1 (not_left f.low d.high fl eh (le_trans n.first lt)) in
          let high_2 = not_right_trans d.high f.high t eh.positive fh.positive T (not_left d.high f.high eh fh n.last) a.0.upper_2 in
          (d, D, and_from _ _ (and_from _ _ (and_from _ _ (and_from _ _ (ap not low_1) (ap not low_2)) (and_from _ _ (ap not high_1) (ap not high_2))) w.before) (not-false (lower_than t d.high) w.after), w.is_own)

      upright_sides : left_of e.low e.high ≡ false → SameFace r (left_cell r e.low) (right_cell r e.low)
      upright_sides q =
          let k = pg.forward e E in
          let t = e.low in
          let T = (part_low e E).positive in
          let free : IsOpenAbove r t = record {
            open_at = λ f F. false_from_ne_true (covers_above f t) (λ h.
                let c = covered f t F T h in
                let same = one_cover g e c.0 pg E c.1 (rw (q, k) refl) c.2 in
                false≢true (sym other ∙ subst (λ x. own x ≡ true) (sym same) c.3));
          } in
          ⊎_elim
          (λ some. let w = any_out (λ v. on_wall v t) r.vertices some in
          right _ _ _ (here (left_cell r t)) (across t (record { proper = T; vertex = w.0; is_vertex = from_member r.vertices w.0 w.1; same = w.2 }) free))
          (λ none. face_at r (left_cell r t) (right_cell r t) (off_walls r t pr T (λ v V. false_from_ne_true (on_wall v t) (λ h. any_none (λ v. on_wall v t) v r.vertices none (to_member r.vertices v V) h))))
          (decide (list_any (λ v. on_wall v t) r.vertices))

      pub other_sides : SameFace r (in_layer (cell_of g e true)) (in_layer (cell_of g e false))
      other_sides = go (left_of e.low e.high) refl
        where
          go : (b : Bool) → left_of e.low e.high ≡ b → SameFace r (in_layer (beside_edge g e b true)) (in_layer (beside_edge g e b false))
          go true q = face_at r _ _ (slanted_sides q)
          go false q =
              let T = (part_low e E).positive in
              subst (λ (z : SlabCell × SlabCell). SameFace r z.0 z.1) (λ i. (sym (left_holds r g own pr pg laid e.low T) i, sym (right_holds r g own pr pg laid e.low T) i)) (upright_sides q)
