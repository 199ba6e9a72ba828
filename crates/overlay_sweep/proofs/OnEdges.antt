-- A point inside an edge, off all walls: the cell on its left is directly above the edge.
use Rattle.std.proofs.Common.{◌≡◌, ℕ, ◌+◌, Bool, true, false, cond, arith, refl, sym, ap, ◌∙◌, subst}
use Rattle.std.specs.Prelude.{pos, ◌<ℤ◌, not, ◌&&◌}
use Rattle.std.specs.List.{Contains}
use Rattle.std.proofs.lemmas.Int.{ints, by_lt_z}
use Rattle.std.proofs.lemmas.Bool.{false≢true, and_from, false_from_ne_true}
use lib.IntN.{*ℤ-zero}
use Rattle.exact_plane.specs.Point.{Point}
use Rattle.plane_graphs.specs.Graph.{Edge}
use Rattle.slab_laws.specs.Skeleton.{Skeleton, HasWeight, IsPlaneSkeleton, left_of, on_wall, run, side, over, below, same_edge}
use Rattle.slab_laws.specs.Slabs.{reaches_left, spans, place, slab_left, slab_right, left_cell, left_count, forward_cell}
use Rattle.slab_laws.specs.Meets.{SameFace}
use Rattle.slab_faces.proofs.Ints.{times_at_most}
use Rattle.slab_faces.proofs.Sums.{each, sum_by-same, sum_by-plus}
use Rattle.slab_faces.proofs.Walls.{left_of-asym}
use Rattle.slab_faces.proofs.Order.{below_asym, gap-on_e, gap-swap}
use Rattle.slab_faces.proofs.Cells.{left_few, left_more, leb_by, ltb_by, both}
use Rattle.slab_faces.proofs.Slabs.{IsThrough, IsSlab, through, by_gap, below_at, run_through, same_edge_is, same_edge_refl}
use Rattle.slab_faces.proofs.Along.{below_self}
use Rattle.slab_faces.proofs.OverUnder.{over_in, positive_not_over, zero_not_over}
use Rattle.slab_faces.proofs.Turns.{face_sym, one_more, wall_before}
use Rattle.slab_faces.proofs.Outside.{to_first}

abbrev pub IsOff : Skeleton → Point → Type 0
IsOff s t = (v : Point) → Contains s.vertices v → on_wall v t ≡ false

turned : (a b : Bool) → (not a && not b) ≡ false → (a ≡ true → b ≡ false) → b ≡ not a
turned true b h k = k refl
turned false true h k = refl
turned false false h k = absurd (false≢true (sym h))

module _ (s : Skeleton) (plane : IsPlaneSkeleton s) (t : Point) (T : HasWeight t) (off : IsOff s t) where
  other_side : (v : Point) → Contains s.vertices v → left_of t v ≡ not (left_of v t)
  other_side v V = turned (left_of v t) (left_of t v) (off v V) (left_of-asym v t)

  pub clear_slab : IsSlab s (slab_left s t) t
  clear_slab = record {
    proper = T;
    spanned = λ e E.
        let p = plane.lower_in e E in
        let q = plane.upper_in e E in
        both _ _ _ _
        (leb_by _ _ (left_of e.low t) (λ h. left_few s e.low t plane (plane.proper e.low p) T h) (λ h. left_more s e.low t plane p T h))
        (ltb_by _ _ (left_of e.high t) (λ h. left_few s e.high t plane (plane.proper e.high q) T h) (λ h. left_more s e.high t plane q T h) ∙ sym (other_side e.high q));
  }

  module _ (e : Edge) (E : Contains s.edges e) (th : IsThrough e t) (on : side e t ≡ pos 0) where
    i : ℕ
    i = slab_left s t

    spans_e : spans s i e ≡ true
    unfolding i
    spans_e = clear_slab.spanned e E ∙ and_from _ _ th.from th.to

    signs : (f : Edge) → Contains s.edges f → spans s i f ≡ true → same_edge e f ≡ false → not (over f t) ≡ below f e
    unfolding i
    signs f F sf n =
        let tf = through s (slab_left s t) t f clear_slab F sf in
        let re = run_through s e t plane E T th in
        let G = gap-on_e f e t on in
        let z = *ℤ-zero (run e) in
        by_gap s f e t plane F E T tf th
        (λ u. let k : pos 0 <ℤ side f t = by_lt_z (pos 0) (side f t) (λ l. l) (λ l. let y = times_at_most (run e) (side f t) (pos 0) re (omega (arith, ints)) in absurd (omega (arith, ints))) in
        ap not (positive_not_over f t k) ∙ sym (below_at s f e t plane F E T tf th u))
        (λ u. let k : side f t <ℤ pos 0 = by_lt_z (side f t) (pos 0) (λ l. l) (λ l. let y = times_at_most (run e) (pos 0) (side f t) re (omega (arith, ints)) in absurd (omega (arith, ints))) in
        let S = gap-swap f e t in
        let b = below_at s e f t plane E F T th tf (omega (arith, ints)) in
        ap not (over_in f t k) ∙ sym (false_from_ne_true (below f e) (λ x. below_asym s f e plane F E x b)))
        (λ u. absurd (false≢true (sym n ∙ subst (λ x. same_edge e x ≡ true) (sym u) (same_edge_refl e))))

    count_on : left_count s t ≡ place s i e + 1
    unfolding i
    count_on =
        let now : Edge → ℕ = λ f. cond (reaches_left f t && not (over f t)) 1 0 in
        let low : Edge → ℕ = λ f. cond (spans s (slab_left s t) f && below f e) 1 0 in
        let own : Edge → ℕ = λ f. cond (same_edge e f) 1 0 in
        let reach : (f : Edge) → Contains s.edges f → spans s (slab_left s t) f ≡ reaches_left f t = λ f F. clear_slab.spanned f F ∙ ap (λ b. left_of f.low t && b) (other_side f.high (plane.upper_in f F)) in
        let pair : (f : Edge) → Contains s.edges f → now f ≡ low f + own f = λ f F.
        subst (λ b. now f ≡ cond (b && below f e) 1 0 + own f) (sym (reach f F)) (one_more (reaches_left f t) (not (over f t)) (below f e) (same_edge e f)
        (λ k. subst (λ x. (reaches_left x t ≡ true) × (not (over x t) ≡ true) × (below x e ≡ false)) (same_edge_is e f k) (sym (reach e E) ∙ spans_e, ap not (zero_not_over e t on), below_self s e plane E))
        (λ r n. signs f F (reach f F ∙ r) n)) in
        sum_by-same now (λ f. low f + own f) s.edges (each (λ f. now f ≡ low f + own f) s.edges pair) ∙ sum_by-plus low own s.edges ∙ ap (λ n. place s (slab_left s t) e + n) (plane.edge_once e E)

    pub above_edge : SameFace s (left_cell s t) (forward_cell s e)
    unfolding i
    above_edge =
        let w = wall_before s e.low t plane T (plane.lower_in e E) th.from in
        let c : left_count s t ≡ place s (slab_left s t) e + 1 = count_on in
        let h : spans s (slab_right s w.0) e ≡ true = subst (λ n. spans s n e ≡ true) w.1.next spans_e in
        let f = to_first s e w.0 plane w.1.is_vertex E h in
        let k : SameFace s (forward_cell s e) (record { slab = slab_left s t; place = place s (slab_left s t) e + 1 }) = subst (λ n. SameFace s (forward_cell s e) (record { slab = n; place = place s n e + 1 })) (sym w.1.next) f.1 in
        face_sym s _ _ (subst (λ n. SameFace s (forward_cell s e) (record { slab = slab_left s t; place = n })) (sym c) k)
