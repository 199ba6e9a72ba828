-- The sides of a new curve, told apart, along its edges.
use Rattle.std.proofs.Common.{◌≡◌, ℕ, ◌≤◌, List, [], ◌∷◌, ◌++◌, refl, sym, ap, ◌∙◌, subst, inl, inr, ◌⊎◌, ⊎_elim, nat_cmp, arith}
use Rattle.std.specs.Prelude.{map}
use Rattle.std.specs.List.{filter}
use Rattle.std.proofs.lemmas.Cmp.{nat_cmp_total}
use Rattle.std.proofs.lemmas.List.{map-append}
use Rattle.exact_plane.specs.Point.{Point}
use Rattle.plane_graphs.specs.Line.{IsProper}
use Rattle.plane_graphs.specs.Ascending.{place, ascending, Member, IsAscending}
use Rattle.plane_graphs.specs.Piece.{Piece, Present}
use Rattle.plane_graphs.specs.Graph.{Mark, Graph, mark, mark_cmp, graph, graph_over, is_at, marks, vertices, curves}
use Rattle.plane_graphs.specs.Fit.{IsFit}
use Rattle.plane_graphs.specs.Strands.{strand, strand_piece, strand_pieces}
use Rattle.edit_steps.specs.Steps.{Step, apply, run, vertex_steps, missing_points, with_pieces}
use Rattle.edit_steps.specs.EditLaws.{curve_of, hold_step, CurvesOfStrands, PathOfStrands}
use Rattle.plane_graphs.proofs.Ascending.{ascending_unique, IsAscending-place}
use Rattle.plane_graphs.proofs.Lists.{in_map, of_map, in_filter, of_filter, of_ascending, in_ascending, of_place, in_place, in_left, in_right, in_either}
use Rattle.plane_graphs.proofs.Order.{mark_cmp_total, mark_cmp_exact}
use Rattle.plane_graphs.proofs.Marks.{IsMark, mark_out, mark_in, marks_ascend}
use Rattle.plane_graphs.proofs.Edges.{same_list}
use Rattle.plane_graphs.proofs.Lines.{geometry}
use Rattle.plane_graphs.proofs.Vertices.{vertices_closed, vertices_ascend}
use Rattle.plane_graphs.proofs.Strands.{strand_vertices}
use Rattle.edit_steps.proofs.Folds.{missing_sum, grown}
use Rattle.edit_steps.proofs.Sound.{vertex_sound}
use Rattle.edit_steps.proofs.Edits.{run_append, vertices_more, fit_part}
use Rattle.edit_steps.proofs.StrandSteps.{to_strand, of_strand, same_grown, strands_closed}
use Rattle.integers.proofs.Tests.{nat_exact}

-- ---- the curves of an edge
pub strand_is_of : (c s : ℕ) → s ≤ 8 → curve_of (strand c s) ≡ c
strand_is_of c s h = omega arith

pub curves_of_strands : CurvesOfStrands
unfolding graph curves
curves_of_strands p a b fit =
    let vs = vertices p in
    let ks = p.pieces in
    let js = strand_pieces ks in
    same_list (map (λ m. m.curve) (filter (is_at a b) (marks vs ks))) (map curve_of (ascending nat_cmp (map (λ m. m.curve) (filter (is_at a b) (marks vs js)))))
    (λ c h.
    let i = of_map (λ (m : Mark). m.curve) c (filter (is_at a b) (marks vs ks)) h in
    let j = of_filter (is_at a b) i.0 (marks vs ks) i.1 in
    let t = to_strand vs ks i.0 j.0 in
    let k = t.0 in
    let n : Mark = mark i.0.low i.0.high (strand k.curve k.side) in
    subst (λ z. Member z (map curve_of (ascending nat_cmp (map (λ m. m.curve) (filter (is_at a b) (marks vs js)))))) (strand_is_of k.curve k.side (fit.piece k t.1).last_side ∙ sym t.2 ∙ sym i.2)
    (in_map curve_of (strand k.curve k.side) _ (in_ascending nat_cmp nat_cmp_total nat_exact (strand k.curve k.side) _ (in_map (λ (m : Mark). m.curve) n (filter (is_at a b) (marks vs js)) (in_filter (is_at a b) n (marks vs js) t.3 j.1)))))
    (λ c h.
    let e = of_map curve_of c (ascending nat_cmp (map (λ m. m.curve) (filter (is_at a b) (marks vs js)))) h in
    let i = of_map (λ (m : Mark). m.curve) e.0 (filter (is_at a b) (marks vs js)) (of_ascending nat_cmp nat_cmp_total nat_exact e.0 _ e.1) in
    let j = of_filter (is_at a b) i.0 (marks vs js) i.1 in
    let t = of_strand vs ks i.0 j.0 in
    let k = t.0 in
    let n : Mark = mark i.0.low i.0.high k.curve in
    subst (λ z. Member z (map (λ m. m.curve) (filter (is_at a b) (marks vs ks)))) (sym (e.2 ∙ ap curve_of (i.2 ∙ t.2) ∙ strand_is_of k.curve k.side (fit.piece k t.1).last_side))
    (in_map (λ (m : Mark). m.curve) n (filter (is_at a b) (marks vs ks)) (in_filter (is_at a b) n (marks vs ks) t.3 j.1)))
    ∙ ap (λ z. ascending nat_cmp (map curve_of (ascending nat_cmp (map (λ m. m.curve) (filter (is_at a b) (marks z js)))))) (sym (strand_vertices p))

-- ---- marks come
abbrev held : List Mark → List Mark → List Mark
held [] xs = xs
held (m ∷ ms) xs = held ms (place mark_cmp m xs)

run_held : (g : Graph) (ms xs : List Mark) → run (map hold_step ms) (record g { marks = xs }) ≡ record g { marks = held ms xs }
unfolding run apply
run_held g [] xs = refl
run_held g (m ∷ ms) xs = run_held g ms (place mark_cmp m xs)

held_ascend : (ms xs : List Mark) → IsAscending mark_cmp xs → IsAscending mark_cmp (held ms xs)
held_ascend [] xs a = a
held_ascend (m ∷ ms) xs a = held_ascend ms (place mark_cmp m xs) (IsAscending-place mark_cmp mark_cmp_total m xs a)

held_out : (ms xs : List Mark) (n : Mark) → Member n (held ms xs) → Member n ms ⊎ Member n xs
held_out [] xs n h = inr h
held_out (m ∷ ms) xs n h = ⊎_elim (λ i. inl (inr i)) (λ i. ⊎_elim (λ e. inl (inl e)) (λ j. inr j) (of_place mark_cmp mark_cmp_total mark_cmp_exact n m xs i)) (held_out ms (place mark_cmp m xs) n h)

held_in : (ms xs : List Mark) (n : Mark) → Member n ms ⊎ Member n xs → Member n (held ms xs)
held_in [] xs n (inl h) = absurd h
held_in [] xs n (inr h) = h
held_in (m ∷ ms) xs n (inl (inl e)) = held_in ms (place mark_cmp m xs) n (inr (in_place mark_cmp mark_cmp_total mark_cmp_exact n m xs (inl e)))
held_in (m ∷ ms) xs n (inl (inr h)) = held_in ms (place mark_cmp m xs) n (inl h)
held_in (m ∷ ms) xs n (inr h) = held_in ms (place mark_cmp m xs) n (inr (in_place mark_cmp mark_cmp_total mark_cmp_exact n m xs (inr h)))

part_mark : (vs : List Point) (ks js : List Piece) → ((k : Piece) → Member k ks → Member k js) → (m : Mark) → Member m (marks vs ks) → Member m (marks vs js)
part_mark vs ks js f m h = let i = mark_out vs ks m h in mark_in vs js m (record { piece = i.piece; here = f i.piece i.here; curve = i.curve; low_in = i.low_in; high_in = i.high_in; next = i.next })

held_marks : (vs : List Point) (ks js : List Piece) → held (marks vs js) (marks vs ks) ≡ marks vs (ks ++ js)
held_marks vs ks js =
    ascending_unique mark_cmp mark_cmp_total (held (marks vs js) (marks vs ks)) (marks vs (ks ++ js)) (held_ascend (marks vs js) (marks vs ks) (marks_ascend vs ks)) (marks_ascend vs (ks ++ js))
    (λ m h. ⊎_elim (λ i. part_mark vs js (ks ++ js) (λ k j. in_right k ks js j) m i) (λ i. part_mark vs ks (ks ++ js) (λ k j. in_left k ks js j) m i) (held_out (marks vs js) (marks vs ks) m h))
    (λ m h. held_in (marks vs js) (marks vs ks) m (of_either m (mark_out vs (ks ++ js) m h)))
  where
    of_either : (m : Mark) → IsMark vs (ks ++ js) m → Member m (marks vs js) ⊎ Member m (marks vs ks)
    of_either m i = ⊎_elim
        (λ a. inr (mark_in vs ks m (record { piece = i.piece; here = a; curve = i.curve; low_in = i.low_in; high_in = i.high_in; next = i.next })))
        (λ a. inl (mark_in vs js m (record { piece = i.piece; here = a; curve = i.curve; low_in = i.low_in; high_in = i.high_in; next = i.next }))) (in_either i.piece ks js i.here)

-- ---- the law
pub path_of_strands : PathOfStrands
unfolding graph
path_of_strands p js fit =
    let q : Present = with_pieces p js in
    let ks : List Piece = p.pieces in
    let ss : List Piece = strand_pieces ks in
    let ts : List Piece = strand_pieces js in
    let vs : List Point = vertices q in
    let us : List Point = vertices p in
    let more : (m : Piece) → Member m p.pieces → Member m (p.pieces ++ js) = λ m h. in_left m p.pieces js h in
    let old : IsFit p = fit_part p q fit more (λ r h. h) fit.pins_ascend in
    let cl = vertices_closed geometry p old in
    let cs = strands_closed us p old (λ x m. m) cl in
    let s = missing_sum vs us (vertices_ascend q) (vertices_more p q more (λ r h. h)) in
    let rs : List Point = missing_points vs us in
    let proper : (x : Point) → Member x rs → IsProper x = λ x m. (vertices_closed geometry q fit).proper x (s.from_rs x m) in
    let firsts : List Step = vertex_steps rs (graph_over us ks p.pins) in
    let holds : List Step = map hold_step (marks vs ts) in
    let g = grown ss p.pins (vertex_sound ss p.pins) rs vs us s cs proper in
    ap (λ z. run (firsts ++ holds) (graph_over z ss p.pins)) (strand_vertices p)
    ∙ run_append firsts holds (graph_over us ss p.pins)
    ∙ ap (λ z. run holds (run z (graph_over us ss p.pins))) (sym (same_grown ks p.pins rs vs us s cl cs proper))
    ∙ ap (run holds) g.0
    ∙ run_held (graph_over vs ss p.pins) (marks vs ts) (marks vs ss)
    ∙ (λ i. graph_of vs p.pins (held_marks vs ss ts i))
    ∙ ap (λ z. graph_over vs z p.pins) (sym (map-append strand_piece ks js))
    ∙ ap (λ z. graph_over z (strand_pieces (ks ++ js)) p.pins) (sym (strand_vertices q))
  where
    graph_of : List Point → List Point → List Mark → Graph
    graph_of vs pins ms = record { points = vs; marks = ms; pins = pins }
