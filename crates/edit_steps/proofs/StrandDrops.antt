-- The sides of a curve that goes, told apart.
use Rattle.std.proofs.Common.{◌≡◌, ℕ, List, [], ◌∷◌, ◌++◌, Bool, true, false, not, refl, sym, ap, ◌∙◌, subst, inl, inr, ⊎_elim}
use Rattle.std.specs.Prelude.{map}
use Rattle.std.specs.List.{filter}
use Rattle.exact_plane.specs.Point.{Point}
use Rattle.plane_graphs.specs.Line.{IsProper}
use Rattle.plane_graphs.specs.Ascending.{Member, IsAscending}
use Rattle.plane_graphs.specs.Piece.{Piece, Present}
use Rattle.plane_graphs.specs.Graph.{Mark, Graph, mark_cmp, graph, graph_over, marks, vertices, same_curve}
use Rattle.plane_graphs.specs.Fit.{IsFit}
use Rattle.plane_graphs.specs.Strands.{strand, strand_piece, strand_pieces, strands}
use Rattle.edit_steps.specs.Steps.{Step, apply, run, tidy_steps, missing_points, without_curve}
use Rattle.edit_steps.specs.EditLaws.{curve_of, release_step, DropOfStrands}
use Rattle.plane_graphs.proofs.Ascending.{ascending_unique}
use Rattle.plane_graphs.proofs.Lists.{in_map, clash, not_out, not_in, in_filter, of_filter, IsAscending-filter}
use Rattle.plane_graphs.proofs.Order.{mark_cmp_total}
use Rattle.plane_graphs.proofs.Marks.{mark_out, mark_in, marks_ascend}
use Rattle.plane_graphs.proofs.Lines.{geometry}
use Rattle.plane_graphs.proofs.Vertices.{vertices_closed, vertices_ascend}
use Rattle.plane_graphs.proofs.Strands.{of_strands, strand_vertices}
use Rattle.edit_steps.proofs.Changes.{this, this_in, this_out}
use Rattle.edit_steps.proofs.Folds.{missing_sum, shrunk}
use Rattle.edit_steps.proofs.Sound.{tidy_sound}
use Rattle.edit_steps.proofs.Edits.{run_append, vertices_more}
use Rattle.edit_steps.proofs.Removals.{fit_drop}
use Rattle.edit_steps.proofs.StrandSteps.{same_shrunk, strands_closed}
use Rattle.edit_steps.proofs.StrandPaths.{strand_is_of}

-- ---- marks go
abbrev released : List Mark → List Mark → List Mark
released [] xs = xs
released (m ∷ ms) xs = released ms (filter (λ n. not (this m n)) xs)

run_released : (g : Graph) (ms xs : List Mark) → run (map release_step ms) (record g { marks = xs }) ≡ record g { marks = released ms xs }
unfolding run apply
run_released g [] xs = refl
run_released g (m ∷ ms) xs = run_released g ms (filter (λ n. not (this m n)) xs)

released_ascend : (ms xs : List Mark) → IsAscending mark_cmp xs → IsAscending mark_cmp (released ms xs)
released_ascend [] xs a = a
released_ascend (m ∷ ms) xs a = released_ascend ms (filter (λ n. not (this m n)) xs) (IsAscending-filter mark_cmp (λ n. not (this m n)) xs a)

released_out : (ms xs : List Mark) (n : Mark) → Member n (released ms xs) → Member n xs × (Member n ms → ⊥)
released_out [] xs n h = (h, λ z. z)
released_out (m ∷ ms) xs n h =
    let i = released_out ms (filter (λ n. not (this m n)) xs) n h in
    let j = of_filter (λ n. not (this m n)) n xs i.0 in
    (j.0, λ k. ⊎_elim (λ e. clash (this_in m n e) (not_out (this m n) j.1)) (λ l. i.1 l) k)

released_in : (ms xs : List Mark) (n : Mark) → Member n xs → (Member n ms → ⊥) → Member n (released ms xs)
released_in [] xs n h f = h
released_in (m ∷ ms) xs n h f = released_in ms (filter (λ n. not (this m n)) xs) n (in_filter (λ n. not (this m n)) n xs h (not_in (this m n) (λ e. f (inl (this_out m n e))))) (λ k. f (inr k))

module _ (p : Present) (c : ℕ) (fit : IsFit p) where
  abbrev left : Present
  left = without_curve p c

  abbrev of_c : Mark → Bool
  of_c m = same_curve (curve_of m.curve) c

  kept_of : (k : Piece) → Member k left.pieces → Member k p.pieces × (same_curve k.curve c ≡ false)
  kept_of k h = let w = of_filter (λ k. not (same_curve k.curve c)) k p.pieces h in (w.0, not_out (same_curve k.curve c) w.1)

  strand_test : (m : Mark) (k : Piece) → Member k p.pieces → m.curve ≡ strand k.curve k.side → of_c m ≡ same_curve k.curve c
  strand_test m k h e = ap (λ z. same_curve (curve_of z) c) e ∙ ap (λ z. same_curve z c) (strand_is_of k.curve k.side (fit.piece k h).last_side)

  left_marks : (vs : List Point) → released (filter of_c (marks vs (strand_pieces p.pieces))) (marks vs (strand_pieces p.pieces)) ≡ marks vs (strand_pieces left.pieces)
  left_marks vs =
      let xs = marks vs (strand_pieces p.pieces) in
      let ys = marks vs (strand_pieces left.pieces) in
      let ms = filter of_c (marks vs (strand_pieces p.pieces)) in
      ascending_unique mark_cmp mark_cmp_total (released ms xs) ys (released_ascend ms xs (marks_ascend vs (strand_pieces p.pieces))) (marks_ascend vs (strand_pieces left.pieces))
      (λ m h.
      let j = released_out ms xs m h in
      let i = mark_out vs (strand_pieces p.pieces) m j.0 in
      let u = of_strands i.piece p.pieces i.here in
      let t = strand_test m u.0 u.1 (i.curve ∙ ap (λ (z : Piece). z.curve) u.2) in
      let stays : not (same_curve u.0.curve c) ≡ true = not_in (same_curve u.0.curve c) (λ e. j.1 (in_filter of_c m xs j.0 (t ∙ e))) in
      mark_in vs (strand_pieces left.pieces) m (record { piece = i.piece; here = subst (λ z. Member z (strand_pieces left.pieces)) (sym u.2) (in_map strand_piece u.0 left.pieces (in_filter (λ k. not (same_curve k.curve c)) u.0 p.pieces u.1 stays)); curve = i.curve; low_in = i.low_in; high_in = i.high_in; next = i.next }))
      (λ m h.
      let i = mark_out vs (strand_pieces left.pieces) m h in
      let u = of_strands i.piece left.pieces i.here in
      let w = kept_of u.0 u.1 in
      let was : Member m xs = mark_in vs (strand_pieces p.pieces) m (record { piece = i.piece; here = subst (λ z. Member z (strand_pieces p.pieces)) (sym u.2) (in_map strand_piece u.0 p.pieces w.0); curve = i.curve; low_in = i.low_in; high_in = i.high_in; next = i.next }) in
      released_in ms xs m was (λ k. clash (sym (strand_test m u.0 w.0 (i.curve ∙ ap (λ (z : Piece). z.curve) u.2)) ∙ (of_filter of_c m xs k).1) w.1))

  lost : (x : Point) → Member x (vertices left) → Member x (vertices p)
  lost x m = vertices_more left p (λ k h. (kept_of k h).0) (λ r h. h) x m

  dropped : run (map release_step (filter of_c (graph (strands p)).marks) ++ tidy_steps (missing_points (vertices p) (vertices left)) (graph_over (vertices p) left.pieces p.pins)) (graph (strands p)) ≡ graph (strands left)
  unfolding graph
  dropped =
      let vs : List Point = vertices p in
      let ws : List Point = vertices left in
      let ss : List Piece = strand_pieces p.pieces in
      let ts : List Piece = strand_pieces left.pieces in
      let rs : List Point = missing_points vs ws in
      let tidy : List Step = tidy_steps rs (graph_over vs left.pieces p.pins) in
      let fn = fit_drop geometry p c fit in
      let s = missing_sum vs ws (vertices_ascend p) lost in
      let cl = vertices_closed geometry left fn in
      let cs = strands_closed ws left fn (λ x m. m) cl in
      let proper : (x : Point) → Member x rs → IsProper x = λ x m. (vertices_closed geometry p fit).proper x (s.from_rs x m) in
      let g = shrunk ts p.pins (tidy_sound ts p.pins) rs vs ws s cs proper in
      ap (λ z. run (map release_step (filter of_c (marks z ss)) ++ tidy) (graph_over z ss p.pins)) (strand_vertices p)
      ∙ run_append (map release_step (filter of_c (marks vs ss))) tidy (graph_over vs ss p.pins)
      ∙ ap (run tidy) (run_released (graph_over vs ss p.pins) (filter of_c (marks vs ss)) (marks vs ss))
      ∙ ap (λ z. run tidy (graph_of vs z)) (left_marks vs)
      ∙ ap (λ z. run z (graph_over vs ts p.pins)) (sym (same_shrunk left.pieces p.pins rs vs ws s cl cs proper))
      ∙ g.0
      ∙ ap (λ z. graph_over z ts p.pins) (sym (strand_vertices left))
    where
      graph_of : List Point → List Mark → Graph
      graph_of vs ms = record { points = vs; marks = ms; pins = p.pins }

pub drop_of_strands : DropOfStrands
drop_of_strands p c fit = dropped p c fit
