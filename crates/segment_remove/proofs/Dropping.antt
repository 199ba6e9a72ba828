-- A drop by points: what is left after the curve's edges went, and which vertices may go.
use Rattle.std.proofs.Common.{◌≡◌, ◌⊎◌, ℕ, ◌&&◌, Bool, not, false, List, map, refl, sym, ap, ◌∙◌, subst, inl, inr, ⊎_elim}
use Rattle.std.specs.List.{filter}
use Rattle.exact_plane.specs.Point.{Point}
use Rattle.exact_plane.specs.PointOrderLaws.{and_true}
use Rattle.plane_graphs.specs.Ascending.{Member}
use Rattle.plane_graphs.specs.Fit.{IsFit}
use Rattle.plane_graphs.specs.Graph.{Graph, Mark, mark_cmp, graph, graph_over, marks, same_curve, vertices}
use Rattle.plane_graphs.specs.Piece.{Piece, Present, on}
use Rattle.plane_graphs.specs.Strands.{strand_piece, strand_pieces, strands}
use Rattle.plane_graphs.proofs.Ascending.{ascending_unique}
use Rattle.plane_graphs.proofs.Lines.{geometry}
use Rattle.plane_graphs.proofs.Lists.{IsAscending-filter, any_out, clash, decide, in_filter, in_map, not_out, of_filter}
use Rattle.plane_graphs.proofs.Marks.{mark_in, mark_out, marks_ascend, on_out}
use Rattle.plane_graphs.proofs.Order.{curve_out, mark_cmp_total}
use Rattle.plane_graphs.proofs.Strands.{of_strands, strand_vertices}
use Rattle.plane_graphs.proofs.Vertices.{vertices_closed}
use Rattle.edit_steps.specs.EditLaws.{curve_of, release_step}
use Rattle.edit_steps.specs.Edits.{Drop, steps}
use Rattle.edit_steps.specs.Steps.{Step, drop_steps, less_step, run, with_tidying, without_curve}
use Rattle.edit_steps.proofs.Changes.{marks_taken}
use Rattle.edit_steps.proofs.Edits.{vertices_more}
use Rattle.edit_steps.proofs.Removals.{fit_drop as fit_dropped}
use Rattle.edit_steps.proofs.StrandPaths.{strand_is_of}
use Rattle.told_steps.proofs.StrandRuns.{sides_released}
use Rattle.segment_remove.specs.CurveLosses.{without_sides}
use Rattle.segment_remove.proofs.Touched.{some_mark}
use Rattle.edit_steps.proofs.Sound.{less_sound}
use Rattle.edit_steps.proofs.Vertices.{vertices_change}

-- the marks of a curve
abbrev pub marks_of : ℕ → List Mark → List Mark
marks_of c ms = filter (λ m. same_curve m.curve c) ms

pub drop_is_tidied : (o : Present) (c : ℕ) → steps (Drop c) o ≡ with_tidying o (without_curve o c) (map (less_step (graph o)) (marks_of c (graph o).marks))
unfolding steps drop_steps
drop_is_tidied o c = refl

-- the steps that take all sides of a curve from the graph, where sides are told apart
abbrev pub sides_off : ℕ → Graph → List Step
sides_off c g = map release_step (filter (λ m. same_curve (curve_of m.curve) c) g.marks)

-- ---- pieces of some curves go, and others stay
module _ (vs : List Point) (ks js : List Piece) (goes : ℕ → Bool) (kept : (k : Piece) → Member k js → Member k ks × (goes k.curve ≡ false)) (stays : (k : Piece) → Member k ks → goes k.curve ≡ false → Member k js) where
  was : (m : Mark) → Member m (marks vs js) → Member m (marks vs ks) × (goes m.curve ≡ false)
  was m n =
      let i = mark_out vs js m n in
      let k = kept i.piece i.here in
      (mark_in vs ks m (record { piece = i.piece; here = k.0; curve = i.curve; low_in = i.low_in; high_in = i.high_in; next = i.next }), ap goes i.curve ∙ k.1)

  stays_marked : (m : Mark) → Member m (marks vs ks) → goes m.curve ≡ false → Member m (marks vs js)
  stays_marked m n e =
      let i = mark_out vs ks m n in
      mark_in vs js m (record { piece = i.piece; here = stays i.piece i.here (ap goes (sym i.curve) ∙ e); curve = i.curve; low_in = i.low_in; high_in = i.high_in; next = i.next })

  marks_left : filter (λ m. not (goes m.curve)) (marks vs ks) ≡ marks vs js
  marks_left =
      ascending_unique mark_cmp mark_cmp_total (filter (λ m. not (goes m.curve)) (marks vs ks)) (marks vs js) (IsAscending-filter mark_cmp (λ m. not (goes m.curve)) (marks vs ks) (marks_ascend vs ks)) (marks_ascend vs js)
      (λ m n. let f = of_filter (λ m. not (goes m.curve)) m (marks vs ks) n in stays_marked m f.0 (not_out (goes m.curve) f.1))
      (λ m n. let w = was m n in in_filter (λ m. not (goes m.curve)) m (marks vs ks) w.0 (ap not w.1))

module _ (o : Present) (fit : IsFit o) (c : ℕ) where
  abbrev left : Present
  left = without_curve o c

  pub fit_drop : IsFit (without_curve o c)
  fit_drop = fit_dropped geometry o c fit

  kept_here : (k : Piece) → Member k (without_curve o c).pieces → Member k o.pieces × (same_curve k.curve c ≡ false)
  kept_here k m = let i = of_filter (λ k. not (same_curve k.curve c)) k o.pieces m in (i.0, not_out (same_curve k.curve c) i.1)

  stays_here : (k : Piece) → Member k o.pieces → same_curve k.curve c ≡ false → Member k (without_curve o c).pieces
  stays_here k m e = in_filter (λ k. not (same_curve k.curve c)) k o.pieces m (ap not e)

  pub drop_old : (x : Point) → Member x (vertices (without_curve o c)) → Member x (vertices o)
  drop_old x m = vertices_more (without_curve o c) o (λ k n. (kept_here k n).0) (λ r n. n) x m

  -- ---- the graph without the curve's marks
  abbrev vs : List Point
  vs = vertices o

  abbrev old : List Mark
  old = marks vs o.pieces

  abbrev new : List Mark
  new = marks vs (without_curve o c).pieces

  was_here : (m : Mark) → Member m new → Member m old × (same_curve m.curve c ≡ false)
  was_here = was vs o.pieces left.pieces (λ d. same_curve d c) kept_here stays_here

  left_here : (m : Mark) → Member m old → same_curve m.curve c ≡ false → Member m new
  left_here = stays_marked vs o.pieces left.pieces (λ d. same_curve d c) kept_here stays_here

  either : (m : Mark) → Member m old → Member m (marks_of c old) ⊎ Member m new
  either m n = ⊎_elim (λ e. inl (in_filter (λ m. same_curve m.curve c) m old n e)) (λ e. inr (left_here m n e)) (decide (same_curve m.curve c))

  pub drop_run : run (map (less_step (graph o)) (marks_of c (graph o).marks)) (graph o) ≡ graph_over (vertices o) (without_curve o c).pieces o.pins
  unfolding graph
  drop_run =
      (marks_taken (graph_over vs o.pieces o.pins) (graph_over vs o.pieces o.pins) c new (marks_of c old) old
      (marks_ascend vs (without_curve o c).pieces) (IsAscending-filter mark_cmp (λ m. same_curve m.curve c) old (marks_ascend vs o.pieces)) (marks_ascend vs o.pieces)
      (λ m n. n) (λ m n. (was_here m n).0) (λ m n g. clash (of_filter (λ m. same_curve m.curve c) m old g).1 (was_here m n).1) either
      (λ m n. (of_filter (λ m. same_curve m.curve c) m old n).0)
      (λ m n. (of_filter (λ m. same_curve m.curve c) m old n).1)
      (λ m e xs l. less_sound vs o.pieces o.pins (vertices_closed geometry o fit) new c left_here m e xs l)).0

  -- ---- and so where sides are told apart
  of_its : (k u : Piece) → Member u o.pieces → k ≡ strand_piece u → same_curve (curve_of k.curve) c ≡ same_curve u.curve c
  of_its k u m e = ap (λ (z : Piece). same_curve (curve_of z.curve) c) e ∙ ap (λ z. same_curve z c) (strand_is_of u.curve u.side (fit.piece u m).last_side)

  kept_apart : (k : Piece) → Member k (strand_pieces left.pieces) → Member k (strand_pieces o.pieces) × (same_curve (curve_of k.curve) c ≡ false)
  kept_apart k m =
      let u = of_strands k left.pieces m in
      let w = kept_here u.0 u.1 in
      (subst (λ z. Member z (strand_pieces o.pieces)) (sym u.2) (in_map strand_piece u.0 o.pieces w.0), of_its k u.0 w.0 u.2 ∙ w.1)

  stays_apart : (k : Piece) → Member k (strand_pieces o.pieces) → same_curve (curve_of k.curve) c ≡ false → Member k (strand_pieces left.pieces)
  stays_apart k m e =
      let u = of_strands k o.pieces m in
      subst (λ z. Member z (strand_pieces left.pieces)) (sym u.2) (in_map strand_piece u.0 left.pieces (stays_here u.0 u.1 (sym (of_its k u.0 u.1 u.2) ∙ e)))

  pub drop_apart : run (sides_off c (graph (strands o))) (graph (strands o)) ≡ graph_over (vertices o) (strand_pieces (without_curve o c).pieces) o.pins
  unfolding graph
  drop_apart =
      sides_released c (graph (strands o))
      ∙ ap (λ ps. without_sides c (graph_over ps (strand_pieces o.pieces) o.pins)) (strand_vertices o)
      ∙ (λ i. record { points = vs; marks = marks_left vs (strand_pieces o.pieces) (strand_pieces left.pieces) (λ z. same_curve (curve_of z) c) kept_apart stays_apart i; pins = o.pins })

  -- ---- a vertex that goes is an end of one of the curve's edges
  pub drop_gone : (x : Point) → Member x (vertices o) → (Member x (vertices (without_curve o c)) → ⊥) → (m : Mark) × Member m (graph o).marks × ((m.low ≡ x) ⊎ (m.high ≡ x)) × (m.curve ≡ c)
  unfolding graph
  drop_gone x m gone =
      let k = any_out (λ k. same_curve k.curve c && on k x) o.pieces (vertices_change.go o c x fit m gone) in
      let e = and_true (same_curve k.0.curve c) (on k.0 x) k.2 in
      let d = some_mark o fit k.0 k.1 x m (on_out k.0 x e.1) in
      (d.0, mark_in vs o.pieces d.0 d.1, d.2, d.3 ∙ curve_out k.0.curve c e.0)
