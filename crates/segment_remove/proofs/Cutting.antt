-- A cut by points: what its first step leaves, and which vertices may go.
use Rattle.std.proofs.Common.{◌≡◌, ◌⊎◌, true, [], ◌∷◌, refl, ◌∙◌, subst}
use Rattle.std.specs.List.{list_any}
use Rattle.exact_plane.specs.Point.{Point}
use Rattle.exact_plane.specs.PointOrderLaws.{and_true}
use Rattle.plane_graphs.specs.Ascending.{Member}
use Rattle.plane_graphs.specs.Fit.{IsFit}
use Rattle.plane_graphs.specs.Graph.{Mark, graph, graph_over, is_at, marks, vertices}
use Rattle.plane_graphs.specs.Line.{same_point}
use Rattle.plane_graphs.specs.Piece.{Present}
use Rattle.plane_graphs.specs.Strands.{strand_pieces, strands}
use Rattle.plane_graphs.proofs.Lines.{geometry}
use Rattle.plane_graphs.proofs.Lists.{any_out}
use Rattle.plane_graphs.proofs.Marks.{IsMark, mark_out}
use Rattle.plane_graphs.proofs.Order.{same_out}
use Rattle.plane_graphs.proofs.Strands.{strand_vertices, strands_fit}
use Rattle.plane_graphs.proofs.Vertices.{vertices_closed}
use Rattle.edit_steps.specs.Edits.{Cut, steps}
use Rattle.edit_steps.specs.Steps.{RemoveEdge, apply, cut_steps, run, with_cut, with_tidying}
use Rattle.edit_steps.proofs.Cuts.{cut_marks, cut_sub}
use Rattle.edit_steps.proofs.Removals.{cut_leads}
use Rattle.edit_steps.proofs.StrandSteps.{cut_after}
use Rattle.edit_steps.proofs.Vertices.{vertices_change}

pub cut_is_tidied : (o : Present) (a b : Point) → steps (Cut a b) o ≡ with_tidying o (with_cut o a b) (RemoveEdge a b ∷ [])
unfolding steps cut_steps
cut_is_tidied o a b = refl

module _ (o : Present) (fit : IsFit o) (a b : Point) (there : list_any (is_at a b) (graph o).marks ≡ true) where
  pub fit_cut : IsFit (with_cut o a b)
  fit_cut = (cut_leads geometry o fit a b there).1

  -- the edge
  edge : (m : Mark) × IsMark (vertices o) o.pieces m × (m.low ≡ a) × (m.high ≡ b)
  unfolding graph
  edge =
      let m = any_out (is_at a b) (marks (vertices o) o.pieces) there in
      let e = and_true (same_point m.0.low a) (same_point m.0.high b) m.2 in
      (m.0, mark_out (vertices o) o.pieces m.0 m.1, same_out m.0.low a e.0, same_out m.0.high b e.1)

  -- without the edge, the graph is that of the pieces that are left, over the old vertices
  pub cut_run : run (RemoveEdge a b ∷ []) (graph o) ≡ graph_over (vertices o) (with_cut o a b).pieces o.pins
  unfolding run apply graph
  cut_run = λ i. record { points = vertices o; marks = cut_marks (vertices o) o.pieces (vertices_closed geometry o fit) a b edge.0 edge.1 edge.2 edge.3 i; pins = o.pins }

  -- no vertex is new, and only the ends of the edge may go
  pub cut_old : (x : Point) → Member x (vertices (with_cut o a b)) → Member x (vertices o)
  cut_old = cut_sub o a b (subst (λ z. Member z (vertices o)) edge.2 edge.1.low_in) (subst (λ z. Member z (vertices o)) edge.3 edge.1.high_in)

  pub cut_gone : (x : Point) → Member x (vertices o) → (Member x (vertices (with_cut o a b)) → ⊥) → (x ≡ a) ⊎ (x ≡ b)
  cut_gone x m gone = vertices_change.cut o a b x fit there m gone

-- without the edge of sides that are told apart, it is that of the sides that are left
pub cut_apart : (o : Present) (a b : Point) → IsFit o → list_any (is_at a b) (graph (strands o)).marks ≡ true → run (RemoveEdge a b ∷ []) (graph (strands o)) ≡ graph_over (vertices o) (strand_pieces (with_cut o a b).pieces) o.pins
cut_apart o a b fit there = cut_run (strands o) (strands_fit o fit) a b there ∙ (λ i. graph_over (strand_vertices o i) (cut_after o a b i).pieces o.pins)
