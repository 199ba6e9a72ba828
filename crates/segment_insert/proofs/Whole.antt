-- The meeting points of a segment tell the new vertices of a curve of it, and its marks.
use Rattle.std.proofs.Common.{◌≡◌, ℕ, [], ◌∷◌, true, Bool, refl, sym, ap, ap₂, ◌∙◌, subst, inl, inr}
use Rattle.std.specs.List.{filter}
use Rattle.exact_plane.specs.Point.{Point}
use Rattle.exact_plane.specs.Segment.{Segment}
use Rattle.plane_graphs.specs.Ascending.{Member}
use Rattle.plane_graphs.specs.Fit.{IsFit}
use Rattle.plane_graphs.specs.Graph.{marks, chain, graph, vertices}
use Rattle.plane_graphs.specs.Piece.{Piece, Present, on, along}
use Rattle.plane_graphs.specs.Strands.{strand, strand_piece, strands}
use Rattle.plane_graphs.proofs.Edges.{edges_of_piece}
use Rattle.plane_graphs.proofs.Lists.{in_map, in_right, in_filter, of_filter}
use Rattle.plane_graphs.proofs.Strands.{strand_on, strand_vertices, strands_fit}
use Rattle.edit_steps.specs.EditLaws.{ArePathPoints}
use Rattle.edit_steps.specs.Edits.{whole_piece}
use Rattle.edit_steps.specs.Steps.{with_piece}
use Rattle.edit_steps.proofs.Together.{vertices_together}
use Rattle.slab_laws.specs.Sound.{IsGraphSound}
use Rattle.slab_laws.specs.View.{View}
use Rattle.arr_notes.specs.Curves.{Curves, AreCurvesOf}
use Rattle.arr_notes.specs.RecordGraph.{drawn_graph}
use Rattle.zone_walk.specs.Zone.{is_on_segment, meeting_points}
use Rattle.segment_insert.proofs.Halves.{AreTold}
use Rattle.segment_insert.proofs.Passing.{common_on, met, points_ascend}

module _ (v : View) (h : Curves) (s : IsGraphSound v) (a : AreCurvesOf v h) (p : Present) (g : Segment) (c : ℕ) (stands : drawn_graph v h ≡ graph p) (fit : IsFit (with_piece p (whole_piece c 1 g))) where
  abbrev k : Piece
  k = whole_piece c 1 g

  abbrev q : Present
  q = with_piece p k

  k_here : Member k q.pieces
  k_here = in_right k p.pieces (k ∷ []) (inl refl)

  met_here : meeting_points v g ≡ filter (on k) (vertices q)
  met_here = met v h s a p g c 1 stands fit

  on_new : (x : Point) → Member x (meeting_points v g) → Member x (vertices q) × (on k x ≡ true)
  on_new x m = of_filter (on k) x (vertices q) (subst (Member x) met_here m)

  new_on : (j : Piece) (x : Point) → j ≡ k → Member x (vertices q) → on j x ≡ true → Member x (meeting_points v g)
  new_on j x e m o = subst (Member x) (sym met_here) (in_filter (on k) x (vertices q) m (subst (λ z. on z x ≡ true) e o))

  the_one : (j : Piece) → Member j (k ∷ []) → j ≡ k
  the_one j (inl e) = e
  the_one j (inr m) = absurd m

  are_points : ArePathPoints p (k ∷ []) (meeting_points v g)
  are_points = record {
    ascend = points_ascend v h s a p g c 1 stands fit;
    only = λ x m. (on_new x m).0;
    each = λ j x i m o. let e = the_one j i in new_on j x e (subst (λ z. Member x (vertices (with_piece p z))) e m) o;
    own = λ x m. new_on m.one x (the_one m.one m.one_in) (vertices_together.all p (k ∷ []) x (inr (inr m))) (common_on m.one m.other x m.common).on_one;
  }

  chain_is : marks (vertices q) (k ∷ []) ≡ chain c (meeting_points v g)
  chain_is = edges_of_piece q k fit k_here ∙ ap (chain c) (sym met_here)

  -- the sides of curves told apart: the piece's own side along each edge
  side_chain : marks (vertices q) (strand_piece k ∷ []) ≡ chain (strand c 1) (meeting_points v g)
  side_chain =
      ap (λ vs. marks vs (strand_piece k ∷ [])) (sym (strand_vertices q)) ∙ edges_of_piece (strands q) (strand_piece k) (strands_fit q fit) (in_map strand_piece k q.pieces k_here)
      ∙ ap₂ (λ (on_it : Point → Bool) vs. chain (strand c 1) (filter on_it vs)) (λ i x. strand_on k x i) (strand_vertices q) ∙ ap (chain (strand c 1)) (sym met_here)

  pub segment_told : AreTold p c (g ∷ []) (meeting_points v g) (chain c (meeting_points v g)) (chain (strand c 1) (meeting_points v g))
  segment_told = record { points = are_points; edges = sym chain_is; sides = sym side_chain }

  pub on_segment : (x : Point) → Member x (meeting_points v g) → is_on_segment g x ≡ true
  unfolding on along
  on_segment x m = (on_new x m).1
