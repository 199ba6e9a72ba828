-- The vertices with several new pieces.
use Rattle.std.proofs.Common.{◌≡◌, ◌∙◌, Bool, not, true, ap, List, [], ◌∷◌, ◌++◌, refl, sym, subst, inl, inr, ◌⊎◌, ⊎_elim}
use Rattle.std.specs.List.{list_any, filter, flat_map}
use Rattle.exact_plane.specs.Point.{Point}
use Rattle.exact_plane.specs.PointOrder.{point_cmp}
use Rattle.plane_graphs.specs.Ascending.{Member, ascending}
use Rattle.plane_graphs.specs.Piece.{Piece, Present, on}
use Rattle.plane_graphs.specs.Line.{same_point}
use Rattle.plane_graphs.specs.Fit.{IsFit, IsFitPiece}
use Rattle.plane_graphs.specs.Graph.{Mark, mark_cmp, vertices, marks, chain}
use Rattle.edit_steps.specs.Steps.{with_pieces, with_piece, missing_points}
use Rattle.edit_steps.specs.EditLaws.{IsSelfMeeting, IsOfOne, VerticesTogether, ArePathPoints, PathPointsTell}
use Rattle.plane_graphs.proofs.Lists.{in_either, in_left, in_right, not_out, decide, any_out, any_none, in_filter, of_filter, IsAscending-filter, in_flat_map, of_flat_map, in_ascending, of_ascending}
use Rattle.plane_graphs.proofs.Vertices.{IsVertex, IsCrossing, vertex_in, vertex_out, vertices_ascend, common_in, common_out}
use Rattle.plane_graphs.proofs.Vertices.IsVertex.{begins, finishes, pinned, crossed}
use Rattle.plane_graphs.proofs.Ascending.{ascending_unique, IsAscending-ascending}
use Rattle.plane_graphs.proofs.Order.{same_out, same_itself, mark_cmp_total, mark_cmp_exact}
use Rattle.plane_graphs.proofs.Marks.{mark_out, mark_in, marks_ascend}
use Rattle.plane_graphs.proofs.Edges.{chain_is}
use Rattle.edit_steps.proofs.Folds.{points_same}
use Rattle.edit_steps.proofs.Vertices.{vertices_change}
use Rattle.edit_steps.proofs.Edits.{vertices_more}

module _ (p : Present) (js : List Piece) (x : Point) where
  abbrev Found : Type 0
  Found = Member x (vertices p) ⊎ (IsOfOne p js x ⊎ IsSelfMeeting js x)

  old : (k : Piece) → Member k p.pieces → (j : Piece) → Member k (p.pieces ++ (j ∷ []))
  old k h j = in_left k p.pieces (j ∷ []) h

  new : (j : Piece) → Member j (p.pieces ++ (j ∷ []))
  new j = in_right j p.pieces (j ∷ []) (inl refl)

  with_one : (j : Piece) → Member j js → IsVertex (with_piece p j) x → Found
  with_one j h v = inr (inl (record { piece = j; piece_in = h; vertex = vertex_in (with_piece p j) x v }))

  found : IsVertex (with_pieces p js) x → Found
  found (begins k h e) = ⊎_elim (λ i. inl (vertex_in p x (begins k i e))) (λ i. with_one k i (begins k (new k) e)) (in_either k p.pieces js h)
  found (finishes k h e) = ⊎_elim (λ i. inl (vertex_in p x (finishes k i e))) (λ i. with_one k i (finishes k (new k) e)) (in_either k p.pieces js h)
  found (pinned h) = inl (vertex_in p x (pinned h))
  found (crossed c) =
      let met : (q : Present) → Member c.one q.pieces → Member c.other q.pieces → IsCrossing q x = λ q a b. record { one = c.one; other = c.other; one_here = a; other_here = b; apart = c.apart; on_one = c.on_one; on_other = c.on_other; is = c.is } in
      ⊎_elim
      (λ i. ⊎_elim
      (λ j. inl (vertex_in p x (crossed (met p i j))))
      (λ j. with_one c.other j (crossed (met (with_piece p c.other) (old c.one i c.other) (new c.other))))
      (in_either c.other p.pieces js c.other_here))
      (λ i. ⊎_elim
      (λ j. with_one c.one i (crossed (met (with_piece p c.one) (new c.one) (old c.other j c.one))))
      (λ j. inr (inr (record { one = c.one; other = c.other; one_in = i; other_in = j; common = common_in (with_pieces p js) x c })))
      (in_either c.other p.pieces js c.other_here))
      (in_either c.one p.pieces js c.one_here)

  grown : (j : Piece) → Member j js → (k : Piece) → Member k (with_piece p j).pieces → Member k (with_pieces p js).pieces
  grown j h k i = ⊎_elim (λ m. in_left k p.pieces js m) (λ m. ⊎_elim (λ e. in_right k p.pieces js (subst (λ z. Member z js) (sym e) h)) (λ z. absurd z) m) (in_either k p.pieces (j ∷ []) i)

  there : Found → Member x (vertices (with_pieces p js))
  there (inl m) = vertices_more p (with_pieces p js) (λ k h. in_left k p.pieces js h) (λ r h. h) x m
  there (inr (inl o)) = vertices_more (with_piece p o.piece) (with_pieces p js) (grown o.piece o.piece_in) (λ r h. h) x o.vertex
  there (inr (inr s)) = vertex_in (with_pieces p js) x (common_out (with_pieces p js) x s.one s.other (in_right s.one p.pieces js s.one_in) (in_right s.other p.pieces js s.other_in) s.common)

pub vertices_together : VerticesTogether
vertices_together = record { are = λ p js x m. found p js x (vertex_out (with_pieces p js) x m); all = there }

module _ (p : Present) (js : List Piece) (ps : List Point) (fit : IsFit (with_pieces p js)) (a : ArePathPoints p js ps) where
  abbrev q : Present
  q = with_pieces p js

  side_fit : (k : Piece) → Member k js → IsFitPiece k
  side_fit k h = fit.piece k (in_right k p.pieces js h)

  stays : (k : Piece) (x : Point) → Member x (vertices p) → Member x (vertices (with_piece p k))
  stays k x m = vertices_change.stay p k x m

  -- a new vertex that was none, or is on a side, is there
  come : (x : Point) → Member x (vertices q) → (Member x (vertices p) → ⊥) → Member x ps
  come x m new = ⊎_elim (λ i. absurd (new i)) (λ i. ⊎_elim
      (λ o. let f = side_fit o.piece o.piece_in in a.each o.piece x o.piece_in o.vertex (vertices_change.come p o.piece x f.from_on f.to_on f.forward o.vertex new))
      (λ s. a.own x s) i) (vertices_together.are p js x m)

  on_side : (k : Piece) → Member k js → (x : Point) → Member x (vertices q) → on k x ≡ true → Member x ps
  on_side k h x m o = ⊎_elim
      (λ e. let w = any_out (same_point x) (vertices p) e in a.each k x h (stays k x (subst (λ z. Member z (vertices p)) (sym (same_out x w.0 w.2)) w.1)) o)
      (λ e. come x m (λ n. any_none (same_point x) x (vertices p) e n (same_itself x))) (decide (list_any (same_point x) (vertices p)))

  same_missing : missing_points ps (vertices p) ≡ missing_points (vertices q) (vertices p)
  unfolding missing_points
  same_missing =
      let f : Point → Bool = λ x. not (list_any (same_point x) (vertices p)) in
      points_same (filter f ps) (filter f (vertices q)) (IsAscending-filter point_cmp f ps a.ascend) (IsAscending-filter point_cmp f (vertices q) (vertices_ascend q))
      (λ x m. let w = of_filter f x ps m in in_filter f x (vertices q) (a.only x w.0) w.1)
      (λ x m. let w = of_filter f x (vertices q) m in in_filter f x ps (come x w.0 (λ n. any_none (same_point x) x (vertices p) (not_out (list_any (same_point x) (vertices p)) w.1) n (same_itself x))) w.1)

  same_on : (k : Piece) → Member k js → filter (on k) (vertices q) ≡ filter (on k) ps
  same_on k h =
      points_same (filter (on k) (vertices q)) (filter (on k) ps) (IsAscending-filter point_cmp (on k) (vertices q) (vertices_ascend q)) (IsAscending-filter point_cmp (on k) ps a.ascend)
      (λ x m. let w = of_filter (on k) x (vertices q) m in in_filter (on k) x ps (on_side k h x w.0 w.1) w.1)
      (λ x m. let w = of_filter (on k) x ps m in in_filter (on k) x (vertices q) (a.only x w.0) w.1)

  chain_of : (k : Piece) → Member k js → marks (vertices q) (k ∷ []) ≡ chain k.curve (filter (on k) ps)
  chain_of k h = chain_is (vertices q) (vertices_ascend q) k ∙ ap (chain k.curve) (same_on k h)

  same_marks : marks (vertices q) js ≡ ascending mark_cmp (flat_map (λ k. chain k.curve (filter (on k) ps)) js)
  same_marks =
      let vs : List Point = vertices q in
      let cs : List Mark = flat_map (λ k. chain k.curve (filter (on k) ps)) js in
      ascending_unique mark_cmp mark_cmp_total (marks vs js) (ascending mark_cmp cs) (marks_ascend vs js) (IsAscending-ascending mark_cmp mark_cmp_total cs)
      (λ m h.
      let i = mark_out vs js m h in
      let one : Member m (marks vs (i.piece ∷ [])) = mark_in vs (i.piece ∷ []) m (record { piece = i.piece; here = inl refl; curve = i.curve; low_in = i.low_in; high_in = i.high_in; next = i.next }) in
      in_ascending mark_cmp mark_cmp_total mark_cmp_exact m cs (in_flat_map (λ k. chain k.curve (filter (on k) ps)) i.piece m js i.here (subst (Member m) (chain_of i.piece i.here) one)))
      (λ m h.
      let w = of_flat_map (λ k. chain k.curve (filter (on k) ps)) m js (of_ascending mark_cmp mark_cmp_total mark_cmp_exact m cs h) in
      let i = mark_out vs (w.0 ∷ []) m (subst (Member m) (sym (chain_of w.0 w.1)) w.2) in
      let is : i.piece ≡ w.0 = ⊎_elim (λ e. e) (λ z. absurd z) i.here in
      mark_in vs js m (record { piece = i.piece; here = subst (λ z. Member z js) (sym is) w.1; curve = i.curve; low_in = i.low_in; high_in = i.high_in; next = i.next }))

pub path_points_tell : PathPointsTell
path_points_tell = record { missing = same_missing; marks = same_marks }
