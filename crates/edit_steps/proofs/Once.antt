-- No piece stands twice in a present that edits have made.
use Rattle.std.proofs.Common.{◌≡◌, ℕ, suc, List, [], ◌∷◌, ◌++◌, Bool, true, false, not, ◌&&◌, cond, sym, ap, refl, ◌∙◌, subst, inl, inr, ⊎_elim, arith}
use Rattle.std.specs.List.{list_any, filter, flat_map}
use Rattle.exact_plane.specs.Point.{Point}
use Rattle.exact_plane.specs.PointOrderLaws.{and_true}
use Rattle.exact_plane.specs.Segment.{Segment}
use Rattle.plane_graphs.specs.Ascending.{Member}
use Rattle.plane_graphs.specs.Fit.{IsFit}
use Rattle.plane_graphs.specs.Graph.{graph, is_at, marks, vertices, same_curve}
use Rattle.plane_graphs.specs.Line.{precedes, same_point}
use Rattle.plane_graphs.specs.Piece.{Piece, Present, on}
use Rattle.edit_steps.specs.Edits.{Edit, Insert, Drop, Cut, Pin, Unpin, Split, Merge, ClearAll, sides_from, path_pieces, IsAccepted, after}
use Rattle.edit_steps.specs.Layer.{ArePiecesOnce}
use Rattle.edit_steps.specs.Steps.{cut_piece, with_cut}
use Rattle.plane_graphs.proofs.Lists.{any_none, any_out, in_either, in_left, in_flat_map, of_filter, of_flat_map}
use Rattle.plane_graphs.proofs.Marks.{le_same, le_lt, On, on_in, mark_out}
use Rattle.plane_graphs.proofs.Order.{Lt, lt_out, lt_both, same_out, curve_in}
use Rattle.edit_steps.proofs.Cuts.{IsPart, parent, source_out, part_on}
use Rattle.edit_steps.proofs.Laws.{keeps_fit, of_curve, side_out}

-- ---- lists
once_append : (ks js : List Piece) → ArePiecesOnce ks → ArePiecesOnce js → ((k : Piece) → Member k ks → Member k js → ⊥) → ArePiecesOnce (ks ++ js)
once_append [] js a b c = b
once_append (k ∷ ks) js a b c = (λ m. ⊎_elim a.0 (c k (inl refl)) (in_either k ks js m), once_append ks js a.1 b (λ j m. c j (inr m)))

once_kept : (t : Bool) (k : Piece) (js : List Piece) → (Member k js → ⊥) → ArePiecesOnce js → ArePiecesOnce (cond t (k ∷ js) js)
once_kept true k js n o = (n, o)
once_kept false k js n o = o

once_filter : (p : Piece → Bool) (ks : List Piece) → ArePiecesOnce ks → ArePiecesOnce (filter p ks)
once_filter p [] a = tt
once_filter p (k ∷ ks) a = once_kept (p k) k (filter p ks) (λ m. a.0 (of_filter p k ks m).0) (once_filter p ks a.1)

-- ---- the sides of a new curve have numbers of their own
once_sides : (c j : ℕ) (ss : List Segment) → ArePiecesOnce (sides_from c j ss)
once_sides c j [] = tt
once_sides c j (s ∷ ss) = (λ m. (let f = (side_out c (suc j) ss _ m).from_first in absurd (omega arith)), once_sides c (suc j) ss)

-- ---- what a cut leaves
cut_apart : (t u v : Bool) (x y k : Piece) → (v ≡ true → x ≡ y → ⊥) → ArePiecesOnce (cond t (cond u (x ∷ []) [] ++ cond v (y ∷ []) []) (k ∷ []))
cut_apart true true true x y k d = (λ m. ⊎_elim (d refl) (λ z. z) m, (λ z. z, tt))
cut_apart true true false x y k d = (λ z. z, tt)
cut_apart true false true x y k d = (λ z. z, tt)
cut_apart true false false x y k d = tt
cut_apart false u v x y k d = (λ z. z, tt)

module _ (p : Present) (fit : IsFit p) (a b : Point) (lt : Lt a b) (left : IsFit (with_cut p a b)) where
  part_of : (k j : Piece) → Member j (cut_piece a b k) → IsPart j k
  part_of k j m =
      let q = parent a b (k ∷ []) j (source_out a b (k ∷ []) j (in_left j (cut_piece a b k) [] m)) in
      subst (IsPart j) (⊎_elim (λ e. e) (λ z. absurd z) q.here) q.part

  -- two pieces that leave the same part are one
  same_whole : (k m j : Piece) → Member k p.pieces → Member m p.pieces → Member j (cut_piece a b k) → Member j (cut_piece a b m) → k ≡ m
  same_whole k m j K M ik im =
      let x = part_of k j ik in
      let y = part_of m j im in
      let f = left.piece j (in_flat_map (cut_piece a b) k j p.pieces K ik) in
      let o : On j j.from = record { line = f.from_on; low = le_same j.from; high = le_lt (lt_out j.from j.to f.forward) } in
      fit.one_piece k m K M (sym x.curve ∙ y.curve, sym x.side ∙ y.side) j.from f.from (on_in k j.from (part_on j k x j.from o)) (on_in m j.from (part_on j m y j.from o))

  once_at : (k : Piece) → ArePiecesOnce (cut_piece a b k)
  unfolding cut_piece
  once_at k =
      cut_apart (on k a && on k b) (precedes k.from a) (precedes b k.to) (record k { to = a }) (record k { from = b }) k
      (λ v e. lt_both lt (subst (λ z. Lt b z) (sym (ap (λ (z : Piece). z.to) e)) (lt_out b k.to v)))

  once_cut : (ks : List Piece) → ((k : Piece) → Member k ks → Member k p.pieces) → ArePiecesOnce ks → ArePiecesOnce (flat_map (cut_piece a b) ks)
  once_cut [] sub o = tt
  once_cut (k ∷ ks) sub o =
      once_append (cut_piece a b k) (flat_map (cut_piece a b) ks) (once_at k) (once_cut ks (λ j m. sub j (inr m)) o.1)
      (λ j m n. let w = of_flat_map (cut_piece a b) j ks n in o.0 (subst (λ z. Member z ks) (sym (same_whole k w.0 j (sub k (inl refl)) (sub w.0 (inr w.1)) m w.2)) w.1))

-- the ends of an edge, in order
edge_ahead : (p : Present) (a b : Point) → list_any (is_at a b) (graph p).marks ≡ true → Lt a b
unfolding graph
edge_ahead p a b h =
    let m = any_out (is_at a b) (marks (vertices p) p.pieces) h in
    let w = and_true (same_point m.0.low a) (same_point m.0.high b) m.2 in
    subst (λ z. Lt a z) (same_out m.0.high b w.1) (subst (λ z. Lt z m.0.high) (same_out m.0.low a w.0) (mark_out (vertices p) p.pieces m.0 m.1).next.lt)

-- ---- edits
pub pieces_stay_once : (e : Edit) (p : Present) → IsFit p → IsAccepted e p → ArePiecesOnce p.pieces → ArePiecesOnce (after e p).pieces
unfolding after IsAccepted
pieces_stay_once (Insert c ss) p fit h o =
    once_append p.pieces (path_pieces c ss) o (once_sides c 1 ss)
    (λ k m n. any_none (λ j. same_curve j.curve c) k p.pieces h.fresh m (curve_in k.curve c (of_curve c ss k n)))
pieces_stay_once (Drop c) p fit h o = once_filter (λ k. not (same_curve k.curve c)) p.pieces o
pieces_stay_once (Cut a b) p fit h o = once_cut p fit a b (edge_ahead p a b h) (keeps_fit (Cut a b) p fit h) p.pieces (λ k m. m) o
pieces_stay_once (Pin r) p fit h o = o
pieces_stay_once (Unpin r) p fit h o = o
pieces_stay_once (Split a b r) p fit h o = o
pieces_stay_once (Merge r) p fit h o = o
pieces_stay_once ClearAll p fit h o = tt
