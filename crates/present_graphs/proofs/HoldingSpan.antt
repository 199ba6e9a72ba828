-- The span that holds an edge.
use Rattle.std.proofs.Common.{◌≡◌, ℕ, ◌+◌, ◌<◌, List, [], ◌∷◌, map, length, take, get_or, Bool, true, false, ◌&&◌, refl, sym, ap, ◌∙◌, subst, ⊎_elim}
use Rattle.exact_plane.specs.Point.{Point}
use Rattle.exact_plane.specs.Segment.{line_of_segment}
use Rattle.exact_plane.specs.Span.{Span, AreOnWay}
use Rattle.exact_plane.specs.PointOrderLaws.{and_true}
use Rattle.plane_graphs.specs.Ascending.{Member, IsAscending}
use Rattle.plane_graphs.specs.Fit.{IsFit}
use Rattle.plane_graphs.specs.Graph.{Mark, mark_cmp, graph, vertices}
use Rattle.plane_graphs.specs.Line.{IsProper, are_parallel}
use Rattle.plane_graphs.specs.Piece.{Piece, Present, along, on}
use Rattle.plane_graphs.proofs.Lines.{geometry, crossing_is, same_numbers}
use Rattle.plane_graphs.proofs.Lists.{and_in, clash, in_either, in_map, of_map}
use Rattle.plane_graphs.proofs.Marks.{on_out, on_in, mark_out, marks_ascend}
use Rattle.plane_graphs.proofs.Order.{Lt, lt_out, lt_in, lt_never}
use Rattle.plane_graphs.proofs.Vertices.{IsProperPiece, proper_piece, vertices_closed}
use Rattle.present_graphs.specs.Edges.{IsOnSpan, HasSpan, IsAlong}
use Rattle.present_graphs.specs.Spans.{span_of_piece, lies_on}
use Rattle.plane_graphs.proofs.Loops.{take_next}
use Rattle.present_graphs.proofs.OnSpans.{lies_on-is, lies_on_out}

-- ---- the search for one
-- none of the spans holds the mark's edge
abbrev pub NoneHolds : List Span → Mark → Type 0
NoneHolds ss m = (s : Span) → Member s ss → IsOnSpan s m → ⊥

pub one_passed : (ss : List Span) (i : ℕ) (s : Span) (m : Mark) → i < length ss → s ≡ get_or ss i s → NoneHolds (take i ss) m → (IsOnSpan s m → ⊥) → NoneHolds (take (i + 1) ss) m
one_passed ss i s m h e none free t n o =
    ⊎_elim (λ a. none t a o) (λ a. ⊎_elim (λ j. free (subst (λ u. IsOnSpan u m) j o)) (λ z. absurd z) a) (in_either t (take i ss) (s ∷ []) (subst (λ us. Member t us) (take_next ss i s h e) n))

-- the test of the mark's ends
module _ (s : Span) (m : Mark) (b : Bool) (is : b ≡ lies_on s m.low && lies_on s m.high) where
  pub told_on : b ≡ true → IsOnSpan s m
  told_on h = let w = and_true (lies_on s m.low) (lies_on s m.high) (sym is ∙ h) in record { low_on = w.0; high_on = w.1 }

  pub told_off : b ≡ false → IsOnSpan s m → ⊥
  told_off h o = clash (is ∙ and_in o.low_on o.high_on) h

pub mark_way : (ss : List Span) (s : Span) (m : Mark) → HasSpan ss m → IsOnSpan s m → AreOnWay m.low m.high s.line
mark_way ss s m has o = record { ascending = (lt_out m.low m.high has.forward).is; lower_on = (lies_on_out s m.low o.low_on).on; upper_on = (lies_on_out s m.high o.high_on).on }

pub graph_ascends : (p : Present) → IsAscending mark_cmp (graph p).marks
unfolding graph
graph_ascends p = marks_ascend (vertices p) p.pieces

-- ---- a mark of the graph has one
pub has_span : (p : Present) (m : Mark) → Member m (graph p).marks → HasSpan (map span_of_piece p.pieces) m
unfolding graph
has_span p m h =
    let o = mark_out (vertices p) p.pieces m h in
    let k = o.piece in
    record {
      forward = lt_in o.next.lt;
      whole = span_of_piece k;
      whole_in = in_map span_of_piece k p.pieces o.here;
      holds = record { low_on = lies_on-is k m.low ∙ on_in k m.low o.next.at_p; high_on = lies_on-is k m.high ∙ on_in k m.high o.next.at_q };
    }

-- ---- and all pieces that hold it have one line
module _ (k l : Piece) (hk : IsProperPiece k) (hl : IsProperPiece l) (p q : Point) (pp : IsProper p) (pq : IsProper q) (lt : Lt p q) (kp : along k p ≡ true) (lp : along l p ≡ true) (kq : along k q ≡ true) (lq : along l q ≡ true) where
  pub one_line : line_of_segment k.segment ≡ line_of_segment l.segment
  one_line = by (are_parallel (line_of_segment k.segment) (line_of_segment l.segment)) refl
    where
      by : (b : Bool) → are_parallel (line_of_segment k.segment) (line_of_segment l.segment) ≡ b → line_of_segment k.segment ≡ line_of_segment l.segment
      by true e = same_numbers k l hk hl e p pp kp lp
      by false e = absurd (lt_never (subst (λ r. Lt p r) (crossing_is k l hk hl e q pq kq lq ∙ sym (crossing_is k l hk hl e p pp kp lp)) lt))

pub along_all : (p : Present) (fit : IsFit p) (m : Mark) → Member m (graph p).marks → (s : Span) → IsAlong (map span_of_piece p.pieces) m s → (k : Piece) → Member k p.pieces → on k s.lower ≡ true → on k s.upper ≡ true → s.line ≡ line_of_segment k.segment
unfolding graph
along_all p fit m h s a k n low high =
    let o = mark_out (vertices p) p.pieces m h in
    let cl = vertices_closed geometry p fit in
    let w = of_map span_of_piece a.whole p.pieces a.whole_in in
    let l = w.0 in
    let is : a.whole ≡ span_of_piece w.0 = w.2 in
    let x = on_out l m.low (sym (lies_on-is l m.low) ∙ subst (λ (t : Span). lies_on t m.low ≡ true) is a.holds.low_on) in
    let y = on_out l m.high (sym (lies_on-is l m.high) ∙ subst (λ (t : Span). lies_on t m.high ≡ true) is a.holds.high_on) in
    let u = on_out k m.low (subst (λ r. on k r ≡ true) a.lower low) in
    let v = on_out k m.high (subst (λ r. on k r ≡ true) a.upper high) in
    a.line ∙ ap (λ (t : Span). t.line) is
    ∙ one_line l k (proper_piece l (fit.piece l w.1)) (proper_piece k (fit.piece k n)) m.low m.high (cl.proper m.low o.low_in) (cl.proper m.high o.high_in) o.next.lt x.line u.line y.line v.line
