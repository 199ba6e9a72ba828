-- The points that the spans of two pieces share are the model's meetings, and so the points that were gathered are the vertices.
use Rattle.std.proofs.Common.{◌≡◌, List, ◌++◌, map, sym, ap, ◌∙◌, subst, inl, inr, ⊎_elim}
use Rattle.std.specs.List.{flat_map}
use Rattle.exact_plane.specs.Point.{Point}
use Rattle.exact_plane.specs.PointOrder.{point_cmp}
use Rattle.exact_plane.specs.PointOrderLaws.{point_cmp_total, same_point as point_cmp_exact}
use Rattle.exact_plane.specs.Span.{Span, LiesOn}
use Rattle.plane_graphs.specs.Ascending.{ascending, Member}
use Rattle.plane_graphs.specs.Fit.{IsFit}
use Rattle.plane_graphs.specs.Graph.{vertices, ends}
use Rattle.plane_graphs.specs.Meaning.{IsMeeting, IsVertexOf}
use Rattle.plane_graphs.specs.Piece.{Present}
use Rattle.plane_graphs.proofs.Ascending.{ascending_unique, IsAscending-ascending}
use Rattle.plane_graphs.proofs.Lines.{point_is_proper}
use Rattle.plane_graphs.proofs.Lists.{in_map, of_map, in_left, in_right, in_either, in_flat_map, of_flat_map, of_ascending, in_ascending}
use Rattle.plane_graphs.proofs.Marks.{on_out}
use Rattle.plane_graphs.proofs.Meaning.{vertices_are}
use Rattle.plane_graphs.proofs.Vertices.{vertices_ascend}
use Rattle.present_graphs.specs.Shared.{IsSharedByTwo, IsGrownBy}
use Rattle.present_graphs.specs.Spans.{span_of_piece, AreSpans}
use Rattle.present_graphs.proofs.InRange.{in_range}
use Rattle.present_graphs.proofs.OnSpans.{on_lies, lies_on_piece}

module _ (p : Present) (fit : IsFit p) (spans : AreSpans (map span_of_piece p.pieces)) where
  meets : (x : Point) → IsSharedByTwo (map span_of_piece p.pieces) x → IsMeeting p x
  meets x (s, m, (t, n, h)) =
      let a = of_map span_of_piece s p.pieces m in
      let b = of_map span_of_piece t p.pieces n in
      record {
        one = a.0;
        other = b.0;
        one_in = a.1;
        other_in = b.1;
        lines_differ = λ e. h.lines_differ (ap (λ (u : Span). u.line) a.2 ∙ e ∙ sym (ap (λ (u : Span). u.line) b.2));
        proper = point_is_proper x h.point;
        on_one = lies_on_piece a.0 x (subst (λ (u : Span). LiesOn u x) a.2 h.on_first);
        on_other = lies_on_piece b.0 x (subst (λ (u : Span). LiesOn u x) b.2 h.on_second);
      }

  shared : (x : Point) → IsMeeting p x → IsSharedByTwo (map span_of_piece p.pieces) x
  shared x h =
      let a = in_map span_of_piece h.one p.pieces h.one_in in
      let b = in_map span_of_piece h.other p.pieces h.other_in in (
        span_of_piece h.one,
        a,
        (
          span_of_piece h.other,
          b,
          record {
            lines_differ = h.lines_differ;
            point = in_range h.one h.other (fit.piece h.one h.one_in) (fit.piece h.other h.other_in) (spans (span_of_piece h.one) a) (spans (span_of_piece h.other) b) x h.proper (on_out h.one x h.on_one) (on_out h.other x h.on_other) h.lines_differ;
            on_first = on_lies h.one x h.on_one;
            on_second = on_lies h.other x h.on_other;
          },
        ),
      )

  -- the ends of the pieces, the pins, and what the spans share
  module _ (old new : List Point) (was : old ≡ flat_map ends p.pieces ++ p.pins) (grown : IsGrownBy (IsSharedByTwo (map span_of_piece p.pieces)) old new) where
    is_vertex : (x : Point) → Member x new → IsVertexOf p x
    unfolding ends
    is_vertex x m =
        ⊎_elim
        (λ h. ⊎_elim
        (λ g. let w = of_flat_map ends x p.pieces g in inl (record { piece = w.0; piece_in = w.1; end = ⊎_elim (λ e. inl e) (λ e. ⊎_elim (λ i. inr i) (λ z. absurd z) e) w.2 }))
        (λ g. inr (inl g))
        (in_either x (flat_map ends p.pieces) p.pins (subst (λ xs. Member x xs) was h)))
        (λ h. inr (inr (meets x h)))
        (grown.only x m)

    has_vertex : (x : Point) → IsVertexOf p x → Member x new
    unfolding ends
    has_vertex x (inl e) =
        let at_end : Member x (ends e.piece) = ⊎_elim (λ i. inl i) (λ i. inr (inl i)) e.end in
        grown.kept x (subst (λ xs. Member x xs) (sym was) (in_left x (flat_map ends p.pieces) p.pins (in_flat_map ends e.piece x p.pieces e.piece_in at_end)))
    has_vertex x (inr (inl m)) = grown.kept x (subst (λ xs. Member x xs) (sym was) (in_right x (flat_map ends p.pieces) p.pins m))
    has_vertex x (inr (inr h)) = grown.added x (shared x h)

    pub vertices_done : ascending point_cmp new ≡ vertices p
    vertices_done =
        ascending_unique point_cmp point_cmp_total (ascending point_cmp new) (vertices p) (IsAscending-ascending point_cmp point_cmp_total new) (vertices_ascend p)
        (λ x m. (vertices_are p x fit).1 (is_vertex x (of_ascending point_cmp point_cmp_total point_cmp_exact x new m)))
        (λ x m. in_ascending point_cmp point_cmp_total point_cmp_exact x new (has_vertex x ((vertices_are p x fit).0 m)))
