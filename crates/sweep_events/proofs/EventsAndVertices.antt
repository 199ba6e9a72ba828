-- The events of the pieces of a present are its vertices.
use Rattle.std.proofs.Common.{◌≡◌, ℕ, zero, suc, ◌<◌, refl, ap, sym, subst, arith, inl, inr, List, [], ◌∷◌, map, length}
use Rattle.std.specs.Prelude.{◌⊎◌}
use Rattle.exact_plane.specs.Point.{Point}
use Rattle.exact_plane.specs.Span.{Span, IsSpan}
use Rattle.plane_graphs.specs.Ascending.{Member}
use Rattle.plane_graphs.specs.Fit.{IsFit}
use Rattle.plane_graphs.specs.Meaning.{IsVertexOf}
use Rattle.plane_graphs.specs.Piece.{Piece, Present}
use Rattle.present_graphs.specs.Spans.{span_of_piece}
use Rattle.present_graphs.proofs.InRange.{in_range}
use Rattle.present_graphs.proofs.OnSpans.{on_lies, lies_on_piece}
use Rattle.plane_graphs.proofs.Marks.{on_out}
use Rattle.plane_graphs.proofs.Lines.{point_is_proper}
use Rattle.sweep_events.specs.Events.{IsEvent, AreMeeting}
use Rattle.sweep_events.specs.Places.{piece_at, AreSpans}

pub piece_of : (ks : List Piece) (i : ℕ) → i < length (map span_of_piece ks) → (k : Piece) × Member k ks × (piece_at (map span_of_piece ks) i ≡ span_of_piece k)
piece_of [] i h = absurd (omega (arith, h))
piece_of (k ∷ ks) zero h = (k, inl refl, refl)
piece_of (k ∷ ks) (suc i) h = let w = piece_of ks i (omega (arith, h)) in (w.0, inr w.1, w.2)

pub place_of : (ks : List Piece) (k : Piece) → Member k ks → (i : ℕ) × (i < length (map span_of_piece ks)) × (piece_at (map span_of_piece ks) i ≡ span_of_piece k)
place_of [] k m = absurd m
place_of (x ∷ ks) k (inl e) = (0, omega arith, ap span_of_piece (sym e))
place_of (x ∷ ks) k (inr m) = let w = place_of ks k m in (suc w.0, omega (arith, w.1), w.2)

module _ (p : Present) (fit : IsFit p) (spans : (k : Piece) → Member k p.pieces → IsSpan (span_of_piece k)) where
  pub event_is_vertex : (r : Point) → IsEvent (piece_at (map span_of_piece p.pieces)) (length (map span_of_piece p.pieces)) p.pins r → IsVertexOf p r
  event_is_vertex r (inl e) =
      let w = piece_of p.pieces e.place e.within in
      inl (record { piece = w.0; piece_in = w.1; end = ended w.0 (subst (λ (s : Span). (r ≡ s.lower) ⊎ (r ≡ s.upper)) w.2 e.is_end) })
    where
      ended : (k : Piece) → (r ≡ k.from) ⊎ (r ≡ k.to) → (r ≡ k.from) ⊎ (r ≡ k.to)
      ended k h = h
  event_is_vertex r (inr (inl m)) = inr (inl m)
  event_is_vertex r (inr (inr m)) =
      let u = piece_of p.pieces m.one m.one_within in
      let v = piece_of p.pieces m.other m.other_within in
      let a = subst (λ (s : Span). AreMeeting s (span_of_piece v.0) r) u.2 (subst (λ (t : Span). AreMeeting (piece_at (map span_of_piece p.pieces) m.one) t r) v.2 m.meet) in
      inr (inr (record { one = u.0; other = v.0; one_in = u.1; other_in = v.1; lines_differ = a.lines_differ; proper = point_is_proper r a.point; on_one = lies_on_piece u.0 r a.on_first; on_other = lies_on_piece v.0 r a.on_second }))

  pub vertex_is_event : (r : Point) → IsVertexOf p r → IsEvent (piece_at (map span_of_piece p.pieces)) (length (map span_of_piece p.pieces)) p.pins r
  vertex_is_event r (inl e) =
      let w = place_of p.pieces e.piece e.piece_in in
      inl (record { place = w.0; within = w.1; is_end = subst (λ (s : Span). (r ≡ s.lower) ⊎ (r ≡ s.upper)) (sym w.2) e.end })
  vertex_is_event r (inr (inl m)) = inr (inl m)
  vertex_is_event r (inr (inr m)) =
      let u = place_of p.pieces m.one m.one_in in
      let v = place_of p.pieces m.other m.other_in in
      let point = in_range m.one m.other (fit.piece m.one m.one_in) (fit.piece m.other m.other_in) (spans m.one m.one_in) (spans m.other m.other_in) r m.proper (on_out m.one r m.on_one) (on_out m.other r m.on_other) m.lines_differ in
      let a : AreMeeting (span_of_piece m.one) (span_of_piece m.other) r = record { point = point; on_first = on_lies m.one r m.on_one; on_second = on_lies m.other r m.on_other; lines_differ = m.lines_differ } in
      inr (inr (record { one = u.0; other = v.0; one_within = u.1; other_within = v.1; meet = subst (λ (s : Span). AreMeeting s (piece_at (map span_of_piece p.pieces) v.0) r) (sym u.2) (subst (λ (t : Span). AreMeeting (span_of_piece m.one) t r) (sym v.2) a) }))

pub spans_of : (ks : List Piece) → AreSpans (map span_of_piece ks) → (k : Piece) → Member k ks → IsSpan (span_of_piece k)
spans_of ks h k m = let w = place_of ks k m in subst (λ (s : Span). IsSpan s) w.2 (h w.0 w.1)
