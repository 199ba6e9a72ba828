-- The pieces and pins of each layer stand among those of both.
use Rattle.std.proofs.Common.{◌≡◌, ℕ, suc, ◌+◌, arith, refl, ap, ◌∙◌, List, [], ◌∷◌, ◌++◌, length, map}
use Rattle.std.proofs.lemmas.List.{length-map, length-append, map-append, get_or_append_left, get_or-append-add}
use Rattle.exact_plane.specs.Point.{Point}
use Rattle.exact_plane.specs.PointOrder.{point_cmp}
use Rattle.exact_plane.specs.PointOrderLaws.{point_cmp_total, same_point as point_cmp_exact}
use Rattle.exact_plane.specs.Span.{Span}
use Rattle.plane_graphs.specs.Ascending.{Member}
use Rattle.plane_graphs.specs.Piece.{Piece, Present}
use Rattle.plane_graphs.proofs.Lists.{in_ascending, in_left, in_right}
use Rattle.present_graphs.specs.Spans.{span_of_piece}
use Rattle.present_graphs.proofs.Numbering.{length_numbered}
use Rattle.overlay_laws.specs.United.{numbered_from, united}
use Rattle.sweep_events.specs.Places.{piece_at, nowhere}
use Rattle.overlay_sweep.specs.LayerGraphs.{ArePiecesFrom}

-- numbers change no span
numbered_spans : (n : ℕ) (ks : List Piece) → map span_of_piece (numbered_from n ks) ≡ map span_of_piece ks
numbered_spans n [] = refl
numbered_spans n (k ∷ ks) = ap (λ ss. span_of_piece k ∷ ss) (numbered_spans (suc n) ks)

module _ (red blue : Present) where
  abbrev red_spans : List Span
  red_spans = map span_of_piece red.pieces

  abbrev blue_spans : List Span
  blue_spans = map span_of_piece blue.pieces

  united_spans : map span_of_piece (united red blue).pieces ≡ red_spans ++ blue_spans
  unfolding united
  united_spans = numbered_spans 0 (red.pieces ++ blue.pieces) ∙ map-append span_of_piece red.pieces blue.pieces

  counted : length (united red blue).pieces ≡ length red.pieces + length blue.pieces
  unfolding united
  counted = length_numbered 0 (red.pieces ++ blue.pieces) ∙ length-append red.pieces blue.pieces

  pin_in : (r : Point) → Member r (red.pins ++ blue.pins) → Member r (united red blue).pins
  unfolding united
  pin_in r m = in_ascending point_cmp point_cmp_total point_cmp_exact r (red.pins ++ blue.pins) m

  pub red_pieces : ArePiecesFrom 0 red (united red blue)
  red_pieces = record {
    within = let n = counted in omega arith;
    same = λ i l.
        let n = length-map red.pieces span_of_piece in
        let start : 0 + i ≡ i = omega arith in
        ap (λ j. piece_at (map span_of_piece (united red blue).pieces) j) start ∙ ap (λ ss. piece_at ss i) united_spans ∙ get_or_append_left red_spans blue_spans nowhere i (omega arith);
    pins = λ r m. pin_in r (in_left r red.pins blue.pins m);
  }

  pub blue_pieces : ArePiecesFrom (length red.pieces) blue (united red blue)
  blue_pieces = record {
    within = let n = counted in omega arith;
    same = λ i l.
        let n = length-map red.pieces span_of_piece in
        let start : length red.pieces + i ≡ length red_spans + i = omega arith in
        ap (λ j. piece_at (map span_of_piece (united red blue).pieces) j) start ∙ ap (λ ss. piece_at ss (length red_spans + i)) united_spans ∙ get_or-append-add red_spans blue_spans i nowhere;
    pins = λ r m. pin_in r (in_right r red.pins blue.pins m);
  }
