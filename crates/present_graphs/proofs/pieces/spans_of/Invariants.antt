use Rattle.std.proofs.Common.{◌≡◌, map, take}
use Rattle.slab_laws.specs.Pieces.{piece_of}
use Rattle.present_graphs.specs.Spans.{span_of_piece, AreSpans}
use Rattle.present_graphs.proofs.pieces.spans_of.Given as goal

abbrev pub invariant-loop-piece : goal.invariant-loop-piece
invariant-loop-piece l = record {
  items : l.spans.items ≡ map span_of_piece (take l.piece-index (map piece_of l.pieces));
  spans : AreSpans l.spans.items;
}
