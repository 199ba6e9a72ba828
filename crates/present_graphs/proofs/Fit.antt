-- What a fit piece makes.
use Rattle.exact_plane.specs.Segment.{line_of_segment}
use Rattle.exact_plane.specs.Span.{AreOnWay}
use Rattle.plane_graphs.specs.Fit.{IsFitPiece}
use Rattle.plane_graphs.specs.Piece.{Piece}
use Rattle.plane_graphs.proofs.Lines.{along_out}
use Rattle.plane_graphs.proofs.Order.{lt_out}

pub piece_way : (k : Piece) → IsFitPiece k → AreOnWay k.from k.to (line_of_segment k.segment)
piece_way k h = record { ascending = (lt_out k.from k.to h.forward).is; lower_on = along_out k k.from h.from_on; upper_on = along_out k k.to h.to_on }
