use Rattle.std.proofs.Common.{◌≡◌, ℕ, ◌<◌, take}
use Rattle.exact_plane.specs.Span.{IsSpan}
use Rattle.sweep_events.specs.Places.{piece_at}
use Rattle.sweep_events.proofs.StartList.{starts_from}
use Rattle.sweep_events.proofs.places.starts_of.Given as goal

abbrev pub invariant-loop-piece : goal.invariant-loop-piece
invariant-loop-piece l = record {
  items : l.starts.items ≡ starts_from 0 (take l.piece-index l.pieces);
  spans : (j : ℕ) → j < l.piece-index → IsSpan (piece_at l.pieces j);
}
