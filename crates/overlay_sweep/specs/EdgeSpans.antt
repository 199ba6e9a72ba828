-- Edges as parts of the lines of the pieces that run along them.
use Rattle.std.specs.Prelude.{◌<◌, List, length}
use Rattle.exact_plane.specs.Point.{Point}
use Rattle.exact_plane.specs.Span.{Span, AreOnWay}
use Rattle.plane_graphs.specs.Ascending.{Member}
use Rattle.sweep_events.specs.Places.{piece_at}
use Rattle.sweep_graphs.specs.declared.edges.EdgeEnds.{EdgeEnds}
use Rattle.sweep_graphs.specs.declared.trace.Stretch.{Stretch}
use Rattle.sweep_graphs.specs.Traces.{point_at}
use Rattle.overlay_sweep.specs.PiecesAlong.{IsAlongSome}

-- both vertices of a stretch are on the line of its piece, the lower one first (Fogel, Halperin and Wein: a subcurve)
pub record IsOnLine (pieces : List Span) (points : List Point) (s : Stretch) : Type 0 where
  pub low_in : s.low < length points
  pub high_in : s.high < length points
  pub piece_in : s.piece < length pieces
  pub way : AreOnWay (point_at points s.low) (point_at points s.high) (piece_at pieces s.piece).line

-- those of each are
abbrev pub AreOnLines : List Span → List Point → List Stretch → Type 0
AreOnLines pieces points stretches = (s : Stretch) → Member s stretches → IsOnLine pieces points s

-- one of the stretches runs along each of the edges
abbrev pub AreAlongSome : List Stretch → List EdgeEnds → Type 0
AreAlongSome stretches es = (e : EdgeEnds) → Member e es → IsAlongSome stretches e
