use Rattle.std.proofs.Common.{◌≡◌}
use Rattle.exact_plane.specs.Segment.{Segment, AreEnds}
use Rattle.exact_plane.specs.Span.{span_of_segment}
use Rattle.piece_zone.proofs.Layers.{AreAsked}
use Rattle.piece_zone.proofs.pieces.meetings_of.Given as goal

abbrev pub invariant-each : goal.invariant-each
invariant-each l = (s : Segment) → AreEnds s → l.whole ≡ span_of_segment s → AreAsked l.records.graph l.history s l.shown l.meetings.items l.name-index
