use Rattle.std.proofs.Common.{◌≡◌, length}
use Rattle.sweep_events.specs.EventList.{events_left}
use Rattle.sweep_events.specs.Places.{piece_at}
use Rattle.sweep_graphs.specs.Traces.{traced_of, IsTraced}
use Rattle.sweep_graphs.proofs.trace.trace_of.Given as goal

abbrev pub invariant-loop-tracer : goal.invariant-loop-tracer
invariant-loop-tracer l = record {
  pieces : l.sweep.pieces ≡ l.pieces;
  pins : l.sweep.pins ≡ l.pins;
  traced : IsTraced (piece_at l.pieces) (length l.pieces) l.pins l.sweep.last (traced_of l.tracer);
}

abbrev pub decreases-loop-tracer : goal.decreases-loop-tracer
decreases-loop-tracer l = events_left l.sweep
