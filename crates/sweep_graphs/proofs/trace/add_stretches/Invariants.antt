use Rattle.std.proofs.Common.{◌≡◌, ◌++◌, map, take}
use Rattle.sweep_graphs.specs.Traces.{stretch_to}
use Rattle.sweep_graphs.proofs.trace.add_stretches.Given as goal

abbrev pub invariant-loop-piece : goal.invariant-loop-piece
invariant-loop-piece l = l.stretches ≡ l.fn.stretches ++ map (stretch_to l.lasts l.high) (take l.piece-index l.pieces)
