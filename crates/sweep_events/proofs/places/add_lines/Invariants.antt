use Rattle.std.proofs.Common.{◌≡◌, ◌++◌, map, take}
use Rattle.sweep_events.specs.Runs.{placed_line}
use Rattle.sweep_events.proofs.places.add_lines.Given as goal

abbrev pub invariant-loop-place : goal.invariant-loop-place
invariant-loop-place l = l.lines.items ≡ l.fn.lines.items ++ map (placed_line l.pieces) (take l.place-index l.places)
