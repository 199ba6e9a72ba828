use Rattle.std.proofs.Common.{◌≡◌, map, take}
use Rattle.sweep_events.specs.declared.places.PlacedLine.{PlacedLine}
use Rattle.sweep_events.proofs.places.fill_places.Given as goal

abbrev pub invariant-loop-line : goal.invariant-loop-line
invariant-loop-line l = l.places.items ≡ map (λ (s : PlacedLine). s.place) (take l.line-index l.lines)
