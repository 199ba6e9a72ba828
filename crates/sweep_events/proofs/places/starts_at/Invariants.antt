use Rattle.std.proofs.Common.{◌≡◌, map, take}
use Rattle.sweep_events.specs.declared.places.Start.{Start}
use Rattle.sweep_events.proofs.places.starts_at.Given as goal

abbrev pub invariant-loop-start : goal.invariant-loop-start
invariant-loop-start l = l.places ≡ map (λ (s : Start). s.place) (take l.start-index l.here)
