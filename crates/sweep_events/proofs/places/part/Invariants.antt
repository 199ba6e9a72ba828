use Rattle.std.proofs.Common.{◌≡◌, ℕ, take}
use Rattle.std.specs.Prelude.{not, filter}
use Rattle.sweep_events.specs.Runs.{ends_there}
use Rattle.sweep_events.proofs.places.part.Given as goal

abbrev pub invariant-loop-place : goal.invariant-loop-place
invariant-loop-place l = record {
  ends : l.ends ≡ filter (ends_there l.pieces l.point) (take l.place-index l.places);
  others : l.others ≡ filter (λ (i : ℕ). not (ends_there l.pieces l.point i)) (take l.place-index l.places);
}
