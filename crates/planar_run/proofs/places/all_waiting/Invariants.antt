use Rattle.std.proofs.Common.{◌≡◌, ◌+◌, ◌++◌, ◌≤◌, Some, map, length}
use Rattle.std.specs.Prelude.{vec_capacity}
use Rattle.planar_run.proofs.places.all_waiting.Given as goal

abbrev pub invariant-loop-observer : goal.invariant-loop-observer
invariant-loop-observer g l = record {
  seen : map Some l.fn.observers.items ≡ l.places.items ++ map Some l.observer-iterator.rest.items;
  room : length l.places.items + length l.observer-iterator.rest.items ≤ vec_capacity l.places;
}
