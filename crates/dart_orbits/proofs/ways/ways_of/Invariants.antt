use Rattle.std.proofs.Common.{◌<◌, ◌++◌, ℕ, take}
use Rattle.std.specs.List.Sorted.{IsPermutation}
use Rattle.exact_plane.specs.Span.{IsSpan}
use Rattle.dart_orbits.specs.Ways.{row_in, span_of_row, ways_by}
use Rattle.dart_orbits.proofs.ways.ways_of.Given as goal

abbrev pub invariant-loop-place : goal.invariant-loop-place
invariant-loop-place l = record {
  ways : IsPermutation (take l.place (ways_by l.edges l.darts)) (l.ways.items ++ l.turn.items);
  spans : (k : ℕ) → k < l.place → IsSpan (span_of_row l.edges (row_in l.darts k));
}
