use Rattle.std.proofs.Common.{◌≡◌}
use Rattle.std.specs.Prelude.{◌==◌, ◌%◌}
use Rattle.std.specs.List.{count_by, range_with_len}
use Rattle.region_rings.specs.Nesting.{side_below}
use Rattle.region_rings.proofs.nesting.goes_round.Given as goal

abbrev pub invariant-loop-place : goal.invariant-loop-place
invariant-loop-place l = l.is_odd ≡ (count_by (side_below l.ring l.point) (range_with_len 0 l.place) % 2 == 1)
