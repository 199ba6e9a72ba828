use Rattle.std.proofs.Common.{◌≡◌, take}
use Rattle.subdivision_rows.specs.ByName.{points_at, pinned_among}
use Rattle.layer_tests.proofs.layers.presents.pins_of.Given as goal

abbrev pub invariant-loop-vertex : goal.invariant-loop-vertex
invariant-loop-vertex l = l.pins ≡ points_at (pinned_among l.records.graph (take l.vertex-index l.vertices))
