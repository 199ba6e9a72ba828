use Rattle.std.proofs.Common.{◌≡◌, take}
use Rattle.subdivision_rows.specs.ByName.{points_at, pinned_among}
use Rattle.plain_slabs.proofs.names.pins_of.Given as goal

abbrev pub invariant-loop-vertex : goal.invariant-loop-vertex
invariant-loop-vertex g l = l.pins.items ≡ points_at (pinned_among (g.R.Darts.graph l.records) (take l.vertex-index l.vertices))
