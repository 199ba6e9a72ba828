use Rattle.std.proofs.Common.{◌≡◌, take}
use Rattle.std.specs.List.{flat_map}
use Rattle.segment_remove.specs.Ends.{two_ends}
use Rattle.segment_remove.proofs.ends.end_keys.Given as goal

abbrev pub invariant-loop-edge : goal.invariant-loop-edge
invariant-loop-edge l = l.keys.items ≡ flat_map (two_ends l.records.graph) (take l.edge-index l.edges)
