use Rattle.std.proofs.Common.{◌≡◌, map, take}
use Rattle.slab_laws.specs.Subdivision.{holds}
use Rattle.arrangement.specs.LayerRecords.{subdivision_of}
use Rattle.arrangement.proofs.layer_records.LayerRecords.walk_to_each.Given as goal

abbrev pub invariant-loop-point : goal.invariant-loop-point
invariant-loop-point l = record {
  same : l.self ≡ l.fn.self;
  cells : l.cells.items ≡ map (holds (subdivision_of l.fn.self)) (take l.point-index l.points);
}
