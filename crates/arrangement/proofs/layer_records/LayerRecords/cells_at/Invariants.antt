use Rattle.std.proofs.Common.{◌≡◌, map, take}
use Rattle.slab_laws.specs.Subdivision.{holds}
use Rattle.arrangement.specs.LayerRecords.{subdivision_of}
use Rattle.arrangement.proofs.layer_records.LayerRecords.cells_at.Given as goal

abbrev pub invariant-loop-place : goal.invariant-loop-place
invariant-loop-place l = record {
  same : l.self ≡ l.fn.self;
  cells : l.cells.items ≡ map (holds (subdivision_of l.fn.self)) (take l.place l.points);
}
