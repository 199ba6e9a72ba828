use Rattle.std.proofs.Common.{take, drop}
use Rattle.dcel_records.specs.RecordsView.{IsSpareFaces, SameRecordCapacity}
use Rattle.dcel_records.specs.SoundMaps.{IsMapAtRest, map_of}
use Rattle.curve_history.specs.Past.{SameLayer, SameHistoryCapacity}
use Rattle.observer_bus.specs.Rows.{bus_row}
use Rattle.told_steps.proofs.Onward.{AreTidied}
use Rattle.told_steps.proofs.redundant.remove_redundant.Given as goal

abbrev pub invariant-loop-vertex : goal.invariant-loop-vertex
invariant-loop-vertex g l = record {
  tidied : AreTidied (map_of l.fn.records) l.fn.history
      (bus_row (goal.Observer-dyn g) l.fn.bus)
      l.vertices (take l.vertex-index l.vertices) (drop l.vertex-index l.vertices) (map_of l.records) l.history
      (bus_row (goal.Observer-dyn g) l.bus);
  layer : SameLayer l.fn.history l.history;
  map : IsMapAtRest l.records;
  records : SameRecordCapacity l.fn.records l.records;
  faces : IsSpareFaces l.fn.records.faces l.records.faces 0 0;
  history : SameHistoryCapacity l.fn.history l.history;
}
