use Rattle.std.proofs.Common.{◌≤◌, ◌+◌, length, drop}
use Rattle.dcel_records.specs.SoundMaps.{IsMapAtRest, map_of}
use Rattle.curve_history.specs.Past.{curves_on, SameLayer}
use Rattle.observer_bus.specs.Rows.{bus_row}
use Rattle.segment_remove.proofs.EdgesReleased.{IsGoing}
use Rattle.segment_remove.proofs.SidesReleased.{SameOthers}
use Rattle.segment_remove.proofs.release.release_curve.Given as goal

abbrev pub invariant-loop-edge : goal.invariant-loop-edge
invariant-loop-edge g l = record {
  going : IsGoing (map_of l.initial.records) (curves_on l.initial.history) l.curve
      (bus_row (goal.Observer-dyn g) l.initial.bus)
      l.edges (drop l.edge-index l.edges) (map_of l.records) (curves_on l.history)
      (bus_row (goal.Observer-dyn g) l.bus);
  others : SameOthers l.initial.records.graph l.initial.history l.curve.0 l.records.graph l.history;
  map : IsMapAtRest l.records;
  spare : length l.edges ≤ l.records.faces.spare_cycles + l.edge-index;
  layer : SameLayer l.initial.history l.history;
}
