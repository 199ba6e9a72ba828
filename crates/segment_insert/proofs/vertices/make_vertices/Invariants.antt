use Rattle.std.proofs.Common.{◌≤◌, ◌+◌, ◌*◌, drop}
use Rattle.dcel_records.specs.RecordsView.{IsSpareFaces}
use Rattle.dcel_records.specs.SoundMaps.{IsMapAtRest, map_of}
use Rattle.curve_history.specs.Past.{strands_on, SameLayer}
use Rattle.observer_bus.specs.Rows.{bus_row}
use Rattle.zone_walk.specs.Zone.{vertices_needed, splits_needed}
use Rattle.segment_insert.specs.Insertion.{pairs_to_part}
use Rattle.segment_insert.proofs.VerticesLoop.{IsMidway}
use Rattle.segment_insert.proofs.vertices.make_vertices.Given as goal

abbrev pub invariant-loop-i : goal.invariant-loop-i
invariant-loop-i g l = record {
  midway : IsMidway (map_of l.fn.records) l.fn.history
      (bus_row (goal.Observer-dyn g) l.fn.bus) l.fn.meetings.items (map_of l.records) l.history
      (bus_row (goal.Observer-dyn g) l.bus) l.meetings.items l.i;
  map : IsMapAtRest l.records;
  layer : SameLayer l.fn.history l.history;
  vertices : l.fn.records.spare_vertices + vertices_needed (drop l.i l.fn.meetings.items) ≤ l.records.spare_vertices + vertices_needed l.fn.meetings.items;
  darts : l.fn.records.spare_darts + 2 * splits_needed (drop l.i l.fn.meetings.items) ≤ l.records.spare_darts + 2 * splits_needed l.fn.meetings.items;
  faces : IsSpareFaces l.fn.records.faces l.records.faces 0 0;
  pairs : l.fn.history.spare_pairs + pairs_to_part (strands_on l.history) (drop l.i l.fn.meetings.items) ≤ l.history.spare_pairs + pairs_to_part (strands_on l.fn.history) l.fn.meetings.items;
}
