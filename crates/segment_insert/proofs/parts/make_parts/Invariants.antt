use Rattle.std.proofs.Common.{◌+◌, ◌*◌, ◌≤◌, drop, length}
use Rattle.plane_graphs.specs.Ascending.{Member}
use Rattle.dcel_records.specs.SoundMaps.{IsMapAtRest, map_of}
use Rattle.curve_history.specs.Past.{SameLayer}
use Rattle.observer_bus.specs.Rows.{bus_row}
use Rattle.segment_insert.proofs.PartsCome.{AreComing}
use Rattle.segment_insert.proofs.parts.make_parts.Given as goal

abbrev pub invariant-each : goal.invariant-each
invariant-each g l = record {
  coming : AreComing (map_of l.initial.records) l.initial.history
      (bus_row (goal.Observer-dyn g) l.initial.bus) l.curve.0 l.meetings l.parts l.before (drop l.part-index l.parts) (map_of l.records) l.history
      (bus_row (goal.Observer-dyn g) l.bus);
  map : IsMapAtRest l.records;
  layer : SameLayer l.initial.history l.history;
  named : Member l.curve.0 l.history.names;
  darts : 2 * length l.parts ≤ l.records.spare_darts + 2 * l.part-index;
  cycles : length l.parts ≤ l.records.faces.spare_cycles + l.part-index;
  faces : length l.parts ≤ l.records.faces.spare_faces + l.part-index;
  pairs : length l.parts ≤ l.history.spare_pairs + l.part-index;
}
