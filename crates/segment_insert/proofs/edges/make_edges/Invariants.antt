use Rattle.std.proofs.Common.{◌+◌, ◌-◌, ◌*◌, ◌≤◌, drop, length}
use Rattle.plane_graphs.specs.Ascending.{Member}
use Rattle.plane_graphs.specs.Graph.{chain}
use Rattle.plane_graphs.specs.Strands.{strand}
use Rattle.dcel_records.specs.SoundMaps.{IsMapAtRest, map_of}
use Rattle.curve_history.specs.Past.{curves_on, SameLayer}
use Rattle.observer_bus.specs.Rows.{bus_row}
use Rattle.zone_walk.specs.Zone.{points_of_meetings}
use Rattle.segment_insert.proofs.MarksCome.{AreHeld, IsGoing}
use Rattle.segment_insert.proofs.edges.make_edges.Given as goal

abbrev pub invariant-loop-i : goal.invariant-loop-i
invariant-loop-i g l = record {
  going : IsGoing (map_of l.initial.records) (curves_on l.initial.history)
      (bus_row (goal.Observer-dyn g) l.initial.bus) (chain l.curve.0 (points_of_meetings l.meetings)) (chain l.curve.0 (points_of_meetings (drop (l.i - 1) l.meetings))) (map_of l.records) (curves_on l.history)
      (bus_row (goal.Observer-dyn g) l.bus);
  held : AreHeld l.initial.records.graph l.initial.history (chain (strand l.curve.0 l.side) (points_of_meetings l.meetings)) (chain (strand l.curve.0 l.side) (points_of_meetings (drop (l.i - 1) l.meetings))) l.records.graph l.history;
  map : IsMapAtRest l.records;
  layer : SameLayer l.initial.history l.history;
  named : Member l.curve.0 l.history.names;
  darts : 2 * length l.meetings ≤ l.records.spare_darts + 2 * l.i;
  cycles : length l.meetings ≤ l.records.faces.spare_cycles + l.i;
  faces : length l.meetings ≤ l.records.faces.spare_faces + l.i;
  pairs : length l.meetings ≤ l.history.spare_pairs + l.i;
}
