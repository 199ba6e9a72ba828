use Rattle.dcel_records.proofs.Holding.{graph_seen}
use Rattle.std.proofs.Common.{ap, ◌∙◌}
use Rattle.dcel_records.specs.StoredRows.{pins_among}
use Rattle.dcel_records.proofs.Holding.{vertices_are}
use Rattle.dcel_records.proofs.records.Records.pins.Goals as goal

pub returns : goal.returns
returns c = c.self.invariant.graph.counted ∙ ap pins_among (vertices_are c.self.inside.vertices c.self.inside.darts _ (graph_seen c.self.inside _ c.self.view_is))
