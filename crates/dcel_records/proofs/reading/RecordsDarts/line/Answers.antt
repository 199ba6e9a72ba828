use Rattle.dcel_records.proofs.Holding.{graph_seen}
use Rattle.dcel_records.proofs.Holding.{dart_key, line_is, twinned}
use Rattle.dcel_records.proofs.reading.RecordsDarts.line.Goals as goal

pub index-requires : goal.index-requires
index-requires c = dart_key c.self.inside.vertices c.self.inside.darts _ (graph_seen c.self.inside _ c.self.view_is) c.args.d c.requires

pub returns-clause-line : goal.returns-clause-line
returns-clause-line c = line_is c.self.inside.vertices c.self.inside.darts _ (graph_seen c.self.inside _ c.self.view_is) c.args.d _ c.index.ensures

pub returns-clause-twins : goal.returns-clause-twins
returns-clause-twins c = (twinned c.self.inside.vertices c.self.inside.darts _ (graph_seen c.self.inside _ c.self.view_is) c.self.invariant.graph.rows).line c.args.d c.requires
