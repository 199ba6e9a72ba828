use Rattle.dcel_records.proofs.Holding.{graph_seen}
use Rattle.dcel_records.proofs.Holding.{dart_key, source_is}
use Rattle.dcel_records.proofs.reading.RecordsDarts.source.Goals as goal

pub index-requires : goal.index-requires
index-requires c = dart_key c.self.inside.vertices c.self.inside.darts _ (graph_seen c.self.inside _ c.self.view_is) c.args.d c.requires

pub returns : goal.returns
returns c = source_is c.self.inside.vertices c.self.inside.darts _ (graph_seen c.self.inside _ c.self.view_is) c.args.d _ c.index.ensures
