use Rattle.dcel_records.proofs.Holding.{graph_seen}
use Rattle.dcel_records.proofs.Holding.{dart_key, twin_key, target_is}
use Rattle.dcel_records.proofs.reading.RecordsDarts.target.Goals as goal

pub index-requires : goal.index-requires
index-requires c = dart_key c.self.inside.vertices c.self.inside.darts _ (graph_seen c.self.inside _ c.self.view_is) c.args.d c.requires

pub index-requires-2 : goal.index-requires-2
index-requires-2 c = twin_key c.self.inside.vertices c.self.inside.darts _ (graph_seen c.self.inside _ c.self.view_is) c.self.invariant.graph.rows c.args.d _ c.requires c.index.ensures

pub returns : goal.returns
returns c = target_is c.self.inside.vertices c.self.inside.darts _ (graph_seen c.self.inside _ c.self.view_is) c.args.d _ _ c.index.ensures c.index-2.ensures
