use Rattle.dcel_records.proofs.Holding.{graph_seen, dart_key}
use Rattle.dcel_records.proofs.Marked.{target_marked}
use Rattle.dcel_records.proofs.records.Records.target_parts.Goals as goal

pub index-requires : goal.index-requires
index-requires c = dart_key c.self.inside.vertices c.self.inside.darts _ (graph_seen c.self.inside _ c.self.view_is) c.args.d c.requires

pub returns : goal.returns
returns c = target_marked c.self.inside.vertices c.self.inside.darts _ (graph_seen c.self.inside _ c.self.view_is) c.self.invariant.marked c.self.invariant.graph.rows c.args.d _ c.requires c.index.ensures
