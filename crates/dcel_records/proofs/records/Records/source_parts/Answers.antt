use Rattle.dcel_records.proofs.Holding.{graph_seen, dart_key}
use Rattle.dcel_records.proofs.Marked.{source_marked}
use Rattle.dcel_records.proofs.records.Records.source_parts.Goals as goal

pub index-requires : goal.index-requires
index-requires c = dart_key c.self.inside.vertices c.self.inside.darts _ (graph_seen c.self.inside _ c.self.view_is) c.args.d c.requires

pub returns : goal.returns
returns c = source_marked c.self.inside.vertices c.self.inside.darts _ (graph_seen c.self.inside _ c.self.view_is) c.self.invariant.marked c.args.d _ c.index.ensures
