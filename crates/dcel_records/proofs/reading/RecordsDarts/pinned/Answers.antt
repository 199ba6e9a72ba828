use Rattle.dcel_records.proofs.Holding.{graph_seen}
use Rattle.dcel_records.proofs.Holding.{vertex_key, pin_is}
use Rattle.dcel_records.proofs.reading.RecordsDarts.pinned.Goals as goal

pub index-requires : goal.index-requires
index-requires c = vertex_key c.self.inside.vertices c.self.inside.darts _ (graph_seen c.self.inside _ c.self.view_is) c.args.v c.requires

pub returns : goal.returns
returns c = pin_is c.self.inside.vertices c.self.inside.darts _ (graph_seen c.self.inside _ c.self.view_is) c.args.v _ c.index.ensures
