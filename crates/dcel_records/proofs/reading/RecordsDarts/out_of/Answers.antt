use Rattle.dcel_records.proofs.Holding.{graph_seen}
use Rattle.std.proofs.Common.{subst, ap}
use Rattle.dcel_records.specs.StoredRows.{out_or}
use Rattle.dcel_records.specs.Outs.{IsOut}
use Rattle.dcel_records.proofs.Holding.{vertex_key, outs}
use Rattle.dcel_records.proofs.Leaving.{out_some, out_none}
use Rattle.dcel_records.proofs.reading.RecordsDarts.out_of.Goals as goal

pub index-requires : goal.index-requires
index-requires c = vertex_key c.self.inside.vertices c.self.inside.darts _ (graph_seen c.self.inside _ c.self.view_is) c.args.v c.requires

pub returns-clause-some : goal.returns-clause-some
returns-clause-some c =
    out_some c.args.self.now.graph c.args.v _
    (subst (λ o. IsOut c.args.self.now.graph c.args.v o) (ap out_or c.index.ensures) (outs c.self.inside.vertices c.self.inside.darts _ (graph_seen c.self.inside _ c.self.view_is) c.self.invariant.graph.rows c.args.v))

pub returns-clause-none : goal.returns-clause-none
returns-clause-none c =
    out_none c.args.self.now.graph c.args.v _
    (subst (λ o. IsOut c.args.self.now.graph c.args.v o) (ap out_or c.index.ensures) (outs c.self.inside.vertices c.self.inside.darts _ (graph_seen c.self.inside _ c.self.view_is) c.self.invariant.graph.rows c.args.v))
