use Rattle.dcel_records.proofs.Holding.{graph_seen}
use Rattle.std.proofs.Common.{refl}
use Rattle.slab_laws.specs.View.{source_in}
use Rattle.dcel_records.proofs.Holding.{vertex_names, dart_names, twinned, out_key, vertex_has}
use Rattle.dcel_records.proofs.records.Records.laws.Goals as goal

pub returns-clause-named : goal.returns-clause-named
returns-clause-named c = record {
  vertices = vertex_names c.self.inside.vertices c.self.inside.darts _ (graph_seen c.self.inside _ c.self.view_is);
  darts = dart_names c.self.inside.vertices c.self.inside.darts _ (graph_seen c.self.inside _ c.self.view_is);
}

pub returns-clause-twinned : goal.returns-clause-twinned
returns-clause-twinned c = twinned c.self.inside.vertices c.self.inside.darts _ (graph_seen c.self.inside _ c.self.view_is) c.self.invariant.graph.rows

pub returns-clause-sources : goal.returns-clause-sources
returns-clause-sources c =
    λ d o. vertex_has c.self.inside.vertices c.self.inside.darts _ (graph_seen c.self.inside _ c.self.view_is) (source_in c.args.self.now.graph d)
    (out_key c.self.inside.vertices c.self.inside.darts _ (graph_seen c.self.inside _ c.self.view_is) c.self.invariant.graph.rows (source_in c.args.self.now.graph d) d (o, refl))
