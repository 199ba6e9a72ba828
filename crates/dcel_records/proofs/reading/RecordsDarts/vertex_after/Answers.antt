use Rattle.dcel_records.proofs.Holding.{graph_seen}
use Rattle.std.proofs.Common.{ap, ◌∙◌}
use Rattle.std.specs.Option.{option_map}
use Rattle.slab_laws.specs.Tables.{name_after}
use Rattle.slab_laws.specs.View.{vertex_id}
use Rattle.dcel_records.proofs.After.{vertex_keys}
use Rattle.dcel_records.proofs.Holding.{vertex_names}
use Rattle.dcel_records.proofs.reading.RecordsDarts.vertex_after.Goals as goal

pub returns-clause-after : goal.returns-clause-after
returns-clause-after c = c.vertex_name_after.ensures ∙ ap (λ ns. option_map vertex_id (name_after ns (option_map (λ n. n.0) c.args.v))) (vertex_keys c.self.inside.vertices c.self.inside.darts _ (graph_seen c.self.inside _ c.self.view_is))

pub returns-clause-ascend : goal.returns-clause-ascend
returns-clause-ascend c = vertex_names c.self.inside.vertices c.self.inside.darts _ (graph_seen c.self.inside _ c.self.view_is)
