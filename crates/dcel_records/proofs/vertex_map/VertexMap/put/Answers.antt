use Rattle.std.proofs.Common.{sym, ◌∙◌}
use Rattle.dcel_records.proofs.VertexMapped.{entry_more}
use Rattle.dcel_records.proofs.vertex_map.VertexMap.put.Goals as goal

pub returns-in-Ok-None-clause-map : goal.returns-in-Ok-None-clause-map
returns-in-Ok-None-clause-map c = entry_more c.args.self.now _ c.args.v c.args.point c.if-not-self.false c.in-Ok-None.ensures.updates.0 (sym c.in-Ok-None.ensures.old ∙ c.in-Ok-None.field-0-is)
