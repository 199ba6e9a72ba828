use Rattle.dcel_records.proofs.VertexMapped.{none_mapped}
use Rattle.dcel_records.proofs.vertex_map.VertexMap.clear.Goals as goal

pub returns-clause-map : goal.returns-clause-map
returns-clause-map c = none_mapped _ c.clear.ensures.empty
