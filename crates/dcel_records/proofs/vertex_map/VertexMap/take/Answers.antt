use Rattle.dcel_records.proofs.VertexMapped.{entry_less}
use Rattle.dcel_records.proofs.vertex_map.VertexMap.take.Goals as goal

pub returns-then-self-clause-map : goal.returns-then-self-clause-map
returns-then-self-clause-map c v = entry_less c.args.self.now _ v c.args.point.now c.if-self.true c.remove.ensures.updates.0
