use Rattle.dcel_records.proofs.AtPoint.{AreLeft}
use Rattle.dcel_records.proofs.records.Records.vertex_at.Given as goal

abbrev pub invariant-loop-key : goal.invariant-loop-key
invariant-loop-key l = record {
  can_next : (goal.iterator-loop-key).can_next l.key-iterator;
  is_finite : (goal.iterator-loop-key).is_finite l.key-iterator;
  left : AreLeft l.self.graph l.point l.key-iterator;
}
