use Rattle.std.proofs.Common.{◌≡◌, length}
use Rattle.dcel_records.specs.RecordsView.{graph_part, lists_of, tables_of}
use Rattle.face_ranks.proofs.KeysPushed.{IsPushed, cycles_left}
use Rattle.face_ranks.proofs.order.push_keys.Given as goal

abbrev pub invariant-loop-cycle : goal.invariant-loop-cycle
invariant-loop-cycle l = record {
  graph : graph_part l.records ≡ graph_part l.fn.records;
  faces : l.records.faces ≡ l.fn.records.faces;
  pushed : IsPushed l.fn.records.graph (tables_of l.fn.records) (lists_of l.fn.records) l.records.ranks.order l.last;
}

abbrev pub decreases-loop-cycle : goal.decreases-loop-cycle
decreases-loop-cycle l = length (cycles_left (tables_of l.fn.records) l.last)
