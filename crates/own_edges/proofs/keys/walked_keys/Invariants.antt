use Rattle.std.proofs.Common.{length}
use Rattle.dcel_records.specs.RecordsView.{lists_of, tables_of}
use Rattle.face_ranks.proofs.KeysPushed.{IsPushed, cycles_left}
use Rattle.own_edges.proofs.keys.walked_keys.Given as goal

abbrev pub invariant-cycles : goal.invariant-cycles
invariant-cycles l = IsPushed l.records.graph (tables_of l.records) (lists_of l.records) l.keys.items l.last

abbrev pub decreases-cycles : goal.decreases-cycles
decreases-cycles l = length (cycles_left (tables_of l.records) l.last)
