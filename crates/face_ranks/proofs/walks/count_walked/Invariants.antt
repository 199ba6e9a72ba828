use Rattle.std.proofs.Common.{length, is_lt}
use Rattle.dcel_records.specs.RankOrders.{key_cmp}
use Rattle.dcel_records.specs.RecordsView.{lists_of, tables_of}
use Rattle.face_ranks.proofs.KeysPushed.{cycles_left}
use Rattle.face_ranks.proofs.KeysWalked.{AreCounted}
use Rattle.face_ranks.proofs.walks.count_walked.Given as goal

abbrev pub invariant-loop-cycle : goal.invariant-loop-cycle
invariant-loop-cycle l = AreCounted l.records.graph (tables_of l.records) (lists_of l.records) l.last (λ k. is_lt (key_cmp k l.own)) l.count

abbrev pub decreases-loop-cycle : goal.decreases-loop-cycle
decreases-loop-cycle l = length (cycles_left (tables_of l.records) l.last)
