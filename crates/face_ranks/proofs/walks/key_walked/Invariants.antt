use Rattle.std.proofs.Common.{length}
use Rattle.std.specs.Prelude.{◌==◌}
use Rattle.dcel_records.specs.RecordsView.{lists_of, tables_of}
use Rattle.face_ranks.proofs.KeysPushed.{cycles_left}
use Rattle.face_ranks.proofs.KeysWalked.{AreMissed}
use Rattle.face_ranks.proofs.walks.key_walked.Given as goal

abbrev pub invariant-loop-cycle : goal.invariant-loop-cycle
invariant-loop-cycle l = AreMissed l.records.graph (tables_of l.records) (lists_of l.records) l.last (λ k. l.face.0 == k.face.0)

abbrev pub decreases-loop-cycle : goal.decreases-loop-cycle
decreases-loop-cycle l = length (cycles_left (tables_of l.records) l.last)
