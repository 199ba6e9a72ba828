use Rattle.std.proofs.Common.{◌≡◌, ◌≤◌, ◌+◌, ◌-◌, vec_len, vec_capacity}
use Rattle.dcel_records.specs.RecordsView.{tables_of}
use Rattle.locate_landmarks.specs.Built.{IsColumnBelow}
use Rattle.locate_landmarks.proofs.Filled.{IsFilled}
use Rattle.locate_landmarks.proofs.landmarks.Landmarks.build.Given as goal

abbrev pub invariant-loop-index : goal.invariant-loop-index
invariant-loop-index l =
    IsFilled l.self-inside.spots.items l.records.graph (tables_of l.records) l.index × (l.glance ≡ l.records) × ((vec_len l.self-inside.spots + (49 - l.index)) ≤ vec_capacity l.self-inside.spots) × IsColumnBelow l.records.graph l.index l.last
