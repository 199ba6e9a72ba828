use Rattle.std.proofs.Common.{◌≡◌}
use Rattle.face_roots.specs.CycleRanks.{faces_before}
use Rattle.overlay_sweep.proofs.rows.count_faces.Given as goal

abbrev pub invariant-loop-root : goal.invariant-loop-root
invariant-loop-root l = l.count ≡ faces_before l.roots l.root-index
