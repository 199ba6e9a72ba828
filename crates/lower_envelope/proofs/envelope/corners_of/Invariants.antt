use Rattle.std.proofs.Common.{◌≡◌}
use Rattle.lower_envelope.specs.Corners.{corner_at, corners_upto}
use Rattle.lower_envelope.proofs.envelope.corners_of.Given as goal

abbrev pub invariant-loop-place : goal.invariant-loop-place
invariant-loop-place l = l.corners.items ≡ corners_upto (corner_at l.which l.ends l.slabs) l.place
