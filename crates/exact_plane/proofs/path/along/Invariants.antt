use Rattle.exact_plane.proofs.PathLaws.{Joined}
use Rattle.exact_plane.proofs.path.along.Given as goal

abbrev pub invariant-loop-place : goal.invariant-loop-place
invariant-loop-place l = Joined l.points l.place l.sides
