use Rattle.std.proofs.Common.{◌≡◌, take}
use Rattle.present_graphs.proofs.united.sequence_of.Given as goal

abbrev pub invariant-loop-point : goal.invariant-loop-point
invariant-loop-point l = l.sequence ≡ take l.point-index l.points
