use Rattle.std.proofs.Common.{◌≡◌, ◌++◌, take}
use Rattle.plain_slabs.proofs.Loops.{gathered}
use Rattle.plain_slabs.proofs.Gathered.{is_corner, corner_of}
use Rattle.plain_slabs.proofs.links.add_corners.Given as goal

abbrev pub invariant-loop-point : goal.invariant-loop-point
invariant-loop-point l = l.list.items ≡ l.fn.list.items ++ gathered (is_corner l.points l.edges l.wall) (corner_of l.points l.edges) (take l.point-index l.points)
