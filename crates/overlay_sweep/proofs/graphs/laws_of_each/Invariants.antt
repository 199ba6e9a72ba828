use Rattle.std.proofs.Common.{take}
use Rattle.exact_plane.specs.Point.{Point, IsPoint}
use Rattle.plane_graphs.specs.Ascending.{Member}
use Rattle.overlay_sweep.proofs.graphs.laws_of_each.Given as goal

abbrev pub invariant-loop-point : goal.invariant-loop-point
invariant-loop-point l = (r : Point) → Member r (take l.point-index l.points) → IsPoint r
