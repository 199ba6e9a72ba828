use Rattle.std.proofs.Common.{◌+◌, ◌-◌}
use Rattle.slab_laws.specs.Slabs.{right_below}
use Rattle.slab_laws.specs.Sound.{skeleton_of}
use Rattle.counted_looks.specs.Boundaries.{boundary_size}
use Rattle.dcel_records.specs.RecordsView.{tables_of}
use Rattle.walk_laws.specs.Walks.{height, size_ahead}
use Rattle.locate_walk.specs.Looks.{dart_of}
use Rattle.locate_walk.proofs.Rounds.{IsOnWay}
use Rattle.locate_walk.proofs.walk.climb_free.Given as goal

abbrev pub invariant-faces : goal.invariant-faces
invariant-faces g l = IsOnWay l.glance.graph (tables_of l.glance) l.point l.last l.face (l.fn.steps + size_ahead (boundary_size l.glance.graph (tables_of l.glance)) l.glance.graph (tables_of l.glance) l.point (dart_of l.fn.first)) l.steps

-- the edges below the point that are higher than what was passed
abbrev pub decreases-faces : goal.decreases-faces
decreases-faces g l = right_below (skeleton_of l.glance.graph) l.point - height l.glance.graph l.point (dart_of l.last)
