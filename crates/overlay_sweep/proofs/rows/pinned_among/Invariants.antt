use Rattle.std.proofs.Common.{◌≡◌, map, take}
use Rattle.std.specs.List.{list_any}
use Rattle.slab_laws.specs.Skeleton.{same_point}
use Rattle.overlay_sweep.proofs.rows.pinned_among.Given as goal

abbrev pub invariant-loop-point : goal.invariant-loop-point
invariant-loop-point l = l.pinned.items ≡ map (λ p. list_any (same_point p) l.pins) (take l.point-index l.points)
