use Rattle.std.proofs.Common.{◌≡◌, map, take}
use Rattle.region_rings.specs.Rings.{source_at}
use Rattle.region_rings.proofs.rings.sources_of.Given as goal

abbrev pub invariant-loop-place : goal.invariant-loop-place
invariant-loop-place l = l.points.items ≡ take l.place (map (source_at l.darts) l.order)
