use Rattle.std.proofs.Common.{◌≡◌, ◌++◌, take}
use Rattle.path_zone.specs.Zoned.{vertices_zoned}
use Rattle.path_zone.proofs.path.add_vertices.Given as goal

abbrev pub invariant-zones : goal.invariant-zones
invariant-zones l = l.meetings.items ≡ l.fn.meetings.items ++ vertices_zoned (take l.zoned-index l.zones)
