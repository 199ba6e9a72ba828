use Rattle.std.proofs.Common.{◌≡◌, false, take}
use Rattle.plane_graphs.specs.Ascending.{Member}
use Rattle.zone_walk.specs.Zone.{is_on_segment}
use Rattle.path_zone.specs.declared.zoned.ZonedSide.{ZonedSide}
use Rattle.path_zone.proofs.zoned.spot_told.Given as goal

abbrev pub invariant-zones : goal.invariant-zones
invariant-zones l = (z : ZonedSide) → Member z (take l.zoned-index l.zones) → is_on_segment z.side l.point ≡ false
