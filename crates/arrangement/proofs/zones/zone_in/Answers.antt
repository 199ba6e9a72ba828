use Rattle.std.proofs.Common.{◌≡◌, refl, arith}
use Rattle.arrangement.proofs.zones.zone_in.Goals as goal

pub zone_counted-requires : goal.zone_counted-requires
zone_counted-requires c = record {
  name = refl;
  parts = refl;
  some = omega arith;
  map = c.requires.map;
  layer = c.requires.layer;
  start = let at : c.lower.result ≡ c.args.segment.now.lower = c.lower.ensures.value in rw (← at) c.spot_at-start.ensures;
}
