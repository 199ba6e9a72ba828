use Rattle.std.proofs.Common.{refl}
use Rattle.arrangement.proofs.zones.zone_counted.Goals as goal

pub zone_by-requires-clause-source : goal.zone_by-requires-clause-source
zone_by-requires-clause-source g c = let w = c.requires.layer in (refl, record { sound = w.sound; curves = w.curves; fit = w.lawful.fit; strands = w.strands })
