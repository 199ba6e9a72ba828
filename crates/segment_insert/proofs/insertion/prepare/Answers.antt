use Rattle.std.proofs.Common.{refl}
use Rattle.segment_insert.proofs.insertion.prepare.Goals as goal

pub zone_by-requires-clause-source : goal.zone_by-requires-clause-source
zone_by-requires-clause-source g c = (refl, c.requires.past)
