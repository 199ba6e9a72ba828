use Rattle.path_zone.proofs.path.zone_of.Goals as goal

pub zone_by-requires-clause-start : goal.zone_by-requires-clause-start
zone_by-requires-clause-start g c = c.start_for.ensures _ _ c.requires.zones c.requires.start
