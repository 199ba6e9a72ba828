use Rattle.std.proofs.Common.{refl}
use Rattle.segment_insert.proofs.paths.prepare_path.Goals as goal

pub path_zone_by-requires-clause-source : goal.path_zone_by-requires-clause-source
path_zone_by-requires-clause-source g c = (refl, c.requires.past)
