use Rattle.region_rings.proofs.Links.{are_nexts}
use Rattle.region_rings.proofs.nexts.nexts_of.Goals as goal

pub returns-clause-nexts : goal.returns-clause-nexts
returns-clause-nexts c = are_nexts c.args.darts.now c.args.spokes.now c.requires c.in_ok-nexts.nexts.items c.in_ok-nexts.ensures.links
