use Rattle.std.proofs.Common.{subst}
use Rattle.polygon_sets.specs.Boundaries.{IsBoundary}
use Rattle.polygon_sets.proofs.RegionBoundaries.{closed_by}
use Rattle.polygon_sets.proofs.region.Region.laws.Goals as goal

pub returns-clause-closed : goal.returns-clause-closed
returns-clause-closed c = closed_by c.args.self.now (subst IsBoundary c.self.view_is c.self.invariant)
