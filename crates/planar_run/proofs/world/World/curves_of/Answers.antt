use Rattle.planar_run.specs.Rows.{world_row}
use Rattle.planar_run.proofs.Told.{edge_or_none}
use Rattle.planar_run.proofs.world.World.curves_of.Goals as goal

pub returns-clause-allowed : goal.returns-clause-allowed
returns-clause-allowed g c = (edge_or_none c.curves_of.result _ (world_row (goal.Observer-dyn g) c.args.self.now) c.curves_of.ensures.no_edge).0

pub returns-clause-barred : goal.returns-clause-barred
returns-clause-barred g c = (edge_or_none c.curves_of.result _ (world_row (goal.Observer-dyn g) c.args.self.now) c.curves_of.ensures.no_edge).1
