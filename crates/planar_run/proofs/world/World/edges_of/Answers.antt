use Rattle.planar_run.specs.Rows.{world_row}
use Rattle.planar_run.proofs.Told.{listed, named_or_none}
use Rattle.planar_run.proofs.world.World.edges_of.Goals as goal

pub returns-clause-edges : goal.returns-clause-edges
returns-clause-edges g c = listed c.args.curve.0 _ c.edges_of.result c.edges_of.ensures.edges c.edges_of.ensures.ascend

pub returns-clause-allowed : goal.returns-clause-allowed
returns-clause-allowed g c = (named_or_none c.edges_of.result c.args.curve.0 (world_row (goal.Observer-dyn g) c.args.self.now) c.edges_of.ensures.unknown).0

pub returns-clause-barred : goal.returns-clause-barred
returns-clause-barred g c = (named_or_none c.edges_of.result c.args.curve.0 (world_row (goal.Observer-dyn g) c.args.self.now) c.edges_of.ensures.unknown).1
