use Rattle.planar_run.specs.Rows.{world_row}
use Rattle.planar_run.proofs.Regions.{told_when_blue, told_when_red}
use Rattle.planar_run.proofs.world.World.region.Goals as goal

pub returns-then-self-clause-darts : goal.returns-then-self-clause-darts
returns-then-self-clause-darts g c = (told_when_blue c.args.op (world_row (goal.Observer-dyn g) c.args.self.now) c.region.result c.if-self.true c.region.ensures.region c.region.ensures.error).0

pub returns-then-self-clause-allowed : goal.returns-then-self-clause-allowed
returns-then-self-clause-allowed g c = (told_when_blue c.args.op (world_row (goal.Observer-dyn g) c.args.self.now) c.region.result c.if-self.true c.region.ensures.region c.region.ensures.error).1

pub returns-then-self-clause-barred : goal.returns-then-self-clause-barred
returns-then-self-clause-barred g c = (told_when_blue c.args.op (world_row (goal.Observer-dyn g) c.args.self.now) c.region.result c.if-self.true c.region.ensures.region c.region.ensures.error).2

pub returns-else-self-clause-darts : goal.returns-else-self-clause-darts
returns-else-self-clause-darts g c = (told_when_red c.args.op (world_row (goal.Observer-dyn g) c.args.self.now) c.region-else-self.result c.if-self.false c.region-else-self.ensures.region c.region-else-self.ensures.error).0

pub returns-else-self-clause-allowed : goal.returns-else-self-clause-allowed
returns-else-self-clause-allowed g c = (told_when_red c.args.op (world_row (goal.Observer-dyn g) c.args.self.now) c.region-else-self.result c.if-self.false c.region-else-self.ensures.region c.region-else-self.ensures.error).1

pub returns-else-self-clause-barred : goal.returns-else-self-clause-barred
returns-else-self-clause-barred g c = (told_when_red c.args.op (world_row (goal.Observer-dyn g) c.args.self.now) c.region-else-self.result c.if-self.false c.region-else-self.ensures.region c.region-else-self.ensures.error).2
