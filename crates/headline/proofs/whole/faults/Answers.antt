use Rattle.headline.proofs.Statuses.{caused}
use Rattle.headline.proofs.whole.faults.Goals as goal

pub returns : goal.returns
returns g c = caused c.planar.result _ _ _ _ c.planar.ensures.read_fault c.planar.ensures.write_fault c.planar.ensures.no_read_fault c.planar.ensures.no_write_fault
