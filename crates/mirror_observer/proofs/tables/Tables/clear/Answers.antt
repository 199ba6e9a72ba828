use Rattle.mirror_observer.proofs.Changed.{all_cleared}
use Rattle.mirror_observer.proofs.tables.Tables.clear.Goals as goal

pub returns : goal.returns
returns c = all_cleared c.args.self.now _ c.args.face c.clear.ensures.empty c.clear-2.ensures.empty c.clear-3.ensures.empty c.in_ok-clear.ensures
