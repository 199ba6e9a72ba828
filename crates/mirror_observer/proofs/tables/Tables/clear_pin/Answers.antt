use Rattle.std.proofs.Common.{refl}
use Rattle.mirror_observer.proofs.Changed.{pin_cleared}
use Rattle.mirror_observer.proofs.tables.Tables.clear_pin.Goals as goal

pub returns : goal.returns
returns c = pin_cleared c.args.self.now _ refl c.args.v c.requires c.pin.ensures refl refl
