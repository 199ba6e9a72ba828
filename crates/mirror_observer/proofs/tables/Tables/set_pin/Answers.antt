use Rattle.std.proofs.Common.{refl}
use Rattle.mirror_observer.proofs.Changed.{pin_set}
use Rattle.mirror_observer.proofs.tables.Tables.set_pin.Goals as goal

pub returns : goal.returns
returns c = pin_set c.args.self.now _ refl c.args.v c.requires c.pin.ensures refl refl
