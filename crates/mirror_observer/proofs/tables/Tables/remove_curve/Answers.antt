use Rattle.std.proofs.Common.{refl}
use Rattle.mirror_observer.proofs.Changed.{curve_removed}
use Rattle.mirror_observer.proofs.tables.Tables.remove_curve.Goals as goal

pub returns : goal.returns
returns c = curve_removed c.args.self.now _ refl c.args.d c.args.curve c.requires refl c.in_ok-remove_curve.ensures refl
