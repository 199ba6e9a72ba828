use Rattle.std.proofs.Common.{refl}
use Rattle.mirror_observer.proofs.Changed.{curve_added}
use Rattle.mirror_observer.proofs.tables.Tables.add_curve.Goals as goal

pub returns : goal.returns
returns c = curve_added c.args.self.now _ refl c.args.d c.args.curve c.requires refl c.in_ok-add_curve.ensures refl
