use Rattle.std.proofs.Common.{◌∙◌}
use Rattle.mirror_observer.proofs.Entries.{inserted}
use Rattle.mirror_observer.proofs.darts.keep.Goals as goal

pub returns : goal.returns
returns c = c.in_ok-insert.ensures.entries ∙ inserted c.args.d.0 c.args.entry c.args.darts.now.entries
