use Rattle.std.proofs.Common.{◌∙◌}
use Rattle.mirror_observer.proofs.Entries.{removed}
use Rattle.mirror_observer.proofs.curves.lift.Goals as goal

pub returns : goal.returns
returns c = c.remove-list.ensures.entries ∙ removed c.args.d.0 c.args.curves.now.entries
