use Rattle.std.proofs.Common.{◌∙◌}
use Rattle.mirror_observer.proofs.Entries.{removed}
use Rattle.mirror_observer.proofs.darts.forget.Goals as goal

pub returns : goal.returns
returns c = c.remove-entry.ensures.entries ∙ removed c.args.d.0 c.args.darts.now.entries
