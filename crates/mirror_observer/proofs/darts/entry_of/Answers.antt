use Rattle.std.proofs.Common.{◌∙◌}
use Rattle.mirror_observer.proofs.Entries.{found}
use Rattle.mirror_observer.proofs.darts.entry_of.Goals as goal

pub returns : goal.returns
returns c = c.copied.ensures ∙ c.get.ensures.value ∙ found c.args.darts.now.entries c.args.d.0
