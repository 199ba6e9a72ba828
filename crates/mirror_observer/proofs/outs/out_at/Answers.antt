use Rattle.std.proofs.Common.{◌∙◌}
use Rattle.mirror_observer.proofs.Entries.{found}
use Rattle.mirror_observer.proofs.outs.out_at.Goals as goal

pub returns : goal.returns
returns c = c.copied.ensures ∙ c.get.ensures.value ∙ found c.args.outs.now.entries c.args.v.0
