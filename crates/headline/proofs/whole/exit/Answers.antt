use Rattle.std.proofs.Common.{◌∙◌}
use Rattle.headline.proofs.Statuses.{one_exit}
use Rattle.headline.proofs.whole.exit.Goals as goal

pub returns : goal.returns
returns c = c.exit_code.ensures ∙ one_exit c.args.status
