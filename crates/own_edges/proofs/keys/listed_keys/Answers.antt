use Rattle.std.proofs.Common.{◌∙◌}
use Rattle.own_edges.proofs.keys.listed_keys.Goals as goal

pub returns : goal.returns
returns c = c.in_ok-keys.ensures ∙ c.rank_keys.ensures ∙ c.requires
