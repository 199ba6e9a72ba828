use Rattle.std.proofs.Common.{◌∙◌}
use Rattle.linked_chains.proofs.Seen.{key_seen}
use Rattle.linked_chains.proofs.chains.Chains.has_key.Goals as goal

pub returns : goal.returns
returns c = c.contains_key.ensures ∙ key_seen c.self.inside.heads c.self.inside.nodes _ c.self.view_is c.args.key
