use Rattle.std.proofs.Common.{◌∙◌}
use Rattle.linked_chains.proofs.Seen.{node_there, next_seen}
use Rattle.linked_chains.proofs.chains.Chains.after.Goals as goal

pub index-requires : goal.index-requires
index-requires c = node_there c.self.inside.heads c.self.inside.nodes _ c.self.view_is c.args.node c.requires

pub returns : goal.returns
returns c e q = c.name.ensures ∙ next_seen c.self.inside.heads c.self.inside.nodes _ c.self.view_is c.self.invariant c.args.node _ c.index.ensures e q
