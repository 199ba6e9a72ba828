use Rattle.linked_chains.proofs.Seen.{node_there, entry_found}
use Rattle.linked_chains.proofs.chains.Chains.entry.Goals as goal

pub index-requires : goal.index-requires
index-requires c = node_there c.self.inside.heads c.self.inside.nodes _ c.self.view_is c.args.node c.requires

pub returns : goal.returns
returns c = entry_found c.self.inside.heads c.self.inside.nodes _ c.self.view_is c.args.node _ c.index.ensures
