use Rattle.linked_chains.proofs.Seen.{node_there}
use Rattle.linked_chains.proofs.Writing.{twin_kept, twin_entries, twin_chains}
use Rattle.linked_chains.proofs.chains.Chains.set_twin.Goals as goal

pub index_mut-requires : goal.index_mut-requires
index_mut-requires c = node_there c.self.inside.heads c.self.inside.nodes _ c.self.view_is c.args.node c.requires

pub invariant_of-self : goal.invariant_of-self
invariant_of-self c = twin_kept c.self.inside.heads c.self.inside.nodes _ c.self.view_is c.self.invariant c.args.node _ c.index_mut.ensures.value c.args.twin

pub returns-clause-entries : goal.returns-clause-entries
returns-clause-entries c = twin_entries c.self.inside.heads c.self.inside.nodes _ c.self.view_is c.self.invariant c.args.node _ c.index_mut.ensures.value c.args.twin

pub returns-clause-chains : goal.returns-clause-chains
returns-clause-chains c = twin_chains c.self.inside.heads c.self.inside.nodes _ c.self.view_is c.self.invariant c.args.node _ c.index_mut.ensures.value c.args.twin
