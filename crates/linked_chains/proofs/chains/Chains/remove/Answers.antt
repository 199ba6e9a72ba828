use Rattle.linked_chains.proofs.Seen.{node_there}
use Rattle.linked_chains.proofs.Writing.{before_there_still, after_there_still, own_head, remove_entries, remove_kept, remove_chains, remove_keys}
use Rattle.linked_chains.proofs.chains.Chains.remove.Goals as goal

pub remove-gone-requires : goal.remove-gone-requires
remove-gone-requires c = node_there c.self.inside.heads c.self.inside.nodes _ c.self.view_is c.args.node c.requires

pub set_after-requires : goal.set_after-requires
set_after-requires c = before_there_still c.self.inside.heads c.self.inside.nodes _ c.self.view_is c.self.invariant c.args.node c.remove-gone.result c.remove-gone.ensures.value c.remove-gone.new.self c.remove-gone.ensures.updates

pub set_before-requires : goal.set_before-requires
set_before-requires c = after_there_still c.self.inside.heads c.self.inside.nodes _ c.self.view_is c.self.invariant c.args.node c.remove-gone.result c.remove-gone.ensures.value c.remove-gone.new.self c.remove-gone.ensures.updates c.set_after.new.nodes c.set_after.ensures

pub set_head-requires : goal.set_head-requires
set_head-requires c = own_head c.self.inside.heads c.self.inside.nodes _ c.self.view_is c.self.invariant c.args.node c.remove-gone.result c.remove-gone.ensures.value c.remove-gone.new.self c.remove-gone.ensures.updates

pub invariant_of-self : goal.invariant_of-self
invariant_of-self c = remove_kept c.self.inside.heads c.self.inside.nodes _ c.self.view_is c.self.invariant c.args.node c.remove-gone.result c.remove-gone.ensures.value c.remove-gone.new.self c.remove-gone.ensures.updates c.set_after.new.nodes c.set_after.ensures c.set_before.new.nodes c.set_before.ensures c.set_head.new.heads c.name.result c.name.ensures c.set_head.ensures

pub returns-clause-entries : goal.returns-clause-entries
returns-clause-entries c = remove_entries c.self.inside.heads c.self.inside.nodes _ c.self.view_is c.self.invariant c.args.node c.remove-gone.result c.remove-gone.ensures.value c.remove-gone.new.self c.remove-gone.ensures.updates c.set_after.new.nodes c.set_after.ensures c.set_before.new.nodes c.set_before.ensures c.set_head.new.heads

pub returns-clause-chains : goal.returns-clause-chains
returns-clause-chains c = remove_chains c.self.inside.heads c.self.inside.nodes _ c.self.view_is c.self.invariant c.args.node c.remove-gone.result c.remove-gone.ensures.value c.remove-gone.new.self c.remove-gone.ensures.updates c.set_after.new.nodes c.set_after.ensures c.set_before.new.nodes c.set_before.ensures c.set_head.new.heads c.name.result c.name.ensures c.set_head.ensures

pub returns-clause-keys : goal.returns-clause-keys
returns-clause-keys c = remove_keys c.self.inside.heads c.self.inside.nodes _ c.self.view_is c.self.invariant c.args.node c.remove-gone.result c.remove-gone.ensures.value c.remove-gone.new.self c.remove-gone.ensures.updates c.set_after.new.nodes c.set_after.ensures c.set_before.new.nodes c.set_before.ensures c.set_head.new.heads c.name.result c.name.ensures c.set_head.ensures
