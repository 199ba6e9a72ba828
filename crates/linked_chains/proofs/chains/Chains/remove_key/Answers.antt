use Rattle.std.proofs.Common.{ap, ◌∙◌, is_some}
use Rattle.linked_chains.proofs.Seen.{kept_fewer, fewer_keys, chain_fewer, key_seen, count_fewer}
use Rattle.linked_chains.proofs.chains.Chains.remove_key.Goals as goal

pub invariant_of-self : goal.invariant_of-self
invariant_of-self c = kept_fewer c.self.inside.heads c.self.inside.nodes _ c.self.view_is c.self.invariant c.swap_remove.new.self c.args.key c.swap_remove.ensures.updates c.requires.empty

pub returns-clause-keys : goal.returns-clause-keys
returns-clause-keys c = fewer_keys c.self.inside.heads c.self.inside.nodes _ c.self.view_is c.self.invariant c.swap_remove.new.self c.args.key c.swap_remove.ensures.updates

pub returns-clause-count : goal.returns-clause-count
returns-clause-count c = count_fewer c.self.inside.heads c.self.inside.nodes _ c.self.view_is c.swap_remove.new.self c.swap_remove.result (ap is_some c.swap_remove.ensures.value ∙ key_seen c.self.inside.heads c.self.inside.nodes _ c.self.view_is c.args.key ∙ c.requires.has) c.swap_remove.ensures.len

pub returns-clause-chains : goal.returns-clause-chains
returns-clause-chains c = chain_fewer c.self.inside.heads c.self.inside.nodes _ c.self.view_is c.self.invariant c.swap_remove.new.self c.args.key c.swap_remove.ensures.updates c.requires.empty
