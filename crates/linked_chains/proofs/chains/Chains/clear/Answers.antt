use Rattle.chain_laws.proofs.Tabled.{tabled_empty}
use Rattle.linked_chains.specs.ChainsInMemory.{link_of}
use Rattle.linked_chains.proofs.Seen.{kept_empty}
use Rattle.linked_chains.proofs.chains.Chains.clear.Goals as goal

pub invariant_of-self : goal.invariant_of-self
invariant_of-self c = kept_empty _ _ c.clear.ensures.empty c.clear-2.ensures.empty

pub returns-clause-nodes : goal.returns-clause-nodes
returns-clause-nodes c = tabled_empty link_of c.clear-2.new.self c.clear-2.ensures.empty
