use Rattle.chain_laws.proofs.Tabled.{tabled_empty}
use Rattle.linked_chains.specs.ChainsInMemory.{link_of}
use Rattle.linked_chains.proofs.Seen.{kept_empty, no_key}
use Rattle.linked_chains.proofs.chains.Chains.new.Goals as goal

pub invariant_of-result : goal.invariant_of-result
invariant_of-result c = kept_empty _ _ c.new.ensures.empty c.new-2.ensures.empty

pub returns-clause-nodes : goal.returns-clause-nodes
returns-clause-nodes c = tabled_empty link_of c.new-2.result c.new-2.ensures.empty

pub returns-clause-keys : goal.returns-clause-keys
returns-clause-keys c = no_key _ c.new.ensures.empty
