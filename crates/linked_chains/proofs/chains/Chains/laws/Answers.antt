use Rattle.std.proofs.Common.{subst, arith}
use Rattle.slab_laws.specs.Tables.{names, NamesAscend}
use Rattle.chain_laws.proofs.Tabled.{ascend-tabled}
use Rattle.linked_chains.specs.ChainsInMemory.{link_of}
use Rattle.linked_chains.proofs.Seen.{whole_seen, keys_seen, chain_short}
use Rattle.linked_chains.proofs.chains.Chains.laws.Goals as goal

pub returns-clause-whole : goal.returns-clause-whole
returns-clause-whole c = whole_seen c.self.inside.heads c.self.inside.nodes _ c.self.view_is c.self.invariant

pub returns-clause-keys : goal.returns-clause-keys
returns-clause-keys c = keys_seen c.self.inside.heads c.self.inside.nodes _ c.self.view_is c.self.invariant

pub returns-clause-ascend : goal.returns-clause-ascend
returns-clause-ascend c = subst (λ h. NamesAscend (names h.nodes)) c.self.view_is (ascend-tabled link_of c.self.inside.nodes)

pub returns-clause-few : goal.returns-clause-few
returns-clause-few c k = let h = chain_short c.self.inside.heads c.self.inside.nodes _ c.self.view_is k in omega (arith, c.capacity-capacity.ensures.holds_all)
