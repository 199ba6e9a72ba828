use Rattle.std.proofs.Common.{ap, ◌∙◌}
use Rattle.chain_laws.proofs.Tabled.{tabled_slots}
use Rattle.linked_chains.specs.ChainsInMemory.{link_of}
use Rattle.linked_chains.proofs.Seen.{kept_held}
use Rattle.linked_chains.proofs.chains.Chains.reserve.Goals as goal

pub invariant_of-self-in_err-reserve-2 : goal.invariant_of-self-in_err-reserve-2
invariant_of-self-in_err-reserve-2 c = kept_held c.self.inside.heads.entries _ c.self.inside.nodes.slots _ c.reserve.ensures.entries (ap (λ s. s.slots) c.reserve-2.ensures.rest_kept) c.self.invariant

pub returns-in_err-reserve-2-clause-nodes_stay : goal.returns-in_err-reserve-2-clause-nodes_stay
returns-in_err-reserve-2-clause-nodes_stay c = tabled_slots link_of c.self.inside.nodes c.reserve-2.new.self (ap (λ s. s.slots) c.reserve-2.ensures.rest_kept) ∙ ap (λ h. h.nodes) c.self.view_is

pub invariant_of-self-2 : goal.invariant_of-self-2
invariant_of-self-2 c = kept_held c.self.inside.heads.entries _ c.self.inside.nodes.slots _ c.reserve.ensures.entries (ap (λ s. s.slots) c.reserve-2.ensures.rest_kept) c.self.invariant

pub returns-clause-nodes_stay : goal.returns-clause-nodes_stay
returns-clause-nodes_stay c = tabled_slots link_of c.self.inside.nodes c.reserve-2.new.self (ap (λ s. s.slots) c.reserve-2.ensures.rest_kept) ∙ ap (λ h. h.nodes) c.self.view_is
