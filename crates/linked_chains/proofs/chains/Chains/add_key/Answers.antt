use Rattle.std.proofs.Common.{ℕ, nat_eq, Option, Some, ap, subst, ◌∙◌}
use Rattle.std.specs.HashMap.{Updates}
use Rattle.indexmap.specs.IndexMap.{insert_entry}
use Rattle.linked_chains.proofs.Seen.{succeeded, kept_more, entries_after, more_keys, chain_more, no_chain}
use Rattle.linked_chains.proofs.chains.Chains.add_key.Goals as goal

pub invariant_of-self : goal.invariant_of-self
invariant_of-self c = kept_more c.self.inside.heads c.self.inside.nodes _ c.self.view_is c.self.invariant c.insert.new.self c.args.key (subst (λ (o : Option ℕ). Updates nat_eq c.self.inside.heads c.insert.new.self c.args.key (Some o)) c.none.ensures (succeeded c.insert.result c.unwrap.result c.unwrap.ensures c.insert.ensures.updates)) c.requires.new

pub returns-clause-heads : goal.returns-clause-heads
returns-clause-heads c = entries_after c.self.inside.heads c.self.inside.nodes _ c.self.view_is c.self.invariant c.insert.new.self c.args.key c.requires.new (succeeded c.insert.result c.unwrap.result c.unwrap.ensures c.insert.ensures.entries ∙ ap (λ (o : Option ℕ). insert_entry nat_eq c.self.inside.heads.entries c.args.key o) c.none.ensures)

pub returns-clause-keys : goal.returns-clause-keys
returns-clause-keys c = more_keys c.self.inside.heads c.self.inside.nodes _ c.self.view_is c.self.invariant c.insert.new.self c.args.key (subst (λ (o : Option ℕ). Updates nat_eq c.self.inside.heads c.insert.new.self c.args.key (Some o)) c.none.ensures (succeeded c.insert.result c.unwrap.result c.unwrap.ensures c.insert.ensures.updates))

pub returns-clause-empty : goal.returns-clause-empty
returns-clause-empty c = chain_more c.self.inside.heads c.self.inside.nodes _ c.self.view_is c.self.invariant c.insert.new.self c.args.key (subst (λ (o : Option ℕ). Updates nat_eq c.self.inside.heads c.insert.new.self c.args.key (Some o)) c.none.ensures (succeeded c.insert.result c.unwrap.result c.unwrap.ensures c.insert.ensures.updates)) c.requires.new c.args.key ∙ no_chain c.self.inside.heads c.self.inside.nodes _ c.self.view_is c.self.invariant c.args.key c.requires.new

pub returns-clause-others : goal.returns-clause-others
returns-clause-others c = chain_more c.self.inside.heads c.self.inside.nodes _ c.self.view_is c.self.invariant c.insert.new.self c.args.key (subst (λ (o : Option ℕ). Updates nat_eq c.self.inside.heads c.insert.new.self c.args.key (Some o)) c.none.ensures (succeeded c.insert.result c.unwrap.result c.unwrap.ensures c.insert.ensures.updates)) c.requires.new
