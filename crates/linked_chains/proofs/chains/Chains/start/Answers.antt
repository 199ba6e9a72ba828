use Rattle.std.proofs.Common.{arith}
use Rattle.linked_chains.proofs.Seen.{node_absent, succeeded}
use Rattle.linked_chains.proofs.Started.{start_kept, start_entries, start_here, start_others, start_keys, start_keeps}
use Rattle.linked_chains.proofs.chains.Chains.start.Goals as goal

pub some-requires : goal.some-requires
some-requires c = omega (arith, c.insert_reserved-node.ensures.key_in_range, c.insert_reserved-node.ensures.capacity, c.capacity-capacity.ensures.value)

pub invariant_of-self : goal.invariant_of-self
invariant_of-self c = start_kept c.self.inside.heads c.self.inside.nodes _ c.self.view_is c.self.invariant c.insert_reserved-node.result (record { key = c.args.key; item = c.args.item; twin = c.args.twin }) c.insert_reserved-node.new.self c.insert_reserved-node.ensures.was_vacant c.requires.new c.none-nobody.result c.none-nobody.ensures c.insert_reserved-node.ensures.updates c.some.result c.some.ensures c.insert.new.self (succeeded c.insert.result c.unwrap.result c.unwrap.ensures c.insert.ensures.updates)

pub returns-clause-name : goal.returns-clause-name
returns-clause-name c = node_absent c.self.inside.heads c.self.inside.nodes _ c.self.view_is c.insert_reserved-node.result c.insert_reserved-node.ensures.was_vacant

pub returns-clause-entries : goal.returns-clause-entries
returns-clause-entries c = start_entries c.self.inside.heads c.self.inside.nodes _ c.self.view_is c.self.invariant c.insert_reserved-node.result (record { key = c.args.key; item = c.args.item; twin = c.args.twin }) c.insert_reserved-node.new.self c.insert_reserved-node.ensures.was_vacant c.requires.new c.none-nobody.result c.none-nobody.ensures c.insert_reserved-node.ensures.updates c.some.result c.some.ensures c.insert.new.self (succeeded c.insert.result c.unwrap.result c.unwrap.ensures c.insert.ensures.updates)

pub returns-clause-here : goal.returns-clause-here
returns-clause-here c = start_here c.self.inside.heads c.self.inside.nodes _ c.self.view_is c.self.invariant c.insert_reserved-node.result (record { key = c.args.key; item = c.args.item; twin = c.args.twin }) c.insert_reserved-node.new.self c.insert_reserved-node.ensures.was_vacant c.requires.new c.none-nobody.result c.none-nobody.ensures c.insert_reserved-node.ensures.updates c.some.result c.some.ensures c.insert.new.self (succeeded c.insert.result c.unwrap.result c.unwrap.ensures c.insert.ensures.updates)

pub returns-clause-others : goal.returns-clause-others
returns-clause-others c = start_others c.self.inside.heads c.self.inside.nodes _ c.self.view_is c.self.invariant c.insert_reserved-node.result (record { key = c.args.key; item = c.args.item; twin = c.args.twin }) c.insert_reserved-node.new.self c.insert_reserved-node.ensures.was_vacant c.requires.new c.none-nobody.result c.none-nobody.ensures c.insert_reserved-node.ensures.updates c.some.result c.some.ensures c.insert.new.self (succeeded c.insert.result c.unwrap.result c.unwrap.ensures c.insert.ensures.updates)

pub returns-clause-keys : goal.returns-clause-keys
returns-clause-keys c = start_keys c.self.inside.heads c.self.inside.nodes _ c.self.view_is c.self.invariant c.insert_reserved-node.result (record { key = c.args.key; item = c.args.item; twin = c.args.twin }) c.insert_reserved-node.new.self c.insert_reserved-node.ensures.was_vacant c.requires.new c.none-nobody.result c.none-nobody.ensures c.insert_reserved-node.ensures.updates c.some.result c.some.ensures c.insert.new.self (succeeded c.insert.result c.unwrap.result c.unwrap.ensures c.insert.ensures.updates)

pub returns-clause-keeps : goal.returns-clause-keeps
returns-clause-keeps c = start_keeps c.self.inside.heads c.self.inside.nodes _ c.self.view_is c.self.invariant c.insert_reserved-node.result (record { key = c.args.key; item = c.args.item; twin = c.args.twin }) c.insert_reserved-node.new.self c.insert_reserved-node.ensures.was_vacant c.requires.new c.none-nobody.result c.none-nobody.ensures c.insert_reserved-node.ensures.updates c.some.result c.some.ensures c.insert.new.self (succeeded c.insert.result c.unwrap.result c.unwrap.ensures c.insert.ensures.updates)
