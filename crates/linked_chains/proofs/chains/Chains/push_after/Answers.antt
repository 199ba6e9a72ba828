use Rattle.std.proofs.Common.{arith}
use Rattle.linked_chains.proofs.Reading.{name_below}
use Rattle.linked_chains.proofs.Seen.{node_there, node_absent}
use Rattle.linked_chains.proofs.Writing.{follower_still, place_still, insert_entries, insert_kept, insert_chains}
use Rattle.linked_chains.proofs.chains.Chains.push_after.Goals as goal

pub index-place-requires : goal.index-place-requires
index-place-requires c = node_there c.self.inside.heads c.self.inside.nodes _ c.self.view_is c.args.node c.requires.has

pub some-before-requires : goal.some-before-requires
some-before-requires c = let h = name_below c.self.inside.nodes.slots c.args.node (node_there c.self.inside.heads c.self.inside.nodes _ c.self.view_is c.args.node c.requires.has) in omega (arith, c.capacity-capacity.ensures.slots)

pub some-here-requires : goal.some-here-requires
some-here-requires c = omega (arith, c.insert_reserved-added.ensures.key_in_range, c.insert_reserved-added.ensures.capacity, c.capacity-capacity.ensures.value)

pub set_before-requires : goal.set_before-requires
set_before-requires c = follower_still c.self.inside.heads c.self.inside.nodes _ c.self.view_is c.self.invariant c.args.node _ c.index-place.ensures c.insert_reserved-added.result c.args.item c.args.twin c.insert_reserved-added.new.self c.insert_reserved-added.ensures.was_vacant c.some-before.result c.some-before.ensures c.insert_reserved-added.ensures.updates

pub set_after-requires : goal.set_after-requires
set_after-requires c = place_still c.self.inside.heads c.self.inside.nodes _ c.self.view_is c.self.invariant c.args.node _ c.index-place.ensures c.insert_reserved-added.result c.args.item c.args.twin c.insert_reserved-added.new.self c.insert_reserved-added.ensures.was_vacant c.some-before.result c.some-before.ensures c.insert_reserved-added.ensures.updates c.set_before.new.nodes c.some-here.result c.some-here.ensures c.set_before.ensures

pub invariant_of-self : goal.invariant_of-self
invariant_of-self c = insert_kept c.self.inside.heads c.self.inside.nodes _ c.self.view_is c.self.invariant c.args.node _ c.index-place.ensures c.insert_reserved-added.result c.args.item c.args.twin c.insert_reserved-added.new.self c.insert_reserved-added.ensures.was_vacant c.some-before.result c.some-before.ensures c.insert_reserved-added.ensures.updates c.set_before.new.nodes c.some-here.result c.some-here.ensures c.set_before.ensures c.set_after.new.nodes c.set_after.ensures

pub returns-clause-name : goal.returns-clause-name
returns-clause-name c = node_absent c.self.inside.heads c.self.inside.nodes _ c.self.view_is c.insert_reserved-added.result c.insert_reserved-added.ensures.was_vacant

pub returns-clause-entries : goal.returns-clause-entries
returns-clause-entries c = insert_entries c.self.inside.heads c.self.inside.nodes _ c.self.view_is c.self.invariant c.args.node _ c.index-place.ensures c.insert_reserved-added.result c.args.item c.args.twin c.insert_reserved-added.new.self c.insert_reserved-added.ensures.was_vacant c.some-before.result c.some-before.ensures c.insert_reserved-added.ensures.updates c.set_before.new.nodes c.some-here.result c.some-here.ensures c.set_before.ensures c.set_after.new.nodes c.set_after.ensures

pub returns-clause-chains : goal.returns-clause-chains
returns-clause-chains c = insert_chains c.self.inside.heads c.self.inside.nodes _ c.self.view_is c.self.invariant c.args.node _ c.index-place.ensures c.insert_reserved-added.result c.args.item c.args.twin c.insert_reserved-added.new.self c.insert_reserved-added.ensures.was_vacant c.some-before.result c.some-before.ensures c.insert_reserved-added.ensures.updates c.set_before.new.nodes c.some-here.result c.some-here.ensures c.set_before.ensures c.set_after.new.nodes c.set_after.ensures
