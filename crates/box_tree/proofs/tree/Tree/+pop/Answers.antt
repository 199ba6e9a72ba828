use Rattle.std.proofs.Common.{◌≡◌}
use Rattle.box_tree.proofs.AtNode.{at_node}
use Rattle.box_tree.proofs.Taken.{popped_high, popped_low}
use Rattle.box_tree.proofs.tree.Tree.+pop.Goals as goal

pub returns-in-Some-clause-entries : goal.returns-in-Some-clause-entries
returns-in-Some-clause-entries t c =
    let n = at_node c.self.view_is c.self.invariant c.in-Node.is in
    let g : c.deref_mut-node.result.now ≡ c.in-Node.node.value = cc c.deref_mut-node.ensures.value in
    let k = c.deref_mut-node.result.now in
    popped_high c.args.self.now.entries k.entry c.in-Some.next k.low.entries k.high.entries c.pop.new.self.entries (rw g n.is) (rw c.in-Some.is at c.pop.ensures.entries)

pub returns-in-Some-pop-clause-entries : goal.returns-in-Some-pop-clause-entries
returns-in-Some-pop-clause-entries t c =
    let n = at_node c.self.view_is c.self.invariant c.in-Node.is in
    let g : c.deref_mut-node.result.now ≡ c.in-Node.node.value = cc c.deref_mut-node.ensures.value in
    let k = c.deref_mut-node.result.now in
    popped_low c.args.self.now.entries k.entry c.in-Some-pop.next k.low.entries c.pop-else-is_high_larger.new.self.entries k.high.entries (rw g n.is) (rw c.in-Some-pop.is at c.pop-else-is_high_larger.ensures.entries)
