use Rattle.std.proofs.Common.{◌≡◌, ◌∷◌, arith}
use Rattle.box_tree.specs.Entries.{AllWithin}
use Rattle.box_tree.specs.Nodes.{left_over}
use Rattle.box_tree.proofs.AtNode.{at_node}
use Rattle.box_tree.proofs.Covered.{all_within_more, all_within_placed}
use Rattle.box_tree.proofs.Moved.{placed_high, placed_low}
use Rattle.box_tree.proofs.tree.Tree.+sink.Goals as goal

pub returns-then-is_high-clause-entries : goal.returns-then-is_high-clause-entries
returns-then-is_high-clause-entries t c =
    let n = at_node c.self.view_is c.self.invariant c.in-Node.is in
    let g : c.deref_mut-node.result.now ≡ c.in-Node.node.value = cc c.deref_mut-node.ensures.value in
    rw g (placed_high c.args.self.now.entries c.args.entry.now c.in-Node.node.value.entry c.keep_larger.new.top c.keep_larger.new.lower c.in-Node.node.value.low.entries c.in-Node.node.value.high.entries c.sink.new.self.entries (left_over c.sink.result c.sink.new.entry) n.is (rw g at c.keep_larger.ensures) (rw g at c.sink.ensures.entries))

pub invariant_of-self-then-is_high : goal.invariant_of-self-then-is_high
invariant_of-self-then-is_high t c =
    let n = at_node c.self.view_is c.self.invariant c.in-Node.is in
    let g : c.deref_mut-node.result.now ≡ c.in-Node.node.value = cc c.deref_mut-node.ensures.value in
    let all : AllWithin c.covering-node.result (c.args.entry.now ∷ c.args.self.now.entries) = rw (c.covering-node.ensures, g) (all_within_more c.in-Node.node.value.cover c.args.entry.now c.args.self.now.entries n.within) in
    let room = c.forked-node.ensures.room in
    let placed = c.sink.ensures.height in
    (all_within_placed c.covering-node.result c.args.entry.now c.args.self.now.entries _ (left_over c.sink.result c.sink.new.entry) all (returns-then-is_high-clause-entries t c), omega arith)

pub returns-else-is_high-clause-entries : goal.returns-else-is_high-clause-entries
returns-else-is_high-clause-entries t c =
    let n = at_node c.self.view_is c.self.invariant c.in-Node.is in
    let g : c.deref_mut-node.result.now ≡ c.in-Node.node.value = cc c.deref_mut-node.ensures.value in
    rw g (placed_low c.args.self.now.entries c.args.entry.now c.in-Node.node.value.entry c.keep_larger.new.top c.keep_larger.new.lower c.in-Node.node.value.low.entries c.sink-in-Node.new.self.entries c.in-Node.node.value.high.entries (left_over c.sink-in-Node.result c.sink-in-Node.new.entry) n.is (rw g at c.keep_larger.ensures) (rw g at c.sink-in-Node.ensures.entries))

pub invariant_of-self-in-Node : goal.invariant_of-self-in-Node
invariant_of-self-in-Node t c =
    let n = at_node c.self.view_is c.self.invariant c.in-Node.is in
    let g : c.deref_mut-node.result.now ≡ c.in-Node.node.value = cc c.deref_mut-node.ensures.value in
    let all : AllWithin c.covering-node.result (c.args.entry.now ∷ c.args.self.now.entries) = rw (c.covering-node.ensures, g) (all_within_more c.in-Node.node.value.cover c.args.entry.now c.args.self.now.entries n.within) in
    let room = c.forked-node.ensures.room in
    let placed = c.sink-in-Node.ensures.height in
    (all_within_placed c.covering-node.result c.args.entry.now c.args.self.now.entries _ (left_over c.sink-in-Node.result c.sink-in-Node.new.entry) all (returns-else-is_high-clause-entries t c), omega arith)
