use Rattle.std.proofs.Common.{◌≡◌, ◌∙◌, ◌++◌, sym}
use Rattle.box_tree.proofs.AtNode.{at_node}
use Rattle.box_tree.proofs.Covered.{not_there}
use Rattle.box_tree.proofs.Same.{told_same, told_other}
use Rattle.box_tree.proofs.Taken.{popped_root, removed_high, removed_low, removed_second_low, removed_second_high, not_removed}
use Rattle.box_tree.proofs.tree.Tree.+remove.Goals as goal

pub returns-then-remove-clause-entries : goal.returns-then-remove-clause-entries
returns-then-remove-clause-entries t c =
    let n = at_node c.self.view_is c.self.invariant c.in-Node.is in
    let g : c.deref_mut-node.result.now ≡ c.in-Node.node.value = cc c.deref_mut-node.ensures.value in
    let k = c.deref_mut-node.result.now in
    removed_high c.args.self.now.entries c.args.entry.now k.entry k.low.entries k.high.entries c.remove.new.self.entries c.remove.result (rw g n.is) c.remove.ensures.entries c.if-remove.true

pub returns-then-remove-2-clause-entries : goal.returns-then-remove-2-clause-entries
returns-then-remove-2-clause-entries t c =
    let n = at_node c.self.view_is c.self.invariant c.in-Node.is in
    let g : c.deref_mut-node.result.now ≡ c.in-Node.node.value = cc c.deref_mut-node.ensures.value in
    let k = c.deref_mut-node.result.now in
    removed_second_low c.args.self.now.entries c.args.entry.now k.entry k.low.entries c.remove-then-is_high.new.self.entries k.high.entries c.remove.new.self.entries c.remove.result c.remove-then-is_high.result (rw g n.is) c.remove.ensures.entries c.if-remove.false c.remove-then-is_high.ensures.entries c.if-remove-2.true

pub returns-then-is_high-clause-entries : goal.returns-then-is_high-clause-entries
returns-then-is_high-clause-entries t c =
    let n = at_node c.self.view_is c.self.invariant c.in-Node.is in
    let g : c.deref_mut-node.result.now ≡ c.in-Node.node.value = cc c.deref_mut-node.ensures.value in
    let k = c.deref_mut-node.result.now in
    not_removed c.args.self.now.entries c.args.entry.now k.entry k.low.entries c.remove-then-is_high.new.self.entries k.high.entries c.remove.new.self.entries c.remove-then-is_high.result c.remove.result (rw g n.is) (told_other k.entry c.args.entry.now c.is.result c.is.ensures c.if-not-is.true) c.remove-then-is_high.ensures.entries c.if-remove-2.false c.remove.ensures.entries c.if-remove.false

pub returns-then-remove-3-clause-entries : goal.returns-then-remove-3-clause-entries
returns-then-remove-3-clause-entries t c =
    let n = at_node c.self.view_is c.self.invariant c.in-Node.is in
    let g : c.deref_mut-node.result.now ≡ c.in-Node.node.value = cc c.deref_mut-node.ensures.value in
    let k = c.deref_mut-node.result.now in
    removed_low c.args.self.now.entries c.args.entry.now k.entry k.low.entries c.remove-then-not-is.new.self.entries k.high.entries c.remove-then-not-is.result (rw g n.is) c.remove-then-not-is.ensures.entries c.if-remove-3.true

pub returns-then-remove-4-clause-entries : goal.returns-then-remove-4-clause-entries
returns-then-remove-4-clause-entries t c =
    let n = at_node c.self.view_is c.self.invariant c.in-Node.is in
    let g : c.deref_mut-node.result.now ≡ c.in-Node.node.value = cc c.deref_mut-node.ensures.value in
    let k = c.deref_mut-node.result.now in
    removed_second_high c.args.self.now.entries c.args.entry.now k.entry k.low.entries c.remove-then-not-is.new.self.entries k.high.entries c.remove-then-not-is-2.new.self.entries c.remove-then-not-is.result c.remove-then-not-is-2.result (rw g n.is) c.remove-then-not-is.ensures.entries c.if-remove-3.false c.remove-then-not-is-2.ensures.entries c.if-remove-4.true

pub returns-then-not-is-clause-entries : goal.returns-then-not-is-clause-entries
returns-then-not-is-clause-entries t c =
    let n = at_node c.self.view_is c.self.invariant c.in-Node.is in
    let g : c.deref_mut-node.result.now ≡ c.in-Node.node.value = cc c.deref_mut-node.ensures.value in
    let k = c.deref_mut-node.result.now in
    not_removed c.args.self.now.entries c.args.entry.now k.entry k.low.entries c.remove-then-not-is.new.self.entries k.high.entries c.remove-then-not-is-2.new.self.entries c.remove-then-not-is.result c.remove-then-not-is-2.result (rw g n.is) (told_other k.entry c.args.entry.now c.is.result c.is.ensures c.if-not-is.true) c.remove-then-not-is.ensures.entries c.if-remove-3.false c.remove-then-not-is-2.ensures.entries c.if-remove-4.false

pub returns-clause-entries : goal.returns-clause-entries
returns-clause-entries t c =
    let n = at_node c.self.view_is c.self.invariant c.in-Node.is in
    let g : c.deref_mut-node.result.now ≡ c.in-Node.node.value = cc c.deref_mut-node.ensures.value in
    let k = c.deref_mut-node.result.now in
    popped_root c.args.self.now.entries k.entry c.args.entry.now (k.low.entries ++ k.high.entries) c.pop.new.self.entries c.pop.result (rw g n.is) (told_same k.entry c.args.entry.now c.is.result c.is.ensures c.if-not-is.false) c.pop.ensures.entries

pub returns-then-is_exceeded-clause-entries : goal.returns-then-is_exceeded-clause-entries
returns-then-is_exceeded-clause-entries t c =
    let n = at_node c.self.view_is c.self.invariant c.in-Node.is in
    let g : c.deref_mut-node.result.now ≡ c.in-Node.node.value = cc c.deref_mut-node.ensures.value in
    (rw g (sym n.is), not_there c.in-Node.node.value.cover c.args.entry.now c.args.self.now.entries n.within (rw g at (sym c.is_exceeded.ensures ∙ c.if-is_exceeded.true)))
