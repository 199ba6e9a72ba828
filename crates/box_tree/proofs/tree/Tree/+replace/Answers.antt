use Rattle.std.proofs.Common.{◌≡◌, ◌∙◌, ◌++◌, sym}
use Rattle.box_tree.proofs.AtNode.{at_node}
use Rattle.box_tree.proofs.Covered.{not_there}
use Rattle.box_tree.proofs.Replaced.{replaced_high, replaced_low, replaced_second_low, replaced_second_high, replaced_top, not_replaced}
use Rattle.box_tree.proofs.Same.{told_same, told_other}
use Rattle.box_tree.proofs.tree.Tree.+replace.Goals as goal

pub returns-then-replace-clause-entries : goal.returns-then-replace-clause-entries
returns-then-replace-clause-entries t c =
    let n = at_node c.self.view_is c.self.invariant c.in-Node.is in
    let g : c.deref_mut-node.result.now ≡ c.in-Node.node.value = cc c.deref_mut-node.ensures.value in
    let k = c.deref_mut-node.result.now in
    replaced_high c.args.self.now.entries c.args.old.now c.args.new k.entry k.low.entries k.high.entries c.replace.new.self.entries c.replace.result (rw g n.is) c.replace.ensures.entries c.if-replace.true

pub returns-then-replace-2-clause-entries : goal.returns-then-replace-2-clause-entries
returns-then-replace-2-clause-entries t c =
    let n = at_node c.self.view_is c.self.invariant c.in-Node.is in
    let g : c.deref_mut-node.result.now ≡ c.in-Node.node.value = cc c.deref_mut-node.ensures.value in
    let k = c.deref_mut-node.result.now in
    replaced_second_low c.args.self.now.entries c.args.old.now c.args.new k.entry k.low.entries c.replace-then-is_high.new.self.entries k.high.entries c.replace.new.self.entries c.replace.result c.replace-then-is_high.result (rw g n.is) c.replace.ensures.entries c.if-replace.false c.replace-then-is_high.ensures.entries c.if-replace-2.true

pub returns-then-is_high-clause-entries : goal.returns-then-is_high-clause-entries
returns-then-is_high-clause-entries t c =
    let n = at_node c.self.view_is c.self.invariant c.in-Node.is in
    let g : c.deref_mut-node.result.now ≡ c.in-Node.node.value = cc c.deref_mut-node.ensures.value in
    let k = c.deref_mut-node.result.now in
    not_replaced c.args.self.now.entries c.args.old.now c.args.new k.entry k.low.entries c.replace-then-is_high.new.self.entries k.high.entries c.replace.new.self.entries c.replace-then-is_high.result c.replace.result (rw g n.is) (told_other k.entry c.args.old.now c.is.result c.is.ensures c.if-not-is.true) c.replace-then-is_high.ensures.entries c.if-replace-2.false c.replace.ensures.entries c.if-replace.false

pub returns-then-replace-3-clause-entries : goal.returns-then-replace-3-clause-entries
returns-then-replace-3-clause-entries t c =
    let n = at_node c.self.view_is c.self.invariant c.in-Node.is in
    let g : c.deref_mut-node.result.now ≡ c.in-Node.node.value = cc c.deref_mut-node.ensures.value in
    let k = c.deref_mut-node.result.now in
    replaced_low c.args.self.now.entries c.args.old.now c.args.new k.entry k.low.entries c.replace-then-not-is.new.self.entries k.high.entries c.replace-then-not-is.result (rw g n.is) c.replace-then-not-is.ensures.entries c.if-replace-3.true

pub returns-then-replace-4-clause-entries : goal.returns-then-replace-4-clause-entries
returns-then-replace-4-clause-entries t c =
    let n = at_node c.self.view_is c.self.invariant c.in-Node.is in
    let g : c.deref_mut-node.result.now ≡ c.in-Node.node.value = cc c.deref_mut-node.ensures.value in
    let k = c.deref_mut-node.result.now in
    replaced_second_high c.args.self.now.entries c.args.old.now c.args.new k.entry k.low.entries c.replace-then-not-is.new.self.entries k.high.entries c.replace-then-not-is-2.new.self.entries c.replace-then-not-is.result c.replace-then-not-is-2.result (rw g n.is) c.replace-then-not-is.ensures.entries c.if-replace-3.false c.replace-then-not-is-2.ensures.entries c.if-replace-4.true

pub returns-then-not-is-clause-entries : goal.returns-then-not-is-clause-entries
returns-then-not-is-clause-entries t c =
    let n = at_node c.self.view_is c.self.invariant c.in-Node.is in
    let g : c.deref_mut-node.result.now ≡ c.in-Node.node.value = cc c.deref_mut-node.ensures.value in
    let k = c.deref_mut-node.result.now in
    not_replaced c.args.self.now.entries c.args.old.now c.args.new k.entry k.low.entries c.replace-then-not-is.new.self.entries k.high.entries c.replace-then-not-is-2.new.self.entries c.replace-then-not-is.result c.replace-then-not-is-2.result (rw g n.is) (told_other k.entry c.args.old.now c.is.result c.is.ensures c.if-not-is.true) c.replace-then-not-is.ensures.entries c.if-replace-3.false c.replace-then-not-is-2.ensures.entries c.if-replace-4.false

pub returns-in-Node-clause-entries : goal.returns-in-Node-clause-entries
returns-in-Node-clause-entries t c =
    let n = at_node c.self.view_is c.self.invariant c.in-Node.is in
    let g : c.deref_mut-node.result.now ≡ c.in-Node.node.value = cc c.deref_mut-node.ensures.value in
    let k = c.deref_mut-node.result.now in
    replaced_top c.args.self.now.entries k.entry c.args.old.now c.args.new (k.low.entries ++ k.high.entries) (rw g n.is) (told_same k.entry c.args.old.now c.is.result c.is.ensures c.if-not-is.false)

pub returns-then-is_exceeded-clause-entries : goal.returns-then-is_exceeded-clause-entries
returns-then-is_exceeded-clause-entries t c =
    let n = at_node c.self.view_is c.self.invariant c.in-Node.is in
    let g : c.deref_mut-node.result.now ≡ c.in-Node.node.value = cc c.deref_mut-node.ensures.value in
    (rw g (sym n.is), not_there c.in-Node.node.value.cover c.args.old.now c.args.self.now.entries n.within (rw g at (sym c.is_exceeded.ensures ∙ c.if-is_exceeded.true)))
