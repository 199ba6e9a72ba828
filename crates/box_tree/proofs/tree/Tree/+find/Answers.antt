use Rattle.std.proofs.Common.{◌∙◌, sym}
use Rattle.std.proofs.lemmas.List.{append-nil}
use Rattle.box_tree.proofs.AtNode.{at_node}
use Rattle.box_tree.proofs.Pruned.{no_names, added_by_three}
use Rattle.box_tree.proofs.tree.Tree.+find.Goals as goal

pub returns-then-not-is_apart-clause-items : goal.returns-then-not-is_apart-clause-items
returns-then-not-is_apart-clause-items t c =
    let n = at_node c.self.view_is c.self.invariant c.in-Node.is in
    let k = c.deref-node.result.now in
    added_by_three c.args.area.now c.args.found.now.items c.note.new.found.items c.find.new.found.items c.find-then-not-is_apart.new.found.items c.args.self.now.entries k.entry k.low.entries k.high.entries (rw c.deref-node.ensures n.is) c.note.ensures.items c.find.ensures.items c.find-then-not-is_apart.ensures.items

pub returns-else-not-is_apart-clause-items : goal.returns-else-not-is_apart-clause-items
returns-else-not-is_apart-clause-items t c =
    let n = at_node c.self.view_is c.self.invariant c.in-Node.is in
    rw (no_names c.args.area.now c.in-Node.node.value.cover c.args.self.now.entries n.within (rw c.deref-node.ensures at (sym c.is_apart.ensures ∙ c.if-not-is_apart.false))) (sym (append-nil c.args.found.now.items))
