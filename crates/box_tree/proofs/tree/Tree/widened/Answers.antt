use Rattle.std.proofs.Common.{◌≡◌}
use Rattle.box_tree.proofs.AtNode.{at_node}
use Rattle.box_tree.proofs.Covered.{within_covering_first, within_covering_second, all_within_wider}
use Rattle.box_tree.proofs.tree.Tree.widened.Goals as goal

pub returns-in-Node-clause-first : goal.returns-in-Node-clause-first
returns-in-Node-clause-first c = rw c.covering.ensures (within_covering_second c.deref.result.now.cover c.args.bounds.now)

pub returns-in-Node-clause-all : goal.returns-in-Node-clause-all
returns-in-Node-clause-all c =
    let n = at_node c.self.view_is c.self.invariant c.in-Node.is in
    let same : c.deref.result.now ≡ c.in-Node.node.value = cc c.deref.ensures in
    rw (c.covering.ensures, same) (all_within_wider _ _ c.args.self.now.entries (within_covering_first c.in-Node.node.value.cover c.args.bounds.now) n.within)
