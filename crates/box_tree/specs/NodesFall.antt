-- Each side of a node is less high than the node.
use Rattle.std.specs.Prelude.{◌≤◌, max}
use Rattle.std.proofs.Common.{arith}
use Rattle.box_tree.specs.declared.tree.Link.{Link}
use Rattle.box_tree.specs.declared.tree.Link.TheVariants.{Empty, Node}
use Rattle.box_tree.specs.declared.tree.Tree.TheDeep.{deep-Link}
use Rattle.box_tree.specs.Nodes.{height}

-- no side is deeper than the node is high
pub depth_le-height : (l : Link) → max (deep-Link l) 0 ≤ height l
depth_le-height Empty = omega arith
depth_le-height (Node n) = omega arith
