use Rattle.std.proofs.Common.{subst, ◌+◌, arith, rules, ◌≡◌, length}
use Rattle.locate_trapezoid.specs.declared.node.Slot.TheVariants.{Child}
use Rattle.locate_trapezoid.specs.Nodes.{IsLeaf, arena}
use Rattle.locate_trapezoid.proofs.Grown.{tree_grows, depth_grows, down_new}
use Rattle.locate_trapezoid.proofs.Linked.{room, hangs_there}
use Rattle.locate_trapezoid.proofs.Paths.{down_place, down_level}
use Rattle.locate_trapezoid.proofs.graph.hang.Goals as goal

pub overflow_add-level : goal.overflow_add-level
overflow_add-level c = let h = down_level (arena c.args.graph.now.nodes.items) c.requires.tree c.args.leaf.slot c.args.leaf.level c.requires.leaf.down in let n : c.len-number.result ≡ length c.args.graph.now.nodes.items = search rules in omega arith

pub link-requires : goal.link-requires
link-requires c = λ i b e. room c.args.graph.now.nodes.items c.push.new.self.items c.args.test c.new.result c.new.ensures c.in_ok-push.ensures.items i (down_place (arena c.args.graph.now.nodes.items) c.requires.tree c.args.leaf.slot c.args.leaf.level i b c.requires.leaf.down e)

pub returns-clause-grown : goal.returns-clause-grown
returns-clause-grown c =
    hangs_there c.args.graph.now.nodes.items c.push.new.self.items c.args.test c.new.result c.new.ensures c.in_ok-push.ensures.items c.link.new.nodes.items c.args.leaf.slot c.len-number.result
    (λ i b e. down_place (arena c.args.graph.now.nodes.items) c.requires.tree c.args.leaf.slot c.args.leaf.level i b c.requires.leaf.down e)
    c.requires.leaf.bare (search rules) c.link.ensures

pub returns-clause-tree : goal.returns-clause-tree
returns-clause-tree c =
    tree_grows (arena c.args.graph.now.nodes.items) (arena c.link.new.nodes.items) c.args.leaf.slot c.args.test c.requires.tree (returns-clause-grown c)
    (λ i b e. down_place (arena c.args.graph.now.nodes.items) c.requires.tree c.args.leaf.slot c.args.leaf.level i b c.requires.leaf.down e)

pub returns-clause-depth : goal.returns-clause-depth
returns-clause-depth c =
    depth_grows (arena c.args.graph.now.nodes.items) (arena c.link.new.nodes.items) c.args.leaf.slot c.args.test c.requires.tree (returns-clause-grown c)
    c.args.leaf.level c.requires.leaf.down c.requires.leaf.bare c.args.graph.now.depth c.max-graph.result c.requires.depth c.max-graph.ensures

pub returns-clause-leaf : goal.returns-clause-leaf
returns-clause-leaf c =
    let number : length c.args.graph.now.nodes.items ≡ c.len-number.result = search rules in
    subst (λ n. IsLeaf (arena c.link.new.nodes.items) (record { slot = Child n c.args.is_more; level = c.args.leaf.level + 1 })) number
    (record {
      down = down_new (arena c.args.graph.now.nodes.items) (arena c.link.new.nodes.items) c.args.leaf.slot c.args.test c.requires.tree (returns-clause-grown c) c.args.leaf.level c.requires.leaf.down c.requires.leaf.bare c.args.is_more;
      bare = (returns-clause-grown c).fresh c.args.is_more;
    })
