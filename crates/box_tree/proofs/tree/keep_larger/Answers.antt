use Rattle.box_tree.proofs.Moved.{swapped}
use Rattle.box_tree.proofs.tree.keep_larger.Goals as goal

pub returns-else-size : goal.returns-else-size
returns-else-size c = swapped c.args.lower.now c.args.top.now
