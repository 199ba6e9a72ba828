use Rattle.plane_graphs.specs.Graph.{mark_cmp}
use Rattle.plane_graphs.proofs.Order.{mark_cmp_total, mark_cmp_exact}
use Rattle.present_graphs.specs.Marks.{mark_of}
use Rattle.plane_graphs.proofs.Arranged.{arranged}
use Rattle.present_graphs.proofs.Ties.{mark_ties}
use Rattle.present_graphs.proofs.marks.arrange.Goals as goal

pub returns : goal.returns
unfolding mark_cmp
returns c =
    arranged mark_of mark_cmp mark_cmp_total mark_cmp_exact c.args.marks.now.items c.sort_unstable.new.self.items c.sort_unstable.ensures.permutation _ c.dedup.new.self.items mark_ties c.sort_unstable.ensures.sorted c.dedup.ensures.filtered
