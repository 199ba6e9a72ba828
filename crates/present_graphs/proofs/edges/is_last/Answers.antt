use Rattle.std.proofs.Common.{◌≡◌, ◌+◌, ◌-◌, length, take, arith}
use Rattle.present_graphs.specs.Marks.{mark_of}
use Rattle.present_graphs.proofs.LastEdge.{last_told, last_read}
use Rattle.present_graphs.proofs.edges.is_last.Goals as goal

pub returns-in-len1-up : goal.returns-in-len1-up
returns-in-len1-up c =
    let ss = c.args.edges.now in
    let n = length ss - 1 in
    let whole : (length c.args.edges.now - 1) + 1 ≡ length c.args.edges.now = omega arith in
    last_told ss (take n ss) c.last-item.result (mark_of c.args.mark.now) c.joins.result (last_read ss n c.last-item.result whole c.last-item.is) c.joins.ensures
