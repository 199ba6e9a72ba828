use Rattle.vertical_parts.proofs.LinesPut.{edge_put}
use Rattle.vertical_parts.proofs.parts_text.put_edge.Goals as goal

pub returns : goal.returns
returns c =
    edge_put c.put_point-2.result c.args.lower.now c.args.upper.now c.args.out.now.items c.put_text.new.out.items c.put_point.new.out.items c.put_point-2.new.out.items
    c.in_ok-put_text.ensures c.in_ok-put_point.ensures c.put_point-2.ensures
