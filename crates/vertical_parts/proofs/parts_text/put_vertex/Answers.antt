use Rattle.vertical_parts.proofs.LinesPut.{vertex_put}
use Rattle.vertical_parts.proofs.parts_text.put_vertex.Goals as goal

pub returns : goal.returns
returns c = vertex_put c.put_point.result c.args.point.now c.args.out.now.items c.put_text.new.out.items c.put_point.new.out.items c.in_ok-put_text.ensures c.put_point.ensures
