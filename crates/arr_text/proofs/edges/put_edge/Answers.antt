use Rattle.arr_text.proofs.Lines.{edge_put}
use Rattle.arr_text.proofs.edges.put_edge.Goals as goal

pub returns : goal.returns
returns g c =
    let v = g.R.Darts.graph c.args.records.now in
    edge_put c.put_text.result v c.requires.sound c.args.dart.now (g.W.Words.curves c.args.records.now c.args.dart.now.name) c.args.out.now.items c.put_ends.new.out.items c.put_curves.new.out.items c.put_text.new.out.items
    c.requires.has c.requires.key c.requires.forward c.in_ok-put_ends.ensures c.in_ok-put_curves.ensures c.put_text.ensures
