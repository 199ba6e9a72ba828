use Rattle.slab_laws.specs.Text.{number}
use Rattle.arr_text.proofs.Lines.{ends_put}
use Rattle.arr_text.proofs.edges.put_ends.Goals as goal

pub returns : goal.returns
unfolding number
returns c =
    ends_put c.put_text-2.result c.args.dart.now.source c.args.dart.now.target c.args.out.now.items c.put_text.new.out.items c.put_number.new.out.items c.put_number-2.new.out.items c.put_text-2.new.out.items
    c.in_ok-put_text.ensures c.in_ok-put_number.ensures c.in_ok-put_number-2.ensures c.put_text-2.ensures
