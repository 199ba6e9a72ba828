use Rattle.slab_laws.specs.Text.{number}
use Rattle.arr_text.proofs.Assembly.{title_put}
use Rattle.arr_text.proofs.whole.put_title.Goals as goal

pub returns : goal.returns
unfolding number
returns c =
    title_put c.put_text-2.result c.args.word.now c.args.vertices c.args.edges c.args.faces c.args.out.now.items c.put_text.new.out.items c.put_number.new.out.items c.put_number-2.new.out.items c.put_number-3.new.out.items c.put_text-2.new.out.items
    c.in_ok-put_text.ensures c.in_ok-put_number.ensures c.in_ok-put_number-2.ensures c.in_ok-put_number-3.ensures c.put_text-2.ensures
