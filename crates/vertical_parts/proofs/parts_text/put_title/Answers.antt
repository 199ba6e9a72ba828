use Rattle.slab_laws.specs.Text.{number}
use Rattle.vertical_parts.proofs.LinesPut.{title_put}
use Rattle.vertical_parts.proofs.parts_text.put_title.Goals as goal

pub returns : goal.returns
unfolding number
returns c = title_put c.put_text-2.result c.args.vertices c.args.out.now.items c.put_text.new.out.items c.put_number.new.out.items c.put_text-2.new.out.items c.in_ok-put_text.ensures c.in_ok-put_number.ensures c.put_text-2.ensures
