use Rattle.std.proofs.Common.{ap}
use Rattle.slab_laws.specs.Text.{number}
use Rattle.arr_text.proofs.Joined.{said}
use Rattle.arr_text.proofs.put.put_index.Goals as goal

pub returns : goal.returns
unfolding number
returns c = said c.put_number.result c.args.out.now.items c.put_number.new.out.items _ _ c.put_number.ensures (ap number c.number_of.ensures)
