use Rattle.std.proofs.Common.{ap, ◌++◌}
use Rattle.std.specs.Prelude.{codes}
use Rattle.slab_laws.specs.Text.{word}
use Rattle.arr_text.proofs.Joined.{joined}
use Rattle.arr_text.proofs.put.put_number.Goals as goal

pub returns : goal.returns
unfolding word
returns g c =
    joined c.put_text-2.result c.args.out.now.items c.put_text.new.out.items c.put_text-2.new.out.items (codes " ") c.format.result.now (word (g.I.Integer.text c.args.number)) c.in_ok-put_text.ensures c.put_text-2.ensures (ap (λ s. codes " " ++ s) c.format.ensures.text)
