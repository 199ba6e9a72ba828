use Rattle.std.proofs.Common.{ap, ◌∙◌, ◌++◌, List, ℕ, append_assoc}
use Rattle.std.specs.Prelude.{codes}
use Rattle.slab_laws.specs.Text.{word}
use Rattle.arr_text.proofs.Joined.{joined}
use Rattle.arr_text.proofs.put.put_lettered.Goals as goal
use Rattle.plane_graphs.proofs.Lists.{then_appended}

pub returns : goal.returns
unfolding word
returns g c =
    let two = then_appended c.args.out.now.items c.put_text.new.out.items c.put_text-2.new.out.items (codes " ") c.args.letter.now c.in_ok-put_text.ensures c.in_ok-put_text-2.ensures in
    joined c.put_text-3.result c.args.out.now.items c.put_text-2.new.out.items c.put_text-3.new.out.items (codes " " ++ c.args.letter.now) c.format.result.now (word (c.args.letter.now ++ g.I.Integer.text c.args.number)) two c.put_text-3.ensures
    (ap (λ (t : List ℕ). (codes " " ++ c.args.letter.now) ++ t) c.format.ensures.text ∙ append_assoc (codes " ") c.args.letter.now (g.I.Integer.text c.args.number))
