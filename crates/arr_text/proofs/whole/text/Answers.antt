use Rattle.arr_text.proofs.Overlays.{plain_text, told_by}
use Rattle.arr_text.proofs.whole.text.Goals as goal

pub returns : goal.returns
returns g c = told_by c.text_by.result (λ v. v.items) c.text_by.ensures (plain_text (g.R.Darts.graph c.args.records.now) (g.R.Faced.faces c.args.records.now) (g.R.Curved.curve_list c.args.records.now))
