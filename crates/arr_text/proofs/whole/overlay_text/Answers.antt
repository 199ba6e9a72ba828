use Rattle.arr_text.proofs.Overlays.{coloured_text, told_by}
use Rattle.arr_text.proofs.whole.overlay_text.Goals as goal

pub returns : goal.returns
returns g c = told_by c.text_by.result (λ v. v.items) c.text_by.ensures (coloured_text (g.R.Darts.graph c.args.records.now) (g.R.Faced.faces c.args.records.now) c.requires (g.R.Layered.red c.args.records.now) (g.R.Layered.blue c.args.records.now))
