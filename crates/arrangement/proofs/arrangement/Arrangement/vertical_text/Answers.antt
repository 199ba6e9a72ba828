use Rattle.std.proofs.Common.{◌∙◌}
use Rattle.arrangement.proofs.Ends.{if_ok}
use Rattle.arrangement.proofs.Layers.{told_vertical}
use Rattle.arrangement.proofs.arrangement.Arrangement.vertical_text.Goals as goal

pub text-requires : goal.text-requires
text-requires g c = c.self.invariant.1.0.map

pub returns : goal.returns
returns g c = rw (← c.self.view_is) (if_ok c.text.result _ _ (λ bytes h. h ∙ told_vertical _ _ c.self.invariant.0) c.text.ensures)
