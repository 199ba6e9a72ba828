use Rattle.std.proofs.Common.{◌≡◌, true, false, sym, ap, ◌∙◌}
use Rattle.std.proofs.lemmas.Result.{IfOk-weaker}
use Rattle.std.specs.Prelude.{if◌then◌else◌}
use Rattle.slab_laws.specs.OverlayText.{presents_text}
use Rattle.planar_run.specs.Rows.{world_row}
use Rattle.planar_run.specs.World.{blue_of, current, red_of, World}
use Rattle.planar_run.proofs.world.World.overlay_text.Goals as goal

when_blue : (w : World) → w.is_blue ≡ true → presents_text w.other.layer.present w.layer.present ≡ presents_text (red_of w).layer.present (blue_of w).layer.present
when_blue w e = sym (ap (λ b. presents_text (if b then w.other else current w).layer.present (if b then current w else w.other).layer.present) e)

when_red : (w : World) → w.is_blue ≡ false → presents_text w.layer.present w.other.layer.present ≡ presents_text (red_of w).layer.present (blue_of w).layer.present
when_red w e = sym (ap (λ b. presents_text (if b then w.other else current w).layer.present (if b then current w else w.other).layer.present) e)

pub returns-then-self : goal.returns-then-self
returns-then-self g c =
    let world = world_row (goal.Observer-dyn g) c.args.self.now in
    IfOk-weaker c.text_of_both.result _ _ (λ bytes h. h ∙ when_blue world c.if-self.true) c.text_of_both.ensures

pub returns-else-self : goal.returns-else-self
returns-else-self g c =
    let world = world_row (goal.Observer-dyn g) c.args.self.now in
    IfOk-weaker c.text_of_both-else-self.result _ _ (λ bytes h. h ∙ when_red world c.if-self.false) c.text_of_both-else-self.ensures
