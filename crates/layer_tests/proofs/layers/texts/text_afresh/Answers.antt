use Rattle.std.proofs.Common.{ap, ◌∙◌}
use Rattle.told_steps.proofs.Seen.{told_records}
use Rattle.arrangement.proofs.Layers.{drawn_layer, forward_curves}
use Rattle.layer_tests.proofs.layers.texts.text_afresh.Goals as goal

pub new-drawn-requires : goal.new-drawn-requires
new-drawn-requires g c = rw c.records.ensures.graph (rw c.history.ensures (told_records _ _ c.laws.ensures.sound c.laws.ensures.layer.curves))

pub subdivide_of-requires-clause-sound : goal.subdivide_of-requires-clause-sound
subdivide_of-requires-clause-sound g c = rw c.new-drawn.ensures.records (rw c.records.ensures.graph c.laws.ensures.sound)

pub subdivide_of-requires-clause-curves : goal.subdivide_of-requires-clause-curves
subdivide_of-requires-clause-curves g c =
    let d = c.new-drawn.result in
    forward_curves d.records.graph d.history
    (drawn_layer _ _ d.records.graph d.history (ap (λ r. r.graph) c.new-drawn.ensures.records ∙ c.records.ensures.graph) (c.new-drawn.ensures.history ∙ c.history.ensures) c.laws.ensures.layer)
