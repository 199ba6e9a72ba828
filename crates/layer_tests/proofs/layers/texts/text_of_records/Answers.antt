use Rattle.told_steps.proofs.Seen.{told_records}
use Rattle.layer_tests.proofs.layers.texts.text_of_records.Goals as goal

pub new-drawn-requires : goal.new-drawn-requires
new-drawn-requires g c = rw c.records.ensures.graph (rw c.history.ensures (told_records _ _ c.laws.ensures.sound c.laws.ensures.layer.curves))

pub text-requires : goal.text-requires
text-requires g c = rw c.new-drawn.ensures.records c.records.ensures.map.sound
