use Rattle.sound_changes.proofs.NextDarts.{next_with_one_more_edge}
use Rattle.sound_changes.proofs.next_with_one_more_edge.Goals as goal

pub returns : goal.returns
returns c = λ g h e plane_g plane_h more. next_with_one_more_edge g h e plane_g plane_h more
