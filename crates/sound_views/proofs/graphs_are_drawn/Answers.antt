use Rattle.sound_views.proofs.GraphDrawn.{graphs_are_drawn}
use Rattle.sound_views.proofs.graphs_are_drawn.Goals as goal

pub returns : goal.returns
returns c = graphs_are_drawn
