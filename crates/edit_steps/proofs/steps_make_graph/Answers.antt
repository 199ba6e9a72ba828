use Rattle.edit_steps.proofs.Laws.{make_graph as the_law}
use Rattle.edit_steps.proofs.steps_make_graph.Goals as goal

pub returns : goal.returns
returns c = the_law
