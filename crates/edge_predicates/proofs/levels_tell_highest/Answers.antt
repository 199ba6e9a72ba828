use Rattle.edge_predicates.proofs.Levels.{levels_tell_highest}
use Rattle.edge_predicates.proofs.levels_tell_highest.Goals as goal

pub returns : goal.returns
returns c = levels_tell_highest
