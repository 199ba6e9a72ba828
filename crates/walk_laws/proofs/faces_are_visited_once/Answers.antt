use Rattle.walk_laws.proofs.Once.{faces_are_visited_once}
use Rattle.walk_laws.proofs.faces_are_visited_once.Goals as goal

pub returns : goal.returns
returns c = faces_are_visited_once
