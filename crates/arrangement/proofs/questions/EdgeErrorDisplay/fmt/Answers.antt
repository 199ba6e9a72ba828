use Rattle.std.proofs.Common.{rules}
use Rattle.arrangement.proofs.questions.EdgeErrorDisplay.fmt.Goals as goal

pub returns-in-NoEdge : goal.returns-in-NoEdge
returns-in-NoEdge c = search rules

pub returns-in-NoMemory : goal.returns-in-NoMemory
returns-in-NoMemory c = search rules
