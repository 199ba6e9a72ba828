use Rattle.std.proofs.Common.{rules}
use Rattle.script_maker.specs.Script.{next_state}
use Rattle.script_maker.proofs.draws.draw.Goals as goal

pub returns-clause-moved : goal.returns-clause-moved
unfolding next_state
returns-clause-moved c = search rules
