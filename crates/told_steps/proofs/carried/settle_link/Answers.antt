use Rattle.told_steps.proofs.Restored.{map_restored}
use Rattle.told_steps.proofs.carried.settle_link.Goals as goal

pub returns-in-Splits-clause-map : goal.returns-in-Splits-clause-map
returns-in-Splits-clause-map c = map_restored c.args.records.now c.give_back.new.self _ c.give_back.ensures.graph c.give_back.ensures.faces c.requires.map
