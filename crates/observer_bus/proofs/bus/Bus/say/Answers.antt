use Rattle.observer_bus.proofs.Apart.{apart_round}
use Rattle.observer_bus.proofs.Holding.{all_hold}
use Rattle.observer_bus.proofs.bus.Bus.say.Goals as goal

pub returns-clause-holds : goal.returns-clause-holds
returns-clause-holds g c = λ v h l. all_hold _ v _ _ _ _ c.say.ensures.round.1 l h

pub invariant_of-self-clause-apart : goal.invariant_of-self-clause-apart
invariant_of-self-clause-apart g c = apart_round _ _ _ _ _ c.args.self.now.seats.items c.say.new.seats.items c.say.ensures.round c.args.self.now.apart
