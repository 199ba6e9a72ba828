use Rattle.observer_bus.proofs.Apart.{nobody_apart}
use Rattle.observer_bus.proofs.bus.Bus.new.Goals as goal

pub invariant_of-result-clause-apart : goal.invariant_of-result-clause-apart
invariant_of-result-clause-apart g c = nobody_apart (λ s. s.name) _ c.requires.none
