use Rattle.observer_bus.proofs.Losses.{fates_by_losses}
use Rattle.observer_bus.proofs.laws.fates_are_by_losses.Goals as goal

pub returns : goal.returns
returns c = fates_by_losses
