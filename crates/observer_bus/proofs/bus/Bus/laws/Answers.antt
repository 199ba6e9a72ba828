use Rattle.observer_bus.proofs.Apart.{apart_rows}
use Rattle.observer_bus.proofs.bus.Bus.laws.Goals as goal

pub returns : goal.returns
returns g c = record { apart = apart_rows _ c.args.self.now.seats.items c.args.self.now.apart }
