use Rattle.std.proofs.Common.{sym, ◌∙◌}
use Rattle.observer_bus.specs.Rows.{row}
use Rattle.observer_bus.proofs.Seating.{named_by}
use Rattle.observer_bus.proofs.bus.Bus.is_attached.Goals as goal

pub returns : goal.returns
returns g c =
    let n = rw c.deref.ensures.value at c.has_name.ensures in
    n ∙ sym (named_by (row (goal.Observer-dyn g)) c.args.name c.args.self.now.seats.items)
