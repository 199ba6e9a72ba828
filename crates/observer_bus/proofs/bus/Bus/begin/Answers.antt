use Rattle.observer_bus.proofs.Seating.{room_at_first}
use Rattle.observer_bus.proofs.bus.Bus.begin.Goals as goal

pub invariant_of-self : goal.invariant_of-self
invariant_of-self g c = record {
  few = c.args.self.now.few;
  room = c.args.self.now.room;
  apart = c.args.self.now.apart;
  name_room = λ t. rw c.clear.ensures (room_at_first (λ s. s.join) c.args.self.now.seats.items c.args.self.now.went c.args.self.now.few);
}
