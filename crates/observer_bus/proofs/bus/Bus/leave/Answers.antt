use Rattle.std.proofs.Common.{rules, sym, ap}
use Rattle.observer_bus.proofs.Apart.{apart_left_now, apart_left_later}
use Rattle.observer_bus.proofs.Seating.{unseated_by, seated_by, left_now, left_later, room_left_now, room_left_later}
use Rattle.observer_bus.proofs.bus.Bus.leave.Goals as goal

pub returns-in_default-clause-seated : goal.returns-in_default-clause-seated
returns-in_default-clause-seated g c = sym (unseated_by _ c.args.name c.args.self.now.seats.items (let n = c.seat_at.ensures.none c.in_default.is in rw c.deref.ensures.value at n))

pub invariant_of-self-clause-apart : goal.invariant_of-self-clause-apart
invariant_of-self-clause-apart g c = let lt = rw c.deref.ensures.value at c.in-Some.ensures.within in apart_left_now (λ s. s.name) c.args.self.now.seats.items c.args.self.now.apart c.in-Some.at c.remove-gone.result lt c.remove-gone.ensures.value _ c.remove-gone.ensures.by_index.2

pub invariant_of-self-clause-name_room : goal.invariant_of-self-clause-name_room
invariant_of-self-clause-name_room g c = let lt = rw c.deref.ensures.value at c.in-Some.ensures.within in λ t. room_left_now (λ s. s.join) c.args.self.now.seats.items c.args.self.now.went c.in-Some.at c.remove-gone.result lt c.remove-gone.ensures.value (c.args.self.now.name_room t) _ c.remove-gone.ensures.by_index.2

pub invariant_of-self-in-Some-when : goal.invariant_of-self-in-Some-when
invariant_of-self-in-Some-when g c = record {
  few = search rules;
  room = search rules;
  apart = let lt = rw c.deref.ensures.value at c.in-Some.ensures.within in apart_left_later (λ s. s.name) c.args.self.now.seats.items c.args.self.now.apart c.in-Some.at c.index_mut-seat.result.now lt c.index_mut-seat.ensures.value _ (ap (λ r. r.name) c.plan_leave.ensures);
  name_room = let lt = rw c.deref.ensures.value at c.in-Some.ensures.within in λ t. room_left_later (λ s. s.join) c.args.self.now.seats.items c.args.self.now.went c.in-Some.at c.index_mut-seat.result.now lt c.index_mut-seat.ensures.value (c.args.self.now.name_room t) _ (ap (λ r. r.join) c.plan_leave.ensures);
}

pub returns-in-None-clause-seated : goal.returns-in-None-clause-seated
returns-in-None-clause-seated g c = let n = rw c.deref.ensures.value at c.in-Some.ensures.here in let lt = rw c.deref.ensures.value at c.in-Some.ensures.within in let m = rw c.deref.ensures.value at c.in-Some.ensures.first in sym (seated_by _ c.args.name c.args.self.now.seats.items c.in-Some.at c.remove-gone.result lt c.remove-gone.ensures.value n m)

pub returns-in-None-clause-left : goal.returns-in-None-clause-left
returns-in-None-clause-left g c = let n = rw c.deref.ensures.value at c.in-Some.ensures.here in let lt = rw c.deref.ensures.value at c.in-Some.ensures.within in let m = rw c.deref.ensures.value at c.in-Some.ensures.first in left_now _ c.args.name c.args.self.now.seats.items c.in-Some.at c.remove-gone.result lt c.remove-gone.ensures.value n m _ _ _ _ c.in-None.is c.remove-gone.ensures.by_index.2

pub returns-in-Some-when-clause-seated : goal.returns-in-Some-when-clause-seated
returns-in-Some-when-clause-seated g c = let n = rw c.deref.ensures.value at c.in-Some.ensures.here in let lt = rw c.deref.ensures.value at c.in-Some.ensures.within in let m = rw c.deref.ensures.value at c.in-Some.ensures.first in sym (seated_by _ c.args.name c.args.self.now.seats.items c.in-Some.at c.index_mut-seat.result.now lt c.index_mut-seat.ensures.value n m)

pub returns-in-Some-when-clause-left : goal.returns-in-Some-when-clause-left
returns-in-Some-when-clause-left g c = let n = rw c.deref.ensures.value at c.in-Some.ensures.here in let lt = rw c.deref.ensures.value at c.in-Some.ensures.within in let m = rw c.deref.ensures.value at c.in-Some.ensures.first in left_later _ c.args.name c.args.self.now.seats.items c.in-Some.at c.index_mut-seat.result.now lt c.index_mut-seat.ensures.value n m _ _ _ _ _ c.in-Some-when.is c.plan_leave.ensures
