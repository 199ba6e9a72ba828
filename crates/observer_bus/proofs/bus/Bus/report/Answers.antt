use Rattle.std.proofs.Common.{rules, refl, sym, ◌∙◌}
use Rattle.std.proofs.lemmas.Bool.{false≢true}
use Rattle.observer_bus.proofs.Seating.{unseated_by, seated_by, held_sound, reported}
use Rattle.observer_bus.proofs.bus.Bus.report.Goals as goal

pub returns-in_default-clause-seat : goal.returns-in_default-clause-seat
returns-in_default-clause-seat g c = (λ _. unseated_by _ c.args.name c.args.self.now.seats.items (let n = c.seat_at.ensures.none c.in_default.is in rw c.deref.ensures.value at n), λ _. refl)

pub report-requires : goal.report-requires
report-requires g c = let n = rw c.deref.ensures.value at c.in-Some.ensures.here in let lt = rw c.deref.ensures.value at c.in-Some.ensures.within in let m = rw c.deref.ensures.value at c.in-Some.ensures.first in held_sound _ c.args.name c.args.self.now.seats.items c.in-Some.at c.index.result.now lt c.index.ensures n m c.requires

pub returns-in_err-bytes-clause-seat : goal.returns-in_err-bytes-clause-seat
returns-in_err-bytes-clause-seat g c = let n = rw c.deref.ensures.value at c.in-Some.ensures.here in let lt = rw c.deref.ensures.value at c.in-Some.ensures.within in let m = rw c.deref.ensures.value at c.in-Some.ensures.first in (λ e. let h = rw e at c.from_residual.ensures in cc h.1, λ e. absurd (false≢true (sym e ∙ seated_by _ c.args.name c.args.self.now.seats.items c.in-Some.at c.index.result.now lt c.index.ensures n m)))

pub returns-clause-seat : goal.returns-clause-seat
returns-clause-seat g c = let n = rw c.deref.ensures.value at c.in-Some.ensures.here in let lt = rw c.deref.ensures.value at c.in-Some.ensures.within in let m = rw c.deref.ensures.value at c.in-Some.ensures.first in (λ e. cc, λ e. absurd (false≢true (sym e ∙ seated_by _ c.args.name c.args.self.now.seats.items c.in-Some.at c.index.result.now lt c.index.ensures n m)))

pub returns-clause-text : goal.returns-clause-text
returns-clause-text g c = let n = rw c.deref.ensures.value at c.in-Some.ensures.here in let lt = rw c.deref.ensures.value at c.in-Some.ensures.within in let m = rw c.deref.ensures.value at c.in-Some.ensures.first in reported _ c.args.name c.args.self.now.seats.items c.in-Some.at c.index.result.now lt c.index.ensures n m _ (search rules)
