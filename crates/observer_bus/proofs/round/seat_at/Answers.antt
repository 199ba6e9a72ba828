use Rattle.std.proofs.Common.{refl, sym, ◌∙◌}
use Rattle.observer_bus.specs.Calls.{is_seated_as}
use Rattle.observer_bus.proofs.Finding.{found_here, none_at_all, none_yet, some_none}
use Rattle.observer_bus.proofs.round.seat_at.Goals as goal

pub loop-i-init : goal.loop-i-init
loop-i-init g c = refl

pub returns-then-is_seat_of : goal.returns-then-is_seat_of
returns-then-is_seat_of g c = record {
  none = λ e. absurd (some_none e);
  within = c.loop-i-test.true;
  first = c.loop-i.invariant;
  here = found_here (λ s. is_seated_as c.args.name s.join s.name) c.args.seats.now c.loop-i.i c.index-seats-i.result c.loop-i-test.true c.index-seats-i.is (sym c.is_seat_of.ensures ∙ c.if-is_seat_of.true);
}

pub loop-i-preserved : goal.loop-i-preserved
loop-i-preserved g c = none_yet (λ s. is_seated_as c.args.name s.join s.name) c.args.seats.now c.loop-i.i c.index-seats-i.result c.loop-i-test.true c.index-seats-i.is (sym c.is_seat_of.ensures ∙ c.if-is_seat_of.false) c.loop-i.invariant

pub returns : goal.returns
returns g c = record {
  none = λ e. none_at_all (λ s. is_seated_as c.args.name s.join s.name) c.args.seats.now c.loop-i.i c.loop-i-test.false c.loop-i.invariant;
  within = tt;
  first = tt;
  here = tt;
}
