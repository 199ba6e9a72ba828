use Rattle.std.proofs.Common.{◌==◌, refl, sym, ◌∙◌}
use Rattle.std.proofs.lemmas.Bool.{eq-eqb, ne_eqb}
use Rattle.observer_bus.proofs.Finding.{found_from, none_left, passed_by}
use Rattle.observer_bus.proofs.round.has_name.Goals as goal

pub loop-seat-init : goal.loop-seat-init
loop-seat-init g c = refl

pub returns-then-name : goal.returns-then-name
returns-then-name g c = found_from (λ s. s.name == c.args.name) c.args.seats.now c.loop-seat.seat-index c.seat-item.result c.loop-seat-test.true c.seat-item.is (eq-eqb c.seat-item.result.name c.args.name (sym c.name.ensures ∙ c.if-name.true)) c.loop-seat.invariant

pub loop-seat-preserved : goal.loop-seat-preserved
loop-seat-preserved g c = passed_by (λ s. s.name == c.args.name) c.args.seats.now c.loop-seat.seat-index c.seat-item.result c.loop-seat-test.true c.seat-item.is (ne_eqb c.seat-item.result.name c.args.name (λ e. c.if-name.false (c.name.ensures ∙ e))) c.loop-seat.invariant

pub returns : goal.returns
returns g c = none_left (λ s. s.name == c.args.name) c.args.seats.now c.loop-seat.seat-index c.loop-seat-test.false c.loop-seat.invariant
