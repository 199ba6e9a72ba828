use Rattle.std.proofs.Common.{refl, sym, ◌∙◌}
use Rattle.std.proofs.lemmas.Bool.{eq-eqb, ne_eqb, false≢true}
use Rattle.observer_bus.specs.Rows.{row}
use Rattle.observer_bus.proofs.Heard.{gone_by, joins_now, kept_told, lost_now, one_nearer, waits_on}
use Rattle.observer_bus.proofs.seat.Seat.turn.Goals as goal

pub hear-requires : goal.hear-requires
hear-requires g c = record { seated = c.in-None.is; fits = c.requires.fits; round = c.requires.round }

pub returns-in-None : goal.returns-in-None
returns-in-None g c =
    let h = c.hear.ensures in record {
      fate = h.fate;
      kept = λ t. kept_told _ _ c.hear.result _ _ (h.stays t) (h.told (h.stays t));
      gone = gone_by _ c.hear.result _ _ h.last h.untold h.lost;
    }

pub returns-in-Ok : goal.returns-in-Ok
returns-in-Ok g c =
    let h = c.welcome.ensures in
    let s = row (goal.Observer-dyn g) c.args.self.now in record {
      fate = joins_now s c.in-Some-eq1.field-0 c.in-Some-eq1.is (eq-eqb c.in-Some-eq1.field-0 1 (sym c.in-Some-eq1.field-0-is ∙ c.in-Some-eq1.field-0-test));
      kept = λ t. record { name = h.name; join = refl; leave = h.leave; tells = h.tells; left = h.left; heard = c.in-Ok.ensures.heard; held = c.in-Ok.ensures.held };
      gone = λ e. absurd (false≢true (sym e));
    }

pub returns-in-Err : goal.returns-in-Err
returns-in-Err g c =
    let h = c.welcome.ensures in
    let s = row (goal.Observer-dyn g) c.args.self.now in record {
      fate = lost_now s c.in-Some-eq1.field-0 c.in-Some-eq1.is (eq-eqb c.in-Some-eq1.field-0 1 (sym c.in-Some-eq1.field-0-is ∙ c.in-Some-eq1.field-0-test));
      kept = λ t. absurd (false≢true t);
      gone = λ e. record { name = h.name; join = h.join; tells = h.tells; left = λ j. h.left };
    }

pub returns-in-Some : goal.returns-in-Some
returns-in-Some g c =
    let s = row (goal.Observer-dyn g) c.args.self.now in record {
      fate = waits_on s c.in-Some.k c.in-Some.is (ne_eqb c.in-Some.k 1 (rw c.in-Some.is at c.in-Some.k-test.1));
      kept = λ t. one_nearer s c.in-Some.k c.in-Some.is;
      gone = λ e. absurd (false≢true (sym e));
    }
