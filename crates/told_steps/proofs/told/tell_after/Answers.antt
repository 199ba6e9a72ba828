use Rattle.std.proofs.Common.{All, sym, ◌∙◌, subst}
use Rattle.std.proofs.lemmas.Bool.{eqb-true}
use Rattle.std.proofs.lemmas.List.{nil_from_length}
use Rattle.std.proofs.lemmas.List.Elements.{All-nil}
use Rattle.curve_history.specs.Past.{curves_on}
use Rattle.dcel_records.specs.SoundMaps.{map_of}
use Rattle.observer_bus.proofs.Hearing.{nobody_told}
use Rattle.observer_bus.specs.Seats.{Holds}
use Rattle.told_steps.proofs.Changed.{curves_now, may_hear, seen_now, sound_now}
use Rattle.told_steps.specs.ToldRuns.{seen}
use Rattle.told_steps.proofs.told.tell_after.Goals as goal

pub returns-then-is_empty-clause-round : goal.returns-then-is_empty-clause-round
returns-then-is_empty-clause-round g c = nobody_told _ _ _ (nil_from_length _ (eqb-true _ 0 (sym c.is_empty.ensures ∙ c.if-is_empty.true)))

pub returns-then-is_empty-clause-in_step : goal.returns-then-is_empty-clause-in_step
returns-then-is_empty-clause-in_step g c =
    let j = c.requires.changed in
    let holds = Holds (seen (map_of c.args.records.now) (curves_on c.args.history.now)) in
    record {
      sound = sound_now j;
      curves = curves_now j;
      settled = j.in_step.settled;
      holds = subst (All holds) (sym (nil_from_length _ (eqb-true _ 0 (sym c.is_empty.ensures ∙ c.if-is_empty.true)))) (All-nil holds);
    }

pub tell-requires-clause-sound : goal.tell-requires-clause-sound
tell-requires-clause-sound g c = sound_now c.requires.changed

pub tell-requires-clause-curves : goal.tell-requires-clause-curves
tell-requires-clause-curves g c = curves_now c.requires.changed

pub tell-requires-clause-fits : goal.tell-requires-clause-fits
tell-requires-clause-fits g c = may_hear c.requires.changed

pub returns-clause-in_step : goal.returns-clause-in_step
returns-clause-in_step g c =
    let j = c.requires.changed in
    record {
      sound = sound_now j;
      curves = curves_now j;
      settled = c.tell.ensures.round.1 ∙ j.in_step.settled;
      holds = c.tell.ensures.holds (seen j.before j.before_curves) j.in_step.holds (seen_now j);
    }
