use Rattle.std.proofs.Common.{refl, sym, ◌∙◌}
use Rattle.std.proofs.lemmas.Bool.{eqb-true}
use Rattle.std.proofs.lemmas.List.{nil_from_length}
use Rattle.curve_history.specs.Past.{curves_on}
use Rattle.dcel_records.specs.SoundMaps.{map_of}
use Rattle.observer_bus.proofs.Hearing.{nobody_told}
use Rattle.told_steps.specs.ToldRuns.{seen}
use Rattle.told_steps.proofs.told.tell_before.Goals as goal

pub returns-then-is_empty-clause-round : goal.returns-then-is_empty-clause-round
returns-then-is_empty-clause-round g c = nobody_told _ _ _ (nil_from_length _ (eqb-true _ 0 (sym c.is_empty.ensures ∙ c.if-is_empty.true)))

pub returns-then-is_empty-clause-in_step : goal.returns-then-is_empty-clause-in_step
returns-then-is_empty-clause-in_step g c = c.requires.in_step

pub tell-requires-clause-sound : goal.tell-requires-clause-sound
tell-requires-clause-sound g c = c.requires.in_step.sound

pub returns-clause-in_step : goal.returns-clause-in_step
returns-clause-in_step g c =
    let t = c.requires.in_step in
    record {
      sound = t.sound;
      curves = t.curves;
      settled = c.tell.ensures.round.1 ∙ t.settled;
      holds = c.tell.ensures.holds (seen (map_of c.args.records.now) (curves_on c.args.history.now)) t.holds refl;
    }
