use Rattle.std.proofs.Common.{refl}
use Rattle.arr_notes.specs.declared.change.Change.TheVariants.{RemoveCurve}
use Rattle.arr_notes.specs.declared.intent.Intent.TheVariants.{RemoveCurve as WillRemoveCurve}
use Rattle.curve_history.specs.Past.{curves_on}
use Rattle.dcel_records.specs.SoundMaps.{map_of}
use Rattle.told_steps.proofs.StrandRuns.{sides_go}
use Rattle.told_steps.proofs.ToldOnce.{HasMade, changed_by, told_by}
use Rattle.told_steps.proofs.curves.remove_curve.Given as given
use Rattle.told_steps.proofs.curves.remove_curve.Goals.{After-release_sides}
use Rattle.told_steps.proofs.curves.remove_curve.Goals as goal

made : (g : given.Over) (c : After-release_sides g) → HasMade (map_of c.args.records.now) (curves_on c.args.history.now) (RemoveCurve c.args.d c.args.curve) (map_of c.args.records.now) (curves_on c.release_sides.new.self)
made g c = record { view = refl; curves = c.release_sides.ensures.curves; fits = (c.requires.forward, c.requires.other); noted = tt; listed = tt; sound = c.requires.in_step.sound.graph }

pub tell_after-requires : goal.tell_after-requires
tell_after-requires g c = record { changed = changed_by (made g (goal.at.tell_after-requires g c).After-release_sides) c.tell_before.ensures.in_step }

pub returns-clause-told : goal.returns-clause-told
returns-clause-told g c = told_by (made g (goal.at.returns-clause-told g c).After-release_sides) c.requires.in_step.sound _ refl _ (λ i. WillRemoveCurve (c.ends-low.ensures.low i) (c.ends-low.ensures.high i) c.args.curve) c.tell_before.ensures.round c.tell_after.ensures.round

pub returns-clause-strands : goal.returns-clause-strands
returns-clause-strands g c = sides_go c.args.records.now.graph c.args.history.now c.release_sides.new.self c.args.d c.args.curve.0 c.requires.in_step.sound.graph c.requires.forward c.release_sides.ensures.strands
