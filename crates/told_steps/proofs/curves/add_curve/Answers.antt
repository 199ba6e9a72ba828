use Rattle.std.proofs.Common.{refl}
use Rattle.plane_graphs.specs.Strands.{strand}
use Rattle.slab_laws.specs.View.{curve_id}
use Rattle.arr_notes.specs.declared.change.Change.TheVariants.{AddCurve}
use Rattle.arr_notes.specs.declared.intent.Intent.TheVariants.{AddCurve as WillAddCurve}
use Rattle.curve_history.specs.Past.{curves_on}
use Rattle.dcel_records.specs.SoundMaps.{map_of}
use Rattle.told_steps.proofs.StrandRuns.{curve_along, strand_step}
use Rattle.told_steps.proofs.ToldOnce.{HasMade, changed_by, told_by}
use Rattle.told_steps.proofs.curves.add_curve.Given as given
use Rattle.told_steps.proofs.curves.add_curve.Goals.{After-hold}
use Rattle.told_steps.proofs.curves.add_curve.Goals as goal

made : (g : given.Over) (c : After-hold g) → HasMade (map_of c.args.records.now) (curves_on c.args.history.now) (AddCurve c.args.d c.args.curve) (map_of c.args.records.now) (curves_on c.hold.new.self)
made g c = record { view = refl; curves = c.hold.ensures.curves; fits = c.requires.forward; noted = tt; listed = tt; sound = c.requires.in_step.sound.graph }

pub tell_after-requires : goal.tell_after-requires
tell_after-requires g c = record { changed = changed_by (made g (goal.at.tell_after-requires g c).After-hold) c.tell_before.ensures.in_step }

pub returns-clause-told : goal.returns-clause-told
returns-clause-told g c = told_by (made g (goal.at.returns-clause-told g c).After-hold) c.requires.in_step.sound _ refl _ (λ i. WillAddCurve (c.ends-low.ensures.low i) (c.ends-low.ensures.high i) c.args.curve) c.tell_before.ensures.round c.tell_after.ensures.round

pub hold-requires-clause-new : goal.hold-requires-clause-new
hold-requires-clause-new g c m = c.requires.new (curve_along c.args.history.now c.args.d c.args.curve.0 c.args.side c.requires.side m)

pub returns-clause-strands : goal.returns-clause-strands
returns-clause-strands g c = strand_step c.args.records.now.graph c.args.history.now (AddCurve c.args.d (curve_id (strand c.args.curve.0 c.args.side))) c.args.records.now.graph c.hold.new.self c.requires.in_step.sound.graph c.requires.in_step.curves c.requires.forward refl c.hold.ensures.strands
