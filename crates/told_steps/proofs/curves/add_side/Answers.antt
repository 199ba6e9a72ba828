use Rattle.std.proofs.Common.{refl}
use Rattle.plane_graphs.specs.Strands.{strand}
use Rattle.slab_laws.specs.View.{curve_id}
use Rattle.arr_notes.specs.declared.change.Change.TheVariants.{AddCurve}
use Rattle.told_steps.proofs.Begun.{still_in_step}
use Rattle.told_steps.proofs.StrandRuns.{curves_stay, strand_step}
use Rattle.told_steps.proofs.curves.add_side.Goals as goal

pub returns-clause-strands : goal.returns-clause-strands
returns-clause-strands c v s a f = strand_step v c.args.history.now (AddCurve c.args.dart (curve_id (strand c.args.curve.0 c.args.side))) v c.hold.new.self s a f refl c.hold.ensures.strands

pub returns-clause-curves : goal.returns-clause-curves
returns-clause-curves c = curves_stay c.args.history.now c.hold.new.self c.args.dart c.args.curve.0 c.requires.there c.hold.ensures.curves

pub returns-clause-in_step : goal.returns-clause-in_step
returns-clause-in_step c m b t = still_in_step m c.args.history.now m c.hold.new.self refl (returns-clause-curves c) t
