use Rattle.std.proofs.Common.{refl}
use Rattle.edit_steps.specs.Edits.{Drop}
use Rattle.arrangement.proofs.Edits.{edited, as_before}
use Rattle.arrangement.proofs.arrangement.Arrangement.remove_curve.Goals as goal

pub remove_curve-requires : goal.remove_curve-requires
remove_curve-requires g c = record {
  layer = c.self.invariant.0;
  map = c.self.invariant.1.0;
  watched = rw (← c.self.view_is) at c.requires.watched;
}

pub returns : goal.returns
returns g c = rw (← c.self.view_is) (record {
  edit = edited _ _ c.remove_curve.result (Drop c.args.curve.0) c.self.invariant.0 c.remove_curve.ensures.edit c.remove_curve.ensures.told;
  refused = c.remove_curve.ensures.refused;
  as_before = as_before _ _ c.remove_curve.result c.remove_curve.ensures.graph c.remove_curve.ensures.tables c.remove_curve.ensures.same_layer c.remove_curve.ensures.same_curves c.remove_curve.ensures.untold;
  limits = refl;
  watched = c.remove_curve.ensures.watched;
})
