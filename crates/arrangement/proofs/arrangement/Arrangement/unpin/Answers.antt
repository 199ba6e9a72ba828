use Rattle.std.proofs.Common.{refl}
use Rattle.edit_steps.specs.Edits.{Unpin}
use Rattle.arrangement.proofs.Edits.{edited, as_before}
use Rattle.arrangement.proofs.arrangement.Arrangement.unpin.Goals as goal

pub unpin-requires : goal.unpin-requires
unpin-requires g c = record {
  layer = c.self.invariant.0;
  map = c.self.invariant.1.0;
  watched = rw (← c.self.view_is) at c.requires.watched;
}

pub returns : goal.returns
returns g c = rw (← c.self.view_is) (record {
  edit = edited _ _ c.unpin.result (Unpin c.args.p.now) c.self.invariant.0 c.unpin.ensures.edit c.unpin.ensures.told;
  refused = c.unpin.ensures.refused;
  as_before = as_before _ _ c.unpin.result c.unpin.ensures.graph c.unpin.ensures.tables c.unpin.ensures.same_layer c.unpin.ensures.same_curves c.unpin.ensures.untold;
  limits = refl;
  watched = c.unpin.ensures.watched;
})
