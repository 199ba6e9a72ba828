use Rattle.std.proofs.Common.{refl}
use Rattle.edit_steps.specs.Edits.{Pin}
use Rattle.arrangement.proofs.Edits.{edited, as_before}
use Rattle.arrangement.proofs.arrangement.Arrangement.pin.Goals as goal

pub spot_at-at-requires : goal.spot_at-at-requires
spot_at-at-requires g c = record { map = c.self.invariant.1.0.map; layer = c.self.invariant.0 }

pub pin-requires : goal.pin-requires
pin-requires g c = record {
  layer = c.self.invariant.0;
  map = c.self.invariant.1.0;
  watched = rw (← c.self.view_is) at c.requires.watched;
  spot = c.spot_at-at.ensures;
}

pub returns : goal.returns
returns g c = rw (← c.self.view_is) (record {
  edit = edited _ _ c.pin.result (Pin c.args.p.now) c.self.invariant.0 c.pin.ensures.edit c.pin.ensures.told;
  refused = c.pin.ensures.refused;
  as_before = as_before _ _ c.pin.result c.pin.ensures.graph c.pin.ensures.tables c.pin.ensures.same_layer c.pin.ensures.same_curves c.pin.ensures.untold;
  limits = refl;
  watched = c.pin.ensures.watched;
})
