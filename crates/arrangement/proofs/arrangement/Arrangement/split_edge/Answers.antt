use Rattle.std.proofs.Common.{refl}
use Rattle.pin_points.specs.Splits.{split_at}
use Rattle.arrangement.proofs.Edits.{edited, as_before}
use Rattle.arrangement.proofs.arrangement.Arrangement.split_edge.Goals as goal

pub split_edge-requires : goal.split_edge-requires
split_edge-requires g c = record {
  layer = c.self.invariant.0;
  map = c.self.invariant.1.0;
  watched = rw (← c.self.view_is) at c.requires.watched;
}

pub returns : goal.returns
returns g c = rw (← c.self.view_is) (record {
  edit = edited _ _ c.split_edge.result (split_at c.args.p.now c.args.q.now c.args.r.now) c.self.invariant.0 c.split_edge.ensures.edit c.split_edge.ensures.told;
  refused = c.split_edge.ensures.refused;
  as_before = as_before _ _ c.split_edge.result c.split_edge.ensures.graph c.split_edge.ensures.tables c.split_edge.ensures.same_layer c.split_edge.ensures.same_curves c.split_edge.ensures.untold;
  limits = refl;
  watched = c.split_edge.ensures.watched;
})
