use Rattle.std.proofs.Common.{refl}
use Rattle.segment_remove.specs.Refused.{cut_between}
use Rattle.arrangement.proofs.Edits.{edited, as_before}
use Rattle.arrangement.proofs.arrangement.Arrangement.remove_edge.Goals as goal

pub remove_edge-requires : goal.remove_edge-requires
remove_edge-requires g c = record {
  layer = c.self.invariant.0;
  map = c.self.invariant.1.0;
  watched = rw (← c.self.view_is) at c.requires.watched;
}

pub returns : goal.returns
returns g c = rw (← c.self.view_is) (record {
  edit = edited _ _ c.remove_edge.result (cut_between c.args.p.now c.args.q.now) c.self.invariant.0 c.remove_edge.ensures.edit c.remove_edge.ensures.told;
  refused = c.remove_edge.ensures.refused;
  as_before = as_before _ _ c.remove_edge.result c.remove_edge.ensures.graph c.remove_edge.ensures.tables c.remove_edge.ensures.same_layer c.remove_edge.ensures.same_curves c.remove_edge.ensures.untold;
  limits = refl;
  watched = c.remove_edge.ensures.watched;
})
