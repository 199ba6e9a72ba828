use Rattle.std.proofs.Common.{refl}
use Rattle.edit_steps.specs.Edits.{Merge}
use Rattle.arrangement.proofs.Edits.{edited, as_before}
use Rattle.arrangement.proofs.arrangement.Arrangement.merge_edge.Goals as goal

pub merge_edge-requires : goal.merge_edge-requires
merge_edge-requires g c = record {
  layer = c.self.invariant.0;
  map = c.self.invariant.1.0;
  watched = rw (← c.self.view_is) at c.requires.watched;
}

pub returns : goal.returns
returns g c = rw (← c.self.view_is) (record {
  edit = edited _ _ c.merge_edge.result (Merge c.args.r.now) c.self.invariant.0 c.merge_edge.ensures.edit c.merge_edge.ensures.told;
  refused = c.merge_edge.ensures.refused;
  as_before = as_before _ _ c.merge_edge.result c.merge_edge.ensures.graph c.merge_edge.ensures.tables c.merge_edge.ensures.same_layer c.merge_edge.ensures.same_curves c.merge_edge.ensures.untold;
  limits = refl;
  watched = c.merge_edge.ensures.watched;
})
