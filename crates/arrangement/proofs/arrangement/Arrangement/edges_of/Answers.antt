use Rattle.std.proofs.Common.{ap, subst, sym, map}
use Rattle.plane_graphs.specs.Ascending.{Member}
use Rattle.slab_laws.specs.Sound.{edge_in}
use Rattle.told_steps.proofs.LayerEdges.{all_forward, curve_edge, edge_curve}
use Rattle.arrangement.proofs.arrangement.Arrangement.edges_of.Goals as goal

pub ends_in_order-requires-clause-forward : goal.ends_in_order-requires-clause-forward
ends_in_order-requires-clause-forward g c =
    let ds = c.in_ok-darts.darts.items in
    rw c.deref.ensures.value (all_forward _ _ c.self.invariant.0 c.args.curve.0 ds c.in_ok-darts.ensures.edges ds (λ d m. m))

pub returns-in-Ok-clause-edges : goal.returns-in-Ok-clause-edges
returns-in-Ok-clause-edges g c =
    let ds = c.in_ok-darts.darts.items in
    let k = c.args.curve.0 in
    let same = ap (map (edge_in _)) c.deref.ensures.value in
    rw (← c.self.view_is) (λ e. (
      λ m. curve_edge _ _ c.self.invariant.0 k ds c.in_ok-darts.ensures.edges e (subst (Member e) same ((c.in-Ok.ensures.edges e).0 m)),
      λ m. (c.in-Ok.ensures.edges e).1 (subst (Member e) (sym same) (edge_curve _ _ c.self.invariant.0 k ds c.in_ok-darts.ensures.edges e m)),
    ))
