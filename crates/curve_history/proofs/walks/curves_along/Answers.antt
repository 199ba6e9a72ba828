use Rattle.std.proofs.Common.{◌<◌, ◌^◌, sym, ap, map, subst}
use Rattle.curve_history.proofs.Walking.{collect_curves, collect_curves_on, curves_collected, less_on, at_node_on, says_here}
use Rattle.slab_laws.specs.declared.names.CurveId.{CurveId}
use Rattle.curve_history.proofs.Numbers.{fits}
use Rattle.curve_history.proofs.walks.curves_along.Goals as goal

pub walk-init : goal.walk-init
walk-init c = collect_curves _ _ _ _ (ap (map (λ (x : CurveId). x.0)) c.new-curves.ensures.items) c.first-at.ensures

pub entry-requires : goal.entry-requires
entry-requires c = at_node_on _ _ _ _ (c.laws.ensures.whole _) c.in-Some.is c.walk.invariant.collected.here

pub overflow_cast-curve_of : goal.overflow_cast-curve_of
overflow_cast-curve_of c = fits _ (subst (λ n. n < 2 ^ 32) (sym c.curve_of.ensures) (c.requires _ (says_here _ _ _ _ _ (c.laws.ensures.whole _) c.in-Some.is c.walk.invariant.collected.here c.entry.ensures)))

pub walk-smaller : goal.walk-smaller
walk-smaller c = less_on _ _ _ _ _ (c.laws.ensures.whole _) c.in-Some.is c.walk.invariant.collected.here c.after-at.ensures

pub walk-preserved : goal.walk-preserved
walk-preserved c = collect_curves_on _ _ _ _ _ _ _ _ _ (c.laws.ensures.whole _) c.in-Some.is c.walk.invariant c.entry.ensures c.in_ok-push.ensures.items c.curve_of.ensures c.after-at.ensures

pub returns : goal.returns
returns c = curves_collected _ _ _ _ c.in_default.is c.walk.invariant
