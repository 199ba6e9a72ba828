use Rattle.std.proofs.Common.{◌≢◌, sym, ◌∙◌}
use Rattle.curve_history.specs.HistoryInMemory.{Says}
use Rattle.edit_steps.specs.EditLaws.{curve_of}
use Rattle.curve_history.proofs.Seconds.{no_other}
use Rattle.curve_history.proofs.Walking.{seek, seek_on, not_found, says_here, less_on, at_node_on}
use Rattle.curve_history.proofs.others.says_other.Goals as goal

pub walk-init : goal.walk-init
walk-init c = seek _ _ (λ i. curve_of i ≢ c.args.curve) _ c.first-at.ensures

pub entry-requires : goal.entry-requires
entry-requires c = at_node_on _ _ _ _ (c.laws.ensures.whole _) c.in-Some.is c.walk.invariant.here

pub returns-then-curve_of-curve-clause-other : goal.returns-then-curve_of-curve-clause-other
returns-then-curve_of-curve-clause-other c = λ q. (c.entry.result.item, says_here _ _ _ _ _ (c.laws.ensures.whole _) c.in-Some.is c.walk.invariant.here c.entry.ensures, λ e. c.if-curve_of-curve.true (c.curve_of.ensures ∙ e))

pub walk-smaller : goal.walk-smaller
walk-smaller c = less_on _ _ _ _ _ (c.laws.ensures.whole _) c.in-Some.is c.walk.invariant.here c.after-at.ensures

pub walk-preserved : goal.walk-preserved
walk-preserved c = seek_on _ _ _ (λ i. curve_of i ≢ c.args.curve) _ _ _ (c.laws.ensures.whole _) c.in-Some.is c.walk.invariant c.entry.ensures (λ ne. ne (sym c.curve_of.ensures ∙ c.if-curve_of-curve.false)) c.after-at.ensures

pub returns-clause-none : goal.returns-clause-none
returns-clause-none c = λ q. no_other (Says c.args.edges.now c.args.edge) c.args.curve (not_found _ _ (λ i. curve_of i ≢ c.args.curve) _ (c.laws.ensures.whole _) c.walk.invariant c.in_default.is)
