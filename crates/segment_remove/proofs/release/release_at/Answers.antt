use Rattle.std.proofs.Common.{◌∙◌, sym, ap, rules}
use Rattle.curve_history.specs.Past.{curves_on}
use Rattle.told_steps.proofs.LayerEdges.{forward_by_curve}
use Rattle.told_steps.proofs.StrandRuns.{edge_released}
use Rattle.segment_remove.specs.CurveLosses.{curves_lost, view_lost}
use Rattle.segment_remove.proofs.CurveLost.{curve_told, edge_told}
use Rattle.segment_remove.proofs.release.release_at.Goals as goal

pub remove_curve-requires-clause-forward : goal.remove_curve-requires-clause-forward
remove_curve-requires-clause-forward g c = forward_by_curve c.args.records.now.graph (curves_on c.args.history.now) c.requires.in_step.curves c.args.curve.0 c.args.d c.requires.runs

pub returns-then-has_other-clause-told : goal.returns-then-has_other-clause-told
returns-then-has_other-clause-told g c = search (rules, curve_told)

pub returns-then-has_other-clause-graph : goal.returns-then-has_other-clause-graph
returns-then-has_other-clause-graph g c = ap (λ b. view_lost b c.args.records.now.graph c.args.d) (sym c.if-has_other.true ∙ c.has_other.ensures)

pub returns-then-has_other-clause-curves : goal.returns-then-has_other-clause-curves
returns-then-has_other-clause-curves g c = λ x. c.remove_curve.ensures.curves x ∙ ap (λ b. curves_lost b (curves_on c.args.history.now) c.args.d c.args.curve x) (sym c.if-has_other.true ∙ c.has_other.ensures)

pub remove_edge-requires-clause-forward : goal.remove_edge-requires-clause-forward
remove_edge-requires-clause-forward g c = forward_by_curve c.args.records.now.graph (curves_on c.args.history.now) c.requires.in_step.curves c.args.curve.0 c.args.d c.requires.runs

pub returns-else-has_other-clause-told : goal.returns-else-has_other-clause-told
returns-else-has_other-clause-told g c = search (rules, edge_told)

pub returns-else-has_other-clause-graph : goal.returns-else-has_other-clause-graph
returns-else-has_other-clause-graph g c = c.remove_edge.ensures.graph ∙ ap (λ b. view_lost b c.args.records.now.graph c.args.d) (sym c.if-has_other.false ∙ c.has_other.ensures)

pub returns-else-has_other-clause-curves : goal.returns-else-has_other-clause-curves
returns-else-has_other-clause-curves g c = λ x. c.remove_edge.ensures.curves x ∙ ap (λ b. curves_lost b (curves_on c.args.history.now) c.args.d c.args.curve x) (sym c.if-has_other.false ∙ c.has_other.ensures)

pub returns-else-has_other-clause-sides : goal.returns-else-has_other-clause-sides
returns-else-has_other-clause-sides g c =
    edge_released c.args.records.now.graph c.args.history.now c.args.d c.args.curve.0 c.remove_edge.new.records.graph c.remove_edge.new.history c.requires.in_step.sound.graph c.requires.in_step.curves
    (forward_by_curve c.args.records.now.graph (curves_on c.args.history.now) c.requires.in_step.curves c.args.curve.0 c.args.d c.requires.runs) (sym c.has_other.ensures ∙ c.if-has_other.false) c.remove_edge.ensures.strands
