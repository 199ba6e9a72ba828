use Rattle.std.proofs.Common.{◌≡◌, ◌∙◌, refl, Result, Ok, Err}
use Rattle.std.specs.Prelude.{IsErrAnd, IsErrOf}
use Rattle.slab_laws.specs.Sound.{edge_between}
use Rattle.arrangement.specs.declared.questions.EdgeError.{EdgeError}
use Rattle.arrangement.specs.declared.questions.EdgeError.TheVariants.{NoEdge, NoMemory}
use Rattle.told_steps.proofs.LayerEdges.{along_drawn, drawn_along, curves_along}
use Rattle.arrangement.proofs.arrangement.Arrangement.curves_of.Goals as goal

-- want of memory is not that there is no edge
other_error : {T : Type 0} (r : Result T EdgeError) → IsErrAnd r (λ e. e ≡ NoMemory) → IsErrOf r NoEdge → ⊥
other_error (Ok x) h e = cc
other_error (Err x) h e = cc

pub returns-in_default-clause-no_edge : goal.returns-in_default-clause-no_edge
returns-in_default-clause-no_edge g c =
    let e = edge_between c.args.p.now c.args.q.now in
    rw (← c.self.view_is) (λ _ m. let d = drawn_along _ _ c.self.invariant.0 e m in c.in_default.ensures d.0 d.1, λ _. refl)

pub returns-in_err-curves_of-clause-no_edge : goal.returns-in_err-curves_of-clause-no_edge
returns-in_err-curves_of-clause-no_edge g c =
    let e = edge_between c.args.p.now c.args.q.now in
    let there = along_drawn _ _ c.self.invariant.0 e c.in-Some.edge c.in-Some.ensures in
    rw (← c.self.view_is) (λ x. absurd (other_error c.from_residual.result c.from_residual.ensures.1 x), λ none. absurd (none there))

pub returns-clause-curves : goal.returns-clause-curves
returns-clause-curves g c =
    let e = edge_between c.args.p.now c.args.q.now in
    rw (← c.self.view_is) (c.in_ok-curves_of.ensures ∙ curves_along _ _ c.self.invariant.0 e c.in-Some.edge c.in-Some.ensures)

pub returns-clause-no_edge : goal.returns-clause-no_edge
returns-clause-no_edge g c =
    let e = edge_between c.args.p.now c.args.q.now in
    let there = along_drawn _ _ c.self.invariant.0 e c.in-Some.edge c.in-Some.ensures in
    rw (← c.self.view_is) (λ x. absurd cc, λ none. absurd (none there))
