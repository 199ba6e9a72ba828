use Rattle.std.proofs.Common.{◌≡◌, ℕ, List, ◌++◌, nat_cmp, ap, ◌∙◌, subst}
use Rattle.std.specs.Prelude.{IfOk, not, filter}
use Rattle.plane_graphs.specs.Ascending.{ascending}
use Rattle.sweep_events.specs.Runs.{ends_there}
use Rattle.sweep_events.proofs.places.parted_at.Goals as goal

pub returns-clause-ends : goal.returns-clause-ends
returns-clause-ends c =
    let through = c.args.through.now in
    let e : c.deref.result.now ≡ ascending nat_cmp through = c.deref.ensures.value ∙ c.arrange.ensures ∙ ap (ascending nat_cmp) (c.in_ok-extend_from_slice.ensures.items ∙ ap (λ (is : List ℕ). is ++ through) c.clear.ensures.items) in
    subst (λ (is : List ℕ). IfOk c.part.result (λ both. both.0 ≡ filter (ends_there c.args.pieces.now c.args.point.now) is)) e c.part.ensures.ends

pub returns-clause-others : goal.returns-clause-others
returns-clause-others c =
    let through = c.args.through.now in
    let e : c.deref.result.now ≡ ascending nat_cmp through = c.deref.ensures.value ∙ c.arrange.ensures ∙ ap (ascending nat_cmp) (c.in_ok-extend_from_slice.ensures.items ∙ ap (λ (is : List ℕ). is ++ through) c.clear.ensures.items) in
    subst (λ (is : List ℕ). IfOk c.part.result (λ both. both.1 ≡ filter (λ i. not (ends_there c.args.pieces.now c.args.point.now i)) is)) e c.part.ensures.others
