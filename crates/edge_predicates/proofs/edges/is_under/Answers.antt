use Rattle.std.proofs.Common.{ap, sym, ◌∙◌, inl, inr}
use Rattle.edge_predicates.proofs.Sides.{is_plus, under_by}
use Rattle.edge_predicates.proofs.edges.is_under.Goals as goal

pub returns-in-Plus : goal.returns-in-Plus
returns-in-Plus c = ap is_plus (sym c.in-Plus.is) ∙ under_by c.args.edge.now c.args.point.now c.side_of.result c.side_of.ensures

pub returns-in-Zero : goal.returns-in-Zero
returns-in-Zero c =
    let k = under_by c.args.edge.now c.args.point.now c.side_of.result c.side_of.ensures in
    elim c.in-Zero.is [ inl e ↦ ap is_plus (sym e) ∙ k | inr e ↦ ap is_plus (sym e) ∙ k ]
