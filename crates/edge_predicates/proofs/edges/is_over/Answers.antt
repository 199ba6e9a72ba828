use Rattle.std.proofs.Common.{ap, sym, ◌∙◌, inl, inr}
use Rattle.edge_predicates.proofs.Sides.{is_minus, over_by}
use Rattle.edge_predicates.proofs.edges.is_over.Goals as goal

pub returns-in-Minus : goal.returns-in-Minus
returns-in-Minus c = ap is_minus (sym c.in-Minus.is) ∙ over_by c.args.edge.now c.args.point.now c.side_of.result c.side_of.ensures

pub returns-in-Zero : goal.returns-in-Zero
returns-in-Zero c =
    let k = over_by c.args.edge.now c.args.point.now c.side_of.result c.side_of.ensures in
    elim c.in-Zero.is [ inl e ↦ ap is_minus (sym e) ∙ k | inr e ↦ ap is_minus (sym e) ∙ k ]
