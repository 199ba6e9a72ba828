use Rattle.std.proofs.Common.{sym, ap, ◌∙◌, pos}
use Rattle.std.specs.Ordering.{int_eq}
use Rattle.exact_plane.specs.Line.{side_of}
use Rattle.edge_predicates.proofs.Sides.{inside_by, on_line_is}
use Rattle.edge_predicates.proofs.edges.has_inside.Goals as goal

pub returns-then-is_between_ends : goal.returns-then-is_between_ends
returns-then-is_between_ends c =
    let s = c.args.edge.now in
    let t = c.args.point.now in
    inside_by s t _ c.holds.result (sym c.if-is_between_ends.true ∙ c.is_between_ends.ensures)
    (c.holds.ensures ∙ ap (λ l. int_eq (side_of l t) (pos 0)) c.line.ensures ∙ on_line_is s t c.laws.ensures)
