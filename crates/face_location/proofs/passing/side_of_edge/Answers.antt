use Rattle.std.proofs.Common.{ap, ◌∙◌}
use Rattle.exact_plane.specs.Line.{Line, side_of}
use Rattle.exact_plane.specs.Sign.{sign_of}
use Rattle.plane_graphs.specs.Graph.{Edge}
use Rattle.slab_laws.specs.Skeleton.{side}
use Rattle.edge_predicates.proofs.Sides.{sign_same}
use Rattle.face_location.proofs.passing.side_of_edge.Goals as goal

pub returns : goal.returns
returns g c =
    sign_same c.span_of-span.result c.args.point.now c.side.result c.laws.ensures (c.side.ensures ∙ ap (λ (l : Line). sign_of (side_of l c.args.point.now)) c.line.ensures)
    ∙ ap (λ (e : Edge). sign_of (side e c.args.point.now)) c.span_of-span.ensures.edge
