use Rattle.std.proofs.Common.{ap, ◌∙◌}
use Rattle.exact_plane.specs.Line.{side_of}
use Rattle.exact_plane.specs.Sign.{sign_of}
use Rattle.edge_predicates.proofs.Sides.{sign_same}
use Rattle.edge_predicates.proofs.edges.side_of.Goals as goal

pub returns : goal.returns
returns c = sign_same c.args.edge.now c.args.point.now c.side.result c.laws.ensures (c.side.ensures ∙ ap (λ l. sign_of (side_of l c.args.point.now)) c.line.ensures)
