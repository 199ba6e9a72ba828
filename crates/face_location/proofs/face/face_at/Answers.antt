use Rattle.std.proofs.Common.{subst}
use Rattle.plane_graphs.proofs.Lists.{clash}
use Rattle.face_location.specs.Below.{IsEdgeFound}
use Rattle.face_location.proofs.face.face_at.Goals as goal

pub unreachable-requires : goal.unreachable-requires
unreachable-requires c =
    let m = subst (IsEdgeFound c.args.records.now.graph c.args.point.now) c.in-Through.is c.edge_at_or_below.ensures in
    clash m.2 (c.requires.spot.no_edge c.in-Through.field-0 m.0)
