use Rattle.std.proofs.Common.{subst}
use Rattle.std.specs.Prelude.{IfSome}
use Rattle.plane_graphs.proofs.Lines.{point_is_proper}
use Rattle.piece_location.specs.Heights.{IsPieceThrough}
use Rattle.piece_location.specs.Looks.{IsPieceNamed}
use Rattle.piece_location.proofs.Layers.{met_nothing, met_through}
use Rattle.piece_location.proofs.spots.locate_free.Goals as goal

pub returns-in-Some : goal.returns-in-Some
returns-in-Some c =
    let p = c.args.history.now in
    let q = c.args.point.now in
    record {
      met = met_through c.args.records.now.graph p c.requires.past c.row_laws.ensures.pieces q (point_is_proper q c.laws.ensures) c.row_laws.ensures.once
          c.in-Some.name (subst (λ o. IfSome o (IsPieceNamed p (IsPieceThrough q))) c.in-Some.is c.look_down-found.ensures.through) c.edge_of.result c.edge_of.ensures;
      face = tt;
    }

pub returns-in-None : goal.returns-in-None
returns-in-None c =
    let q = c.args.point.now in
    record {
      met = met_nothing c.args.records.now.graph c.args.history.now c.requires.past c.row_laws.ensures.pieces q (point_is_proper q c.laws.ensures)
          c.look_down-found.result.best (c.look_down-found.ensures.best c.in-None.is) c.requires.free;
      face = c.face_below.ensures;
    }
