use Rattle.std.proofs.Common.{subst}
use Rattle.plane_graphs.proofs.Lines.{point_is_proper}
use Rattle.piece_location.specs.Layers.{IsBestOf}
use Rattle.piece_location.proofs.Layers.{best_below, met_nothing, none_below}
use Rattle.piece_location.proofs.spots.face_below.Goals as goal

pub returns-in-Some : goal.returns-in-Some
returns-in-Some c =
    let v = c.args.records.now.graph in
    let p = c.args.history.now in
    let q = c.args.point.now in
    let is = c.row_laws.ensures.pieces in
    let Q = point_is_proper q c.laws.ensures in
    c.face_over.ensures.face q Q (met_nothing v p c.requires.past is q Q c.args.best.now c.requires.best c.requires.free)
    (best_below v p c.requires.past is q Q c.row_laws.ensures.once c.in-Some.below (subst (IsBestOf p q) c.in-Some.is c.requires.best) c.edge_of.result c.edge_of.ensures)

pub returns-in-None : goal.returns-in-None
returns-in-None c =
    let v = c.args.records.now.graph in
    let p = c.args.history.now in
    let q = c.args.point.now in
    let is = c.row_laws.ensures.pieces in
    let Q = point_is_proper q c.laws.ensures in
    c.face_over-in-None.ensures.face q Q (met_nothing v p c.requires.past is q Q c.args.best.now c.requires.best c.requires.free)
    (none_below v p c.requires.past is q Q (subst (IsBestOf p q) c.in-None.is c.requires.best))
