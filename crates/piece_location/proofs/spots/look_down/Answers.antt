use Rattle.std.proofs.Common.{refl, subst}
use Rattle.std.specs.Prelude.{negsuc, None}
use Rattle.exact_plane.specs.Boxes.{ray_below}
use Rattle.plane_graphs.proofs.Lines.{point_is_proper}
use Rattle.box_tree.specs.Entries.{AreSeen}
use Rattle.curve_pieces.specs.PieceRows.{entries_of}
use Rattle.piece_location.specs.Looks.{HasSeen}
use Rattle.piece_location.proofs.Layers.{first_known, fit_rows, looked_down, lowest_floor}
use Rattle.piece_location.proofs.spots.look_down.Goals as goal

pub visit_below-requires-clause-ready : goal.visit_below-requires-clause-ready
visit_below-requires-clause-ready c =
    record {
      history = refl;
      point = refl;
      place = c.laws.ensures;
      fit = fit_rows c.args.records.now.graph c.args.history.now c.requires.past c.row_laws.ensures.pieces;
      once = c.row_laws.ensures.once;
      through = tt;
      best = tt;
      floor = λ own. lowest_floor (record { history = c.args.history; point = c.args.point.now; through = None; best = None; floor = negsuc 2147483647 }) refl;
    }

pub visit_below-requires-clause-known : goal.visit_below-requires-clause-known
visit_below-requires-clause-known c =
    first_known (record { history = c.args.history; point = c.args.point.now; through = None; best = None; floor = negsuc 2147483647 }) c.args.history.now (ray_below c.whole_parts.result) refl

pub returns : goal.returns
returns c =
    let l = c.visit_below.new.visitor in
    let p = c.args.history.now in
    looked_down (record { history = c.args.history; point = c.args.point.now; through = None; best = None; floor = negsuc 2147483647 }) l p c.args.point.now
    (point_is_proper c.args.point.now c.laws.ensures) c.row_laws.ensures.once
    (fit_rows c.args.records.now.graph p c.requires.past c.row_laws.ensures.pieces)
    (c.row_laws.ensures.low c.requires.indexed) refl refl c.visit_below.ensures.ready
    (subst (λ z. AreSeen (HasSeen l) (ray_below z) l.floor (entries_of p.rows)) c.whole_parts.ensures c.visit_below.ensures.seen)
