use Rattle.piece_location.proofs.Layers.{fit_rows, told}
use Rattle.zone_walk.proofs.Courses.{course}
use Rattle.piece_zone.proofs.ToldOf.{told_edge, told_none, told_vertex}
use Rattle.piece_zone.proofs.told.meeting_at.Goals as goal

pub edge_at-requires-clause-told : goal.edge_at-requires-clause-told
edge_at-requires-clause-told c = told c.args.records.now.graph c.args.history.now c.requires.past c.row_laws.ensures.pieces

pub edge_at-requires-clause-side : goal.edge_at-requires-clause-side
edge_at-requires-clause-side c =
    let (n, here) = c.requires.piece in
    (fit_rows c.args.records.now.graph c.args.history.now c.requires.past c.row_laws.ensures.pieces (n, c.args.piece.now) here).last_side

pub returns-in-Some : goal.returns-in-Some
returns-in-Some c = λ s ends W K o.
    let (n, here) = c.requires.piece in
    let at = c.in-Some.ensures in
    told_vertex c.args.records.now.graph c.args.history.now c.requires.past c.row_laws.ensures.pieces s (course s ends) W n c.args.piece.now here K c.args.point o c.in-Some.vertex at.0 at.1

pub returns-in-Some-edge_at : goal.returns-in-Some-edge_at
returns-in-Some-edge_at c = λ s ends W K o.
    let (n, here) = c.requires.piece in
    told_edge c.args.records.now.graph c.args.history.now c.requires.past c.row_laws.ensures.pieces s (course s ends) W n c.args.piece.now here K c.args.point o c.in_default.ensures c.in-Some-edge_at.dart c.in-Some-edge_at.ensures.some

pub returns-in-None : goal.returns-in-None
returns-in-None c = λ s ends W K o.
    let (n, here) = c.requires.piece in
    told_none c.args.records.now.graph c.args.history.now c.requires.past c.row_laws.ensures.pieces s (course s ends) W n c.args.piece.now here K c.args.point o c.in_default.ensures c.in-None.ensures.none
