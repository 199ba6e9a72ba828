use Rattle.zone_walk.proofs.Courses.{course}
use Rattle.piece_zone.proofs.ToldOf.{told_first, told_inner}
use Rattle.piece_zone.proofs.told.meeting_from.Goals as goal

pub returns-in-Some : goal.returns-in-Some
returns-in-Some c = λ s last ends W K o.
    let (n, here) = c.requires.piece in
    let at = c.in-Some.ensures in
    told_first c.args.records.now.graph c.args.history.now c.requires.past c.row_laws.ensures.pieces s (course s ends) W n c.args.piece.now here K c.args.first last o c.in-Some.vertex at.0 at.1

pub returns-in-None : goal.returns-in-None
returns-in-None c = λ s last ends W K o.
    let (n, here) = c.requires.piece in
    told_inner c.args.records.now.graph c.args.history.now c.requires.past c.row_laws.ensures.pieces s (course s ends) W n c.args.piece.now here K c.args.first last o c.in-None.ensures
