use Rattle.std.proofs.Common.{sym}
use Rattle.sweep_events.proofs.PlacesTold.{told_ended}
use Rattle.sweep_events.proofs.places.is_ended.Goals as goal

pub returns-in-Some : goal.returns-in-Some
returns-in-Some c =
    let at = c.in-Some.ensures.lookup in
    told_ended c.args.pieces.now c.args.place c.in-Some.piece.now c.upper.result c.args.point.now c.eq.result at.3.0 (sym at.1) c.upper.ensures c.eq.ensures
