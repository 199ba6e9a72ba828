use Rattle.std.proofs.Common.{Err, refl, ap, sym, ◌∙◌}
use Rattle.planar_run.proofs.Worlds.{if_reported_there, no_memory_apart, ok_apart, reported_here, seat_told, seated_here, seated_there, told_by_seat}
use Rattle.planar_run.proofs.world.World.report.Goals as goal

pub returns-in-Ok-clause-seat : goal.returns-in-Ok-clause-seat
returns-in-Ok-clause-seat g c =
    told_by_seat _ _ _ (ok_apart _ _) (seated_here c.args.number _ _ c.requires.kept (seat_told _ _ _ (ok_apart _ _) c.in-Ok.ensures.seat))

pub returns-in-Ok-clause-report : goal.returns-in-Ok-clause-report
returns-in-Ok-clause-report g c =
    reported_here c.args.number _ _ c.requires.kept (seat_told _ _ _ (ok_apart _ _) c.in-Ok.ensures.seat) _ c.in-Ok.ensures.report

pub returns-in-Err-NoSeat-clause-seat : goal.returns-in-Err-NoSeat-clause-seat
returns-in-Err-NoSeat-clause-seat g c =
    let none = c.report.ensures.seat.0 (c.in-Err-NoSeat.is ∙ ap Err c.in-Err-NoSeat.field-0-is) in
    let e = seated_there c.args.number _ _ c.requires.kept (sym none) in
    (λ r. e ∙ c.report-in-Err-NoSeat.ensures.seat.0 r, λ f. c.report-in-Err-NoSeat.ensures.seat.1 (sym e ∙ f))

pub returns-in-Err-NoSeat-clause-report : goal.returns-in-Err-NoSeat-clause-report
returns-in-Err-NoSeat-clause-report g c =
    let none = c.report.ensures.seat.0 (c.in-Err-NoSeat.is ∙ ap Err c.in-Err-NoSeat.field-0-is) in
    if_reported_there c.args.number _ _ c.requires.kept (sym none) c.report-in-Err-NoSeat.result c.report-in-Err-NoSeat.ensures.report

pub returns-in-Err-NoMemory-clause-seat : goal.returns-in-Err-NoMemory-clause-seat
returns-in-Err-NoMemory-clause-seat g c =
    told_by_seat _ _ _ (no_memory_apart _ refl) (seated_here c.args.number _ _ c.requires.kept (seat_told _ _ _ (no_memory_apart _ c.in-Err-NoMemory.field-0-is) c.in-Err-NoMemory.ensures.seat))

pub returns-in-Err-NoMemory-clause-report : goal.returns-in-Err-NoMemory-clause-report
returns-in-Err-NoMemory-clause-report g c = tt
