use Rattle.std.proofs.Common.{Err, ap, inl, refl, ◌∙◌}
use Rattle.planar_run.specs.Rows.{world_row}
use Rattle.planar_run.proofs.Replied.{none_handed_in, none_seated, not_obeyed, report_told, seated_asked, fourteen, sixteen}
use Rattle.planar_run.proofs.Worlds.{no_memory_apart, ok_apart, seat_told}
use Rattle.planar_run.proofs.observers.mirror.Goals as goal

pub returns-then-not-has-clause-obeyed : goal.returns-then-not-has-clause-obeyed
returns-then-not-has-clause-obeyed g c =
    let w = (world_row (goal.Observer-dyn g) c.args.world.now) in
    inl (not_obeyed 14 _ {w = w} {after = w} (none_handed_in c.args.number w c.if-not-has.ensures) (c.set.ensures ∙ fourteen) refl)

pub returns-in-Err-NoSeat-clause-obeyed : goal.returns-in-Err-NoSeat-clause-obeyed
returns-in-Err-NoSeat-clause-obeyed g c =
    let w = (world_row (goal.Observer-dyn g) c.args.world.now) in
    let unseated = c.report.ensures.seat.0 (c.in-Err-NoSeat.is ∙ ap Err c.in-Err-NoSeat.field-0-is) in
    inl (not_obeyed 16 _ {w = w} {after = w} (none_seated c.args.number w c.if-not-has.ensures unseated) (c.set-in-Err-NoSeat.ensures ∙ sixteen) refl)

pub returns-in-Ok-clause-obeyed : goal.returns-in-Ok-clause-obeyed
returns-in-Ok-clause-obeyed g c =
    let w = (world_row (goal.Observer-dyn g) c.args.world.now) in
    report_told c.args.number w _ _ (seated_asked c.args.number w c.if-not-has.ensures (seat_told _ _ _ (ok_apart _ _) c.in-Ok.ensures.seat)) c.in-Ok.ensures.report c.set_bytes.ensures

pub returns-in-Err-NoMemory-clause-err : goal.returns-in-Err-NoMemory-clause-err
returns-in-Err-NoMemory-clause-err g c =
    let w = (world_row (goal.Observer-dyn g) c.args.world.now) in
    seated_asked c.args.number w c.if-not-has.ensures (seat_told _ _ _ (no_memory_apart _ c.in-Err-NoMemory.field-0-is) c.in-Err-NoMemory.ensures.seat)
