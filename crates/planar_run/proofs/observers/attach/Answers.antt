use Rattle.std.proofs.Common.{sym, ◌∙◌}
use Rattle.planar_run.proofs.Replied.{not_obeyed, unrefused, fourteen, fifteen, seventeen}
use Rattle.planar_run.proofs.observers.attach.Goals as goal

pub returns-in-Ok : goal.returns-in-Ok
returns-in-Ok g c = record { answered = unrefused _ _ c.in-Ok.ensures.refused c.set.ensures c.in-Ok.ensures.attached; err = tt; kept = c.attach.ensures.kept }

pub returns-in-Err-Gone : goal.returns-in-Err-Gone
returns-in-Err-Gone g c =
    let refused = rw c.in-Err-Gone.field-0-is at c.in-Err-Gone.ensures.refused in record { answered = not_obeyed 14 _ refused (c.set-in-Err-Gone.ensures ∙ fourteen) c.in-Err-Gone.ensures.err; err = tt; kept = c.attach.ensures.kept }

pub returns-in-Err-Taken : goal.returns-in-Err-Taken
returns-in-Err-Taken g c =
    let refused = rw c.in-Err-Taken.field-0-is at c.in-Err-Taken.ensures.refused in record { answered = not_obeyed 15 _ refused (c.set-in-Err-Taken.ensures ∙ fifteen) c.in-Err-Taken.ensures.err; err = tt; kept = c.attach.ensures.kept }

pub returns-in-Err-Full : goal.returns-in-Err-Full
returns-in-Err-Full g c =
    let refused = rw c.in-Err-Full.field-0-is at c.in-Err-Full.ensures.refused in record { answered = not_obeyed 17 _ refused (c.set-in-Err-Full.ensures ∙ seventeen) c.in-Err-Full.ensures.err; err = tt; kept = c.attach.ensures.kept }

pub returns-in-Err-NoMemory : goal.returns-in-Err-NoMemory
returns-in-Err-NoMemory g c =
    let refused = rw c.in-Err-NoMemory.field-0-is at c.in-Err-NoMemory.ensures.refused in record { answered = tt; err = (sym refused, c.in-Err-NoMemory.ensures.err); kept = c.attach.ensures.kept }
