use Rattle.headline.proofs.rows.read_fault.Goals as goal

pub returns : goal.returns
returns g c = λ is. let run = c.planar.ensures.answered_to_read_fault is in (run.0, run.1, record { out = run.2 })
