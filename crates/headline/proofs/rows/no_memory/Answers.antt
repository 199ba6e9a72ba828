use Rattle.headline.proofs.rows.no_memory.Goals as goal

pub returns : goal.returns
returns g c = c.planar.ensures.no_memory
