use Rattle.headline.proofs.rows.usage.Goals as goal

pub returns : goal.returns
returns g c = λ is. let said = c.planar.ensures.usage is in (said.0, c.planar.ensures.nothing_read said.0, said.1)
