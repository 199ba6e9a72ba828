use Rattle.headline.proofs.whole.reads.Goals as goal

pub returns : goal.returns
returns g c = c.planar.ensures.reads
