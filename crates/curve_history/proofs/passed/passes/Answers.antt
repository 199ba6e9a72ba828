use Rattle.curve_history.proofs.passed.passes.Goals as goal

pub point-lower-requires : goal.point-lower-requires
point-lower-requires g c = rw c.source.ensures (c.requires.sound.linked.source c.args.d c.requires.has)

pub point-upper-requires : goal.point-upper-requires
point-upper-requires g c = rw c.target.ensures (c.requires.sound.linked.source _ (c.requires.sound.twinned.has c.args.d c.requires.has))
