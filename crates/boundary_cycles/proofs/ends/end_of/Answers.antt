use Rattle.boundary_cycles.proofs.ends.end_of.Goals as goal

pub point-requires : goal.point-requires
point-requires g c = rw c.target.ensures (c.requires.sound.linked.source _ (c.requires.sound.twinned.has c.args.d c.requires.dart))
