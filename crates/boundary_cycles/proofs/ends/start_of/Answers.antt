use Rattle.boundary_cycles.proofs.ends.start_of.Goals as goal

pub point-requires : goal.point-requires
point-requires g c = rw c.source.ensures (c.requires.sound.linked.source c.args.d c.requires.dart)
