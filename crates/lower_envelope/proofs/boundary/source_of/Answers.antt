use Rattle.lower_envelope.proofs.boundary.source_of.Goals as goal

pub point-point-requires : goal.point-point-requires
point-point-requires g c = rw c.source-name.ensures (c.requires.sound.linked.source c.args.dart c.requires.has)
