use Rattle.rotation_order.proofs.places.way.Goals as goal

pub point-from-requires : goal.point-from-requires
point-from-requires g c = rw c.source.ensures (c.requires.sound.linked.source c.args.dart c.requires.dart)

pub point-to-requires : goal.point-to-requires
point-to-requires g c = rw c.target.ensures (c.requires.sound.linked.source _ (c.requires.sound.twinned.has c.args.dart c.requires.dart))
