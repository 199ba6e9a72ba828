use Rattle.own_edges.proofs.edges.is_forward.Goals as goal

pub point-requires : goal.point-requires
point-requires c = rw c.source.ensures (c.requires.sound.linked.source c.args.dart c.requires.dart)

pub point-requires-2 : goal.point-requires-2
point-requires-2 c = rw c.target.ensures (c.requires.sound.linked.source _ (c.requires.sound.twinned.has c.args.dart c.requires.dart))
