use Rattle.locate_walk.proofs.Finds.{end_weights}
use Rattle.locate_walk.proofs.found.find.Goals as goal

pub passage_of-passage-requires : goal.passage_of-passage-requires
passage_of-passage-requires c = record { weights = end_weights c.args.glance.now.graph c.requires.map.sound.graph c.args.dart c.requires.dart c.args.looked.now c.requires.looked }
