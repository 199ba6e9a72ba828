use Rattle.arrangement.proofs.OddEnds.{odd_edge}
use Rattle.arrangement.proofs.odd_ends.is_odd_edge.Goals as goal

pub forward_dart-requires-clause-sound : goal.forward_dart-requires-clause-sound
forward_dart-requires-clause-sound c = c.requires.layer.sound

pub returns : goal.returns
returns c = odd_edge c.args.records.now.graph c.args.history.now c.requires.layer c.args.dart c.forward_dart.result c.forward_dart.ensures c.count_on.result c.count_on.ensures
