use Rattle.dart_walks.proofs.WholeWalks.{along_way, along_whole, along_have}
use Rattle.dart_walks.proofs.along.Along.new.Goals as goal

pub invariant_of-result : goal.invariant_of-result
invariant_of-result g c = along_way (g.R.Darts.graph c.args.graph.now) (g.R.Faced.faces c.args.graph.now) c.requires.sound c.args.dart c.requires.dart

pub returns-clause-along : goal.returns-clause-along
returns-clause-along g c = along_whole (g.R.Darts.graph c.args.graph.now) (g.R.Faced.faces c.args.graph.now) c.requires.sound c.args.dart c.requires.dart

pub returns-clause-have : goal.returns-clause-have
returns-clause-have g c = along_have (g.R.Darts.graph c.args.graph.now) (g.R.Faced.faces c.args.graph.now) c.requires.sound c.args.dart c.requires.dart
