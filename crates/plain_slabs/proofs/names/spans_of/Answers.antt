use Rattle.std.proofs.Common.{rules, arith}
use Rattle.std.proofs.lemmas.Grind.{common_steps}
use Rattle.plain_slabs.proofs.ReadKeys.{forward_there}
use Rattle.plain_slabs.proofs.names.spans_of.Goals as goal

pub span_of-requires-clause-has : goal.span_of-requires-clause-has
span_of-requires-clause-has g c = (forward_there (g.R.Darts.graph c.args.records.now) c.requires.sound c.args.darts.now c.loop-dart.dart-index c.dart-item.result c.requires.darts c.loop-dart-test.true c.dart-item.is).has

pub span_of-requires-clause-key : goal.span_of-requires-clause-key
span_of-requires-clause-key g c = (forward_there (g.R.Darts.graph c.args.records.now) c.requires.sound c.args.darts.now c.loop-dart.dart-index c.dart-item.result c.requires.darts c.loop-dart-test.true c.dart-item.is).key

pub span_of-requires-clause-forward : goal.span_of-requires-clause-forward
span_of-requires-clause-forward g c = (forward_there (g.R.Darts.graph c.args.records.now) c.requires.sound c.args.darts.now c.loop-dart.dart-index c.dart-item.result c.requires.darts c.loop-dart-test.true c.dart-item.is).forward

pub loop-dart-init : goal.loop-dart-init
loop-dart-init g c = search rules

pub loop-dart-preserved : goal.loop-dart-preserved
loop-dart-preserved g c = grind (arith, common_steps)

pub returns : goal.returns
returns g c = grind (arith, common_steps)
