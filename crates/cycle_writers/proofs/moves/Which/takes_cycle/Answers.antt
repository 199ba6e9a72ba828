use Rattle.std.proofs.Common.{sym, subst, ◌∙◌}
use Rattle.slab_laws.specs.View.{HasDart}
use Rattle.cycle_writers.proofs.Listed.{another}
use Rattle.cycle_writers.proofs.moves.Which.takes_cycle.Goals as goal

pub takes_dart-requires-clause-dart : goal.takes_dart-requires-clause-dart
takes_dart-requires-clause-dart c =
    subst (HasDart c.args.records.now.graph) (sym c.dart_on.ensures) (c.requires.dart (another c.args.cycle c.args.but (sym c.ne.ensures ∙ c.if-ne.true)))
