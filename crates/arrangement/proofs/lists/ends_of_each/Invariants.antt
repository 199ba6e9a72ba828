use Rattle.std.proofs.Common.{◌≡◌, take}
use Rattle.arrangement.specs.Listed.{forward_ends}
use Rattle.arrangement.proofs.lists.ends_of_each.Given as goal

-- the ends of the edges of the darts so far
abbrev pub invariant-loop-dart : goal.invariant-loop-dart
invariant-loop-dart l = l.ends.items ≡ forward_ends (take l.dart-index l.darts)
