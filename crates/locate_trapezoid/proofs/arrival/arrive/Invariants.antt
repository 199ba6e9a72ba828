use Rattle.std.proofs.Common.{◌≡◌, ◌+◌, ◌-◌, length}
use Rattle.locate_trapezoid.specs.Nodes.{arena, IsDown}
use Rattle.locate_trapezoid.specs.Ways.{ComesBy}
use Rattle.locate_trapezoid.proofs.Paths.{rank}
use Rattle.locate_trapezoid.proofs.arrival.arrive.Given as goal

abbrev pub invariant-down : goal.invariant-down
invariant-down g l = record {
  at : ComesBy l.glance.graph (arena l.nodes) l.point l.leaf.slot l.below;
  down : IsDown (arena l.nodes) l.leaf.slot l.leaf.level;
  looks : l.steps ≡ l.fn.steps + l.leaf.level;
}

abbrev pub decreases-down : goal.decreases-down
decreases-down g l = length l.nodes + 1 - rank l.leaf.slot
