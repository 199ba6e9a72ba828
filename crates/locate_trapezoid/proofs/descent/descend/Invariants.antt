use Rattle.std.proofs.Common.{◌+◌, ◌-◌, length}
use Rattle.slab_laws.specs.SpansDrawn.{edge_of}
use Rattle.locate_trapezoid.specs.Descents.{IsDescent}
use Rattle.locate_trapezoid.specs.Nodes.{arena, IsDown}
use Rattle.locate_trapezoid.proofs.Paths.{rank}
use Rattle.locate_trapezoid.proofs.descent.descend.Given as goal

abbrev pub invariant-down : goal.invariant-down
invariant-down l = record {
  descent : IsDescent l.records.graph (arena l.nodes) (edge_of l.span) l.from l.last;
  down : IsDown (arena l.nodes) l.last.leaf.slot l.last.leaf.level;
}

abbrev pub decreases-down : goal.decreases-down
decreases-down l = length l.nodes + 1 - rank l.last.leaf.slot
