use Rattle.std.proofs.Common.{◌≡◌, take}
use Rattle.slab_laws.specs.SpansDrawn.{drawn}
use Rattle.slab_laws.specs.Rows.{next_places}
use Rattle.plain_slabs.proofs.nexts.nexts_of.Given as goal

abbrev pub invariant-loop-twin : goal.invariant-loop-twin
invariant-loop-twin l = l.nexts.items ≡ take l.twin-index (next_places (drawn l.points l.edges))
