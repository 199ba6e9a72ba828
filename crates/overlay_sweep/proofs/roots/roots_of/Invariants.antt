use Rattle.slab_laws.specs.SpansDrawn.{drawn}
use Rattle.overlay_sweep.proofs.RootLists.{AreRootsUpto}
use Rattle.overlay_sweep.proofs.roots.roots_of.Given as goal

abbrev pub invariant-loop-cycle : goal.invariant-loop-cycle
invariant-loop-cycle l = AreRootsUpto (drawn l.points l.edges) l.cycle l.roots.items
