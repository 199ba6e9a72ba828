use Rattle.slab_laws.specs.Pieces.{present_of}
use Rattle.overlay_sweep.proofs.KnownEdges.{AreKnownUpto}
use Rattle.overlay_sweep.proofs.known.known_labels.Given as goal

abbrev pub invariant-loop-index : goal.invariant-loop-index
invariant-loop-index l = AreKnownUpto (present_of l.layer) l.whole l.own l.index l.known.items l.passing.items
