use Rattle.face_roots.proofs.RootRanks.{AreRankedUpto}
use Rattle.face_roots.proofs.ranks.ranks_of.Given as goal

abbrev pub invariant-loop-root : goal.invariant-loop-root
invariant-loop-root l = AreRankedUpto l.roots l.root-index l.count l.ranks.items
