use Rattle.mirror_observer.proofs.DartsOut.{AreOutsBut}
use Rattle.mirror_observer.proofs.outs.outs_of.Given as goal

abbrev pub invariant-loop-key : goal.invariant-loop-key
invariant-loop-key l = AreOutsBut l.key-iterator l.darts.entries l.outs.entries
