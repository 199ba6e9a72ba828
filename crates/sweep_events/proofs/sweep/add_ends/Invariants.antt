use Rattle.sweep_events.specs.FirstQueue.{HasEnds}
use Rattle.sweep_events.proofs.sweep.add_ends.Given as goal

abbrev pub invariant-loop-piece : goal.invariant-loop-piece
invariant-loop-piece l = HasEnds l.pieces l.piece-index l.fn.queue.keys l.queue.keys
