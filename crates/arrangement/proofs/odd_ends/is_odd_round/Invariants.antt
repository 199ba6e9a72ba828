use Rattle.arr_notes.specs.AfterAround.{after_in}
use Rattle.rotation_order.proofs.Circuits.{left}
use Rattle.arrangement.proofs.OddEnds.{IsOddSoFar}
use Rattle.arrangement.proofs.odd_ends.is_odd_round.Given as goal

-- the darts that were met, and whether the pieces along them are odd in number
abbrev pub invariant-ring : goal.invariant-ring
invariant-ring l = IsOddSoFar l.records.graph l.history l.fn.first l.dart l.odd

abbrev pub decreases-ring : goal.decreases-ring
decreases-ring l = left l.records.graph l.fn.first (after_in l.records.graph l.dart)
