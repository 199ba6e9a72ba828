use Rattle.std.proofs.Common.{◌≡◌, ◌+◌, drop}
use Rattle.curve_history.specs.Past.{strands_on}
use Rattle.segment_insert.specs.Insertion.{pairs_to_part}
use Rattle.segment_insert.proofs.insertion.count_pairs.Given as goal

abbrev pub invariant-loop-meeting : goal.invariant-loop-meeting
invariant-loop-meeting l = l.pairs + pairs_to_part (strands_on l.history) (drop l.meeting-index l.meetings) ≡ l.more + pairs_to_part (strands_on l.history) l.meetings
