use Rattle.std.proofs.Common.{length}
use Rattle.sound_views.proofs.NamesMet.{AllVertices, vertices_left}
use Rattle.arrangement.proofs.OddEnds.{IsClearedBy, IsFound}
use Rattle.arrangement.proofs.odd_ends.least_odd.Given as goal

-- the least so far is an odd end, and each odd end that was met is that one or comes later
abbrev pub invariant-vertices : goal.invariant-vertices
invariant-vertices l = record {
  found : IsFound l.records.graph l.history l.least;
  cleared : AllVertices l.records.graph (IsClearedBy l.records.graph l.history l.least) l.last;
}

abbrev pub decreases-vertices : goal.decreases-vertices
decreases-vertices l = length (vertices_left l.records.graph l.last)
