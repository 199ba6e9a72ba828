use Rattle.std.proofs.Common.{length}
use Rattle.sound_views.proofs.NamesMet.{AllDarts, darts_left}
use Rattle.face_location.specs.Below.{IsSeenOrNone}
use Rattle.face_location.proofs.SeenDarts.{IsFirstCleared}
use Rattle.face_location.proofs.below.edge_at_or_below.Given as goal

abbrev pub invariant-loop-dart : goal.invariant-loop-dart
invariant-loop-dart g l = record {
  seen : IsSeenOrNone (g.R.Darts.graph l.records) l.point l.highest;
  cleared : AllDarts (g.R.Darts.graph l.records) (IsFirstCleared (g.R.Darts.graph l.records) l.point l.highest) l.last;
}

abbrev pub decreases-loop-dart : goal.decreases-loop-dart
decreases-loop-dart g l = length (darts_left (g.R.Darts.graph l.records) l.last)
