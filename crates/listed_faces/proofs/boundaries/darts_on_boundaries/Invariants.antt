use Rattle.std.proofs.Common.{length}
use Rattle.sound_views.proofs.NamesMet.{darts_left}
use Rattle.subdivision_rows.specs.Listed.{subdivision_in, view_of, faces_of}
use Rattle.listed_faces.proofs.KeptDarts.{AreKept}
use Rattle.listed_faces.proofs.boundaries.darts_on_boundaries.Given as goal

-- for the boundary of each dart that was met one is kept
abbrev pub invariant-darts : goal.invariant-darts
invariant-darts l = AreKept (view_of l.rows) (faces_of l.rows) (length (subdivision_in l.rows).cycles) l.last l.kept.items

abbrev pub decreases-darts : goal.decreases-darts
decreases-darts l = length (darts_left (view_of l.rows) l.last)
