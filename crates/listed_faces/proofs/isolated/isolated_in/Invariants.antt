use Rattle.std.proofs.Common.{length}
use Rattle.sound_views.proofs.NamesMet.{vertices_left}
use Rattle.listed_faces.proofs.FoundVertices.{AreFoundSoFar}
use Rattle.listed_faces.proofs.isolated.isolated_in.Given as goal

-- of the vertices that were met those that are isolated in the face are listed
abbrev pub invariant-vertices : goal.invariant-vertices
invariant-vertices g l = AreFoundSoFar (g.R.Darts.graph l.graph) (g.R.Faced.faces l.graph) l.face l.last l.found.items

abbrev pub decreases-vertices : goal.decreases-vertices
decreases-vertices g l = length (vertices_left (g.R.Darts.graph l.graph) l.last)
