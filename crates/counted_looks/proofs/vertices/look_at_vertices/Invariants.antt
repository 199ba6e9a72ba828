use Rattle.std.proofs.Common.{length}
use Rattle.sound_views.proofs.NamesMet.{vertices_left}
use Rattle.counted_looks.proofs.VerticesRead.{AreLookedAt}
use Rattle.counted_looks.proofs.vertices.look_at_vertices.Given as goal

abbrev pub invariant-vertices : goal.invariant-vertices
invariant-vertices g l = AreLookedAt l.records.graph l.point l.fn.steps l.steps l.found l.last

abbrev pub decreases-vertices : goal.decreases-vertices
decreases-vertices g l = length (vertices_left l.records.graph l.last)
