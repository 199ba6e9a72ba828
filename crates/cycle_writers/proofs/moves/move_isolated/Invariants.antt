use Rattle.std.proofs.Common.{List}
use Rattle.slab_laws.specs.declared.names.VertexId.{VertexId}
use Rattle.cycle_writers.proofs.MovedVertices.{AreVerticesMoving, vertices_left}
use Rattle.cycle_writers.proofs.moves.move_isolated.Given as goal

abbrev pub invariant-vertices : goal.invariant-vertices
invariant-vertices l = (done : List VertexId) × (rest : List VertexId) × AreVerticesMoving l.fn.which l.fn.from l.fn.to l.fn.records l.fn.moved l.records l.moved l.next done rest

abbrev pub decreases-vertices : goal.decreases-vertices
decreases-vertices l = vertices_left l.records l.fn.from l.next
