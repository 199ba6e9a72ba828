use Rattle.std.proofs.Common.{sym, subst}
use Rattle.std.specs.List.{slice_index_or}
use Rattle.plane_graphs.proofs.Sorting.{member_at}
use Rattle.slab_laws.specs.View.{HasVertex, vertex_id}
use Rattle.library_tour.proofs.neighbours.put_points.Goals as goal

-- each vertex of the list has a record
pub point-point-requires : goal.point-point-requires
point-point-requires g c =
    let w = slice_index_or c.args.vertices.now c.vertices.vertex-index (vertex_id 0) in
    subst (λ v. HasVertex v w) (sym c.records.ensures.graph) (c.requires.vertices w (member_at c.args.vertices.now c.vertices.vertex-index (vertex_id 0) c.vertices-test.true))
