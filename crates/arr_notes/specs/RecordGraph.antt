-- The graph that records draw: points, edges with their curves, and pins, whatever names they have.
use Rattle.std.specs.Prelude.{List, [], map, cond}
use Rattle.std.specs.List.{filter, flat_map}
use Rattle.exact_plane.specs.PointOrder.{point_cmp}
use Rattle.plane_graphs.specs.Ascending.{ascending}
use Rattle.plane_graphs.specs.Graph.{Graph, Mark, mark, mark_cmp}
use Rattle.slab_laws.specs.declared.names.DartId.{DartId}
use Rattle.slab_laws.specs.Sound.{points_of}
use Rattle.slab_laws.specs.View.{View, dart_id, point_in, source_in, target_in}
use Rattle.arr_notes.specs.Curves.{Curves, is_forward}

-- the marks of a forward dart: one for each curve along its edge
abbrev pub marks_along : View → Curves → DartId → List Mark
marks_along v h d = cond (is_forward v d) (map (mark (point_in v (source_in v d)) (point_in v (target_in v d))) (h d)) []

-- the graph that the records draw, with these curves (CGAL manual, `Arrangement_with_history_2`)
unfoldable pub drawn_graph : View → Curves → Graph
drawn_graph v h = record {
  points = points_of v;
  marks = ascending mark_cmp (flat_map (λ r. marks_along v h (dart_id r.0)) v.darts);
  pins = ascending point_cmp (map (λ r. r.1.point) (filter (λ r. r.1.pinned) v.vertices));
}
