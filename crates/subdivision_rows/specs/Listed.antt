-- What a subdivision that is kept in lists means as records: each name is the place in an ascending list.
use Rattle.std.specs.Prelude.{◌≡◌, ℕ, pos, List, map, length, Some, slice_get, slice_index_or}
use Rattle.std.specs.List.{list_any, range_with_len}
use Rattle.exact_plane.specs.Point.{Point}
use Rattle.exact_plane.specs.Line.{Line, IsOn}
use Rattle.plane_graphs.specs.Graph.{Graph, Edge, edges}
use Rattle.plane_graphs.specs.Line.{IsProperLine}
use Rattle.slab_laws.specs.Skeleton.{Skeleton, same_point}
use Rattle.slab_laws.specs.Darts.{Dart, source, darts}
use Rattle.slab_laws.specs.Rotation.{twin, next}
use Rattle.slab_laws.specs.Kinds.{kind_by}
use Rattle.slab_laws.specs.Subdivision.{Cycle, Subdivision, subdivision, rank}
use Rattle.slab_laws.specs.Text.{skeleton, numbered}
use Rattle.slab_laws.specs.Rows.{dart_list, vertex_place, edge_place, dart_place, cycle_place}
use Rattle.slab_laws.specs.View.{View, VertexRecord, DartRecord, Faces, CycleRecord, vertex_id, dart_id, cycle_id, face_id}

-- a graph, and the line of each of its edges (this project)
pub record Drawing : Type 0 where
  pub graph : Graph
  pub lines : List Line

-- the vertices and edges of the graph
abbrev pub skeleton_in : Drawing → Skeleton
skeleton_in d = skeleton d.graph

-- the subdivision of the plane by a graph (Fogel, Halperin and Wein)
abbrev pub subdivision_by : Graph → Subdivision
subdivision_by g = subdivision (skeleton g)

-- the subdivision of the plane by the drawing's graph
abbrev pub subdivision_in : Drawing → Subdivision
subdivision_in d = subdivision_by d.graph

-- the line of an edge at a place; where there is none, three zeros
abbrev pub line_at : Drawing → ℕ → Line
line_at d k = slice_index_or d.lines k (record { a = pos 0; b = pos 0; c = pos 0 })

-- the record of a vertex
abbrev pub vertex_record : Drawing → Point → VertexRecord
vertex_record d p = record { point = p; pinned = list_any (same_point p) d.graph.pins }

-- the record of a dart
abbrev pub dart_record : Drawing → Dart → DartRecord
dart_record d h =
    let g : Skeleton = skeleton_in d in
    record { source = vertex_id (vertex_place g (source h)); twin = dart_id (dart_place g (twin h)); next = dart_id (dart_place g (next (darts g) h)); line = line_at d (edge_place g h.edge) }

-- vertices and darts by their places (this project)
unfoldable pub view_of : Drawing → View
view_of d = record { vertices = numbered 0 (map (vertex_record d) d.graph.points); darts = numbered 0 (map (dart_record d) (dart_list (skeleton_in d))) }

-- the record of a cycle: its face goes by its rank
abbrev pub cycle_record : Drawing → Cycle → CycleRecord
cycle_record d c = record { kind = kind_by c.outer; face = face_id (rank (subdivision_in d) c.face) }

-- cycles by the order of their least darts, faces by their ranks (this project)
unfoldable pub faces_of : Drawing → Faces
faces_of d =
    let s : Subdivision = subdivision_in d in
    record {
      cycle_of = numbered 0 (map (λ h. cycle_id (cycle_place (skeleton_in d) h)) (dart_list (skeleton_in d)));
      bare = map (λ b. (vertex_place (skeleton_in d) b.point, face_id (rank s b.face))) s.bare;
      cycles = numbered 0 (map (cycle_record d) s.cycles);
      faces = range_with_len 0 (length s.faces);
    }

-- the edge stands at the place among the edges
abbrev pub IsEdgeAt : Drawing → ℕ → Edge → Type 0
IsEdgeAt d k e = slice_get (edges d.graph) k ≡ Some e

-- there are three numbers for each edge, which are a line's, and the line holds both its ends
pub record AreLinesOf (d : Drawing) : Type 0 where
  pub as_many : length d.lines ≡ length (edges d.graph)
  pub is_line : (k : ℕ) (e : Edge) → IsEdgeAt d k e → IsProperLine (line_at d k)
  pub lower_on : (k : ℕ) (e : Edge) → IsEdgeAt d k e → IsOn (line_at d k) e.low
  pub upper_on : (k : ℕ) (e : Edge) → IsEdgeAt d k e → IsOn (line_at d k) e.high
