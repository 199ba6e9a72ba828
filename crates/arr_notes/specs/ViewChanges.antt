-- Changes of a view, one for each way in which records are written.
use Rattle.std.specs.Prelude.{◌==◌, Bool, false, cond, []}
use Rattle.exact_plane.specs.Point.{Point}
use Rattle.slab_laws.specs.declared.names.DartId.{DartId}
use Rattle.slab_laws.specs.declared.names.VertexId.{VertexId}
use Rattle.slab_laws.specs.View.{View, VertexRecord, DartRecord}
use Rattle.arr_notes.specs.NamedRows.{put, del, each, edit}

-- ---- single rows
-- the vertex with another pin
abbrev pub pinned_as : Bool → VertexRecord → VertexRecord
pinned_as b r = record { point = r.point; pinned = b }

-- the dart with another follower
abbrev pub followed_by : DartId → DartRecord → DartRecord
followed_by n r = record { source = r.source; twin = r.twin; next = n; line = r.line }

-- the dart with another source
abbrev pub leaving : VertexId → DartRecord → DartRecord
leaving w r = record { source = w; twin = r.twin; next = r.next; line = r.line }

-- the dart followed by y, if it was followed by x
abbrev pub turned : DartId → DartId → DartRecord → DartRecord
turned x y r = cond (r.next.0 == x.0) (followed_by y r) r

-- ---- views
-- a view without rows (CGAL manual, an empty arrangement's vertices and halfedges)
abbrev pub no_rows : View
no_rows = record { vertices = []; darts = [] }

-- one more vertex, with its point and no pin (this project)
abbrev pub with_vertex : View → VertexId → Point → View
with_vertex v w p = record { vertices = put w.0 (record { point = p; pinned = false }) v.vertices; darts = v.darts }

-- one vertex fewer (this project)
abbrev pub without_vertex : View → VertexId → View
without_vertex v w = record { vertices = del w.0 v.vertices; darts = v.darts }

-- a vertex pinned, or not pinned (this project)
abbrev pub with_pin : View → VertexId → Bool → View
with_pin v w b = record { vertices = edit w.0 (pinned_as b) v.vertices; darts = v.darts }

-- two more darts, with these rows (de Berg and others, doubly-connected edge list)
abbrev pub with_pair : View → DartId → DartId → DartRecord → DartRecord → View
with_pair v d m r s = record { vertices = v.vertices; darts = put m.0 s (put d.0 r v.darts) }

-- two darts fewer (de Berg and others, doubly-connected edge list)
abbrev pub without_pair : View → DartId → DartId → View
without_pair v d m = record { vertices = v.vertices; darts = del m.0 (del d.0 v.darts) }

-- the dart d is followed by n (this project)
abbrev pub with_next : View → DartId → DartId → View
with_next v d n = record { vertices = v.vertices; darts = edit d.0 (followed_by n) v.darts }

-- the dart d leaves w (this project)
abbrev pub with_source : View → DartId → VertexId → View
with_source v d w = record { vertices = v.vertices; darts = edit d.0 (leaving w) v.darts }

-- whichever dart was followed by x is followed by y (this project)
abbrev pub redirect : View → DartId → DartId → View
redirect v x y = record { vertices = v.vertices; darts = each (λ n r. turned x y r) v.darts }
