-- The rows of a view in memory, as tables by name.
use Rattle.std.specs.Prelude.{◌≡◌, ℕ, List, [], ◌∷◌, map, All, Option, Some, None}
use Rattle.std.specs.List.{flat_map}
use Rattle.slab_laws.specs.declared.names.CurveId.{CurveId}
use Rattle.slab_laws.specs.declared.names.CycleId.{CycleId}
use Rattle.slab_laws.specs.declared.names.DartId.{DartId}
use Rattle.slab_laws.specs.declared.names.FaceId.{FaceId}
use Rattle.slab_laws.specs.declared.names.VertexId.{VertexId}
use Rattle.slab_laws.specs.Tables.{row_at}
use Rattle.slab_laws.specs.View.{View, Faces, VertexRecord, DartRecord, CycleRecord, point_in, pinned_in, source_in, twin_in, next_in, line_in, cycle_in, kind_in, face_in}
use Rattle.arr_notes.specs.CurvedView.{CurvedView}
use Rattle.arr_notes.specs.declared.view.CycleRow.{CycleRow}
use Rattle.arr_notes.specs.declared.view.DartRow.{DartRow}
use Rattle.arr_notes.specs.declared.view.EdgeRow.{EdgeRow}
use Rattle.arr_notes.specs.declared.view.VertexRow.{VertexRow}

abbrev pub vertex_row : VertexRow → ℕ × VertexRecord
vertex_row r = (r.name.0, record { point = r.point; pinned = r.pinned })

abbrev pub dart_row : DartRow → ℕ × DartRecord
dart_row r = (r.name.0, record { source = r.source; twin = r.twin; next = r.next; line = r.line })

-- the row of an isolated vertex; none for another one
abbrev pub bare_row : VertexId → Option FaceId → List (ℕ × FaceId)
bare_row u None = []
bare_row u (Some a) = (u.0, a) ∷ []

abbrev pub cycle_of_row : DartRow → ℕ × CycleId
cycle_of_row r = (r.name.0, r.cycle)

abbrev pub cycle_row : CycleRow → ℕ × CycleRecord
cycle_row r = (r.name.0, record { kind = r.kind; face = r.face })

abbrev pub edge_row : EdgeRow → ℕ × List ℕ
edge_row r = (r.dart.0, map (λ c. c.0) r.curves)

-- what the rows say by name: vertices and darts (this project)
abbrev pub graph_of_rows : List VertexRow → List DartRow → View
graph_of_rows vs ds = record { vertices = map vertex_row vs; darts = map dart_row ds }

-- and the cycle of each dart, the face of each isolated vertex, cycles and faces (this project)
abbrev pub faces_of_rows : List VertexRow → List DartRow → List CycleRow → List FaceId → Faces
faces_of_rows vs ds cs fs = record {
  cycle_of = map cycle_of_row ds;
  bare = flat_map (λ r. bare_row r.name r.face) vs;
  cycles = map cycle_row cs;
  faces = map (λ a. a.0) fs;
}

-- all of it, with the curves of the edges (this project)
abbrev pub view_of_rows : List VertexRow → List DartRow → List EdgeRow → List CycleRow → List FaceId → CurvedView
view_of_rows vs ds es cs fs = record { graph = graph_of_rows vs ds; faces = faces_of_rows vs ds cs fs; curves = map edge_row es }

-- each edge's line is that of its dart
abbrev pub HaveLines : View → List EdgeRow → Type 0
HaveLines v es = All (λ r. r.line ≡ line_in v r.dart) es

-- ---- rows of what is read by name
abbrev pub vertex_named : View → Faces → VertexId → VertexRow
vertex_named v f u = record { name = u; point = point_in v u; pinned = pinned_in v u; face = row_at f.bare u.0 }

abbrev pub dart_named : View → Faces → DartId → DartRow
dart_named v f d = record { name = d; source = source_in v d; twin = twin_in v d; next = next_in v d; line = line_in v d; cycle = cycle_in f d }

abbrev pub cycle_named : Faces → CycleId → CycleRow
cycle_named f c = record { name = c; kind = kind_in f c; face = face_in f c }

-- an edge by one of its darts, with these curves along each dart
abbrev pub edge_named : View → (DartId → List CurveId) → DartId → EdgeRow
edge_named v k d = record { dart = d; line = line_in v d; curves = k d }
