-- What one look at records tells, and how many the question for the vertex at a point takes.
use Rattle.std.specs.Prelude.{◌≡◌, ℕ, cond, length, Some, None}
use Rattle.slab_laws.specs.declared.names.DartId.{DartId}
use Rattle.slab_laws.specs.View.{View, HasVertex, HasDart, point_in, source_in, target_in, line_in}
use Rattle.counted_looks.specs.declared.glance.Looked.{Looked}
use Rattle.dcel_records.specs.RecordsView.{RecordsView}
use Rattle.dcel_records.specs.declared.spot.Spot.{Spot}
use Rattle.dcel_records.specs.declared.spot.Spot.TheVariants.{Vertex, Edge, Face}

-- a dart or a vertex that has a record (this project)
abbrev pub IsLookable : View → Spot → Type 0
IsLookable v (Vertex w) = HasVertex v w
IsLookable v (Edge d) = HasDart v d
IsLookable v (Face a) = ⊥

-- of a dart the two points and the line, of a vertex its point, and no line (this project)
abbrev pub IsLookOf : View → Spot → Looked → Type 0
IsLookOf v (Vertex w) l = (l.source ≡ point_in v w) × (l.target ≡ point_in v w) × (l.line ≡ None)
IsLookOf v (Edge d) l = (l.source ≡ point_in v (source_in v d)) × (l.target ≡ point_in v (target_in v d)) × (l.line ≡ Some (line_in v d))
IsLookOf v (Face a) l = ⊥

-- what a look at the dart tells (this project)
abbrev pub looked_at : View → DartId → Looked
looked_at v d = record { source = point_in v (source_in v d); target = point_in v (target_in v d); line = Some (line_in v d) }

-- the looks of the question for the vertex at a point: one, where the map from points to vertices is whole, else one for each vertex (this project)
abbrev pub vertex_looks : RecordsView → ℕ
vertex_looks h = cond h.mapped 1 (length h.graph.vertices)
