-- What a caller sees of the records: the graph by name, and how many more rows fit.
use Rattle.std.specs.Prelude.{◌≡◌, Bool, ℕ, ◌+◌, ◌≤◌, List, [], Option, None, Some, option_map, IsSome}
use Rattle.exact_plane.specs.Point.{Point}
use Rattle.slab_laws.specs.declared.names.CycleId.{CycleId}
use Rattle.slab_laws.specs.declared.names.DartId.{DartId}
use Rattle.slab_laws.specs.declared.names.FaceId.{FaceId}
use Rattle.slab_laws.specs.declared.names.VertexId.{VertexId}
use Rattle.slab_laws.specs.Tables.{row_at}
use Rattle.slab_laws.specs.View.{View, Faces, dart_id, target_in}
use Rattle.slab_laws.specs.FaceLists.{Lists}
use Rattle.dcel_records.specs.declared.ranks.RankKey.{RankKey}

-- the vertices and darts by name, how many more of each fit with no memory, and how many fit in all (this project)
pub record GraphView : Type 0 where
  pub graph : View
  pub spare_vertices : ℕ
  pub spare_darts : ℕ
  pub capacity_of_vertices : ℕ
  pub capacity_of_darts : ℕ

-- the cycles of a face, and its isolated vertices, in the order of its lists
pub record FaceRow : Type 0 where
  pub cycles : List CycleId
  pub bare : List VertexId

-- how many cycles and how many vertices the lists of what moves have room for
pub record MovedRoom : Type 0 where
  pub cycles : ℕ
  pub vertices : ℕ

-- the tables of cycles and faces, what each face lists, the dart that each cycle keeps, how many more cycles and faces fit with no memory, how many fit in all, and the room of the lists of what moves, where these are there (this project)
pub record FacesView : Type 0 where
  pub tables : Faces
  pub rows : List (ℕ × FaceRow)
  pub darts : List (ℕ × DartId)
  pub spare_cycles : ℕ
  pub spare_faces : ℕ
  pub capacity_of_cycles : ℕ
  pub capacity_of_faces : ℕ
  pub moved : Option MovedRoom

-- the faces in the order that is being made, each with the ends of a dart, and the rank that each face has (this project)
pub record RanksView : Type 0 where
  pub order : List RankKey
  pub ranks : List (ℕ × ℕ)

-- the graph, and beside it the faces, with the ranks that they were given; and whether the map from points to vertices is whole (this project)
pub record RecordsView : Type 0 where
  pub graph : View
  pub spare_vertices : ℕ
  pub spare_darts : ℕ
  pub capacity_of_vertices : ℕ
  pub capacity_of_darts : ℕ
  pub faces : FacesView
  pub ranks : RanksView
  pub mapped : Bool

-- the part of vertices and darts
abbrev pub graph_part : RecordsView → GraphView
graph_part h = record { graph = h.graph; spare_vertices = h.spare_vertices; spare_darts = h.spare_darts; capacity_of_vertices = h.capacity_of_vertices; capacity_of_darts = h.capacity_of_darts }

-- the part of cycles and faces
abbrev pub faces_part : RecordsView → FacesView
faces_part h = h.faces

-- the tables of cycles and faces alone
abbrev pub tables_of : RecordsView → Faces
tables_of h = h.faces.tables

abbrev pub row_or : Option FaceRow → FaceRow
row_or None = record { cycles = []; bare = [] }
row_or (Some r) = r

abbrev pub dart_or : Option DartId → DartId
dart_or None = dart_id 0
dart_or (Some d) = d

-- what a face lists, and the dart that a cycle keeps
abbrev pub lists_in_view : FacesView → Lists
lists_in_view f = record { cycles = λ a. (row_or (row_at f.rows a.0)).cycles; bare = λ a. (row_or (row_at f.rows a.0)).bare; dart_on = λ c. dart_or (row_at f.darts c.0) }

abbrev pub lists_of : RecordsView → Lists
lists_of h = lists_in_view h.faces

abbrev pub rank_or : Option ℕ → ℕ
rank_or None = 0
rank_or (Some k) = k

-- the rank that the face was given last; a face that was given none has 0 (this project)
abbrev pub rank_given : RecordsView → FaceId → ℕ
rank_given h a = rank_or (row_at h.ranks.ranks a.0)

-- the graph alone
abbrev pub graph_of : RecordsView → View
graph_of h = h.graph

-- the second has room for so many vertices and darts more than the first, and as many fit in all (this project)
pub record IsSpare (less more : RecordsView) (vertices darts : ℕ) : Type 0 where
  pub of_vertices : more.spare_vertices ≡ less.spare_vertices + vertices
  pub of_darts : more.spare_darts ≡ less.spare_darts + darts
  pub capacity_of_vertices : more.capacity_of_vertices ≡ less.capacity_of_vertices
  pub capacity_of_darts : more.capacity_of_darts ≡ less.capacity_of_darts

-- the second has room for so many cycles and faces more than the first, and as many fit in all (this project)
pub record IsSpareFaces (less more : FacesView) (cycles faces : ℕ) : Type 0 where
  pub of_cycles : more.spare_cycles ≡ less.spare_cycles + cycles
  pub of_faces : more.spare_faces ≡ less.spare_faces + faces
  pub capacity_of_cycles : more.capacity_of_cycles ≡ less.capacity_of_cycles
  pub capacity_of_faces : more.capacity_of_faces ≡ less.capacity_of_faces

-- the lists of what moves are there: no change carries them
abbrev pub IsReturned : RecordsView → Type 0
IsReturned h = IsSome h.faces.moved

-- room for every cycle and every vertex, spare ones included
pub record IsRoomFor (m : MovedRoom) (cycles vertices : ℕ) : Type 0 where
  pub of_cycles : cycles ≤ m.cycles
  pub of_vertices : vertices ≤ m.vertices

-- as many vertices and darts fit in all: no memory was taken, and none was given back (this project)
pub record SameRecordCapacity (old new : RecordsView) : Type 0 where
  pub of_vertices : new.capacity_of_vertices ≡ old.capacity_of_vertices
  pub of_darts : new.capacity_of_darts ≡ old.capacity_of_darts

-- the point of a vertex that has a record (CGAL manual, the point of a vertex)
abbrev pub point_found : View → VertexId → Option Point
point_found v w = option_map (λ r. r.point) (row_at v.vertices w.0)

-- the source and the target of a dart that has a record (CGAL manual, source and target of a halfedge)
abbrev pub ends_found : View → DartId → Option (VertexId × VertexId)
ends_found v d = option_map (λ r. (r.source, target_in v d)) (row_at v.darts d.0)
