-- How two slabs of rows are a graph (this project).
use Rattle.std.specs.Prelude.{◌≡◌, ◌==◌, ℕ, cond, ◌-◌, ◌≤◌, List, [], ◌∷◌, map, length, Option, Some, None, option_map, IsSome, vec_capacity}
use Rattle.std.specs.List.{filter}
use Rattle.exact_plane.specs.WholeParts.{whole_parts}
use Rattle.exact_plane.specs.declared.whole_parts.WholeParts.{WholeParts}
use Rattle.slab.specs.Slab.{Slab, get, entries, slab_len}
use Rattle.slab_laws.specs.declared.names.DartId.{DartId}
use Rattle.slab_laws.specs.declared.names.FaceId.{FaceId}
use Rattle.slab_laws.specs.declared.names.VertexId.{VertexId}
use Rattle.slab_laws.specs.FaceLists.{Lists, MovedView}
use Rattle.slab_laws.specs.Sound.{IsTwinned}
use Rattle.slab_laws.specs.Tables.{names}
use Rattle.slab_laws.specs.View.{View, VertexRecord, DartRecord, CycleRecord, Faces, vertex_id, dart_id, cycle_id}
use Rattle.chain_laws.specs.Links.{key_at, without}
use Rattle.chain_laws.specs.Rows.{tabled}
use Rattle.dcel_records.specs.declared.rows.StoredVertex.{StoredVertex}
use Rattle.dcel_records.specs.declared.rows.StoredDart.{StoredDart}
use Rattle.dcel_records.specs.declared.rows.StoredCycle.{StoredCycle}
use Rattle.dcel_records.specs.declared.rows.StoredFace.{StoredFace}
use Rattle.dcel_records.specs.Placing.{cycle_placing, vertex_placing, nodes, own, AreChained, IsRelinked}
use Rattle.dcel_records.specs.declared.records.Records.TheInside.{Inside}
use Rattle.dcel_records.specs.declared.ranks.RankKey.{RankKey}
use Rattle.dcel_records.specs.RecordsView.{GraphView, FacesView, RecordsView, RanksView, FaceRow, MovedRoom, rank_or}
use Rattle.dcel_records.specs.Areas.{HasParts}
use Rattle.dcel_records.specs.Outs.{IsOut}
use Rattle.dcel_records.specs.declared.vertex_map.VertexMap.{VertexMap}
use Rattle.dcel_records.specs.VertexMaps.{IsMapOf}

-- what a row tells of a vertex: all but the dart that it keeps
abbrev pub vertex_of : StoredVertex → VertexRecord
vertex_of r = record { point = r.point; pinned = r.pinned }

-- what a row tells of a dart
abbrev pub dart_of : StoredDart → DartRecord
dart_of r = record { source = r.source; twin = r.twin; next = r.next; line = r.line }

-- the graph that the two slabs are
abbrev pub graph_in : Slab StoredVertex → Slab StoredDart → View
graph_in vs ds = record { vertices = tabled vertex_of vs; darts = tabled dart_of ds }

-- the graph, the room that the two slabs have left, and all that they have room for
abbrev pub graph_view : Slab StoredVertex → Slab StoredDart → GraphView
graph_view vs ds = record { graph = graph_in vs ds; spare_vertices = vs.capacity - slab_len vs; spare_darts = ds.capacity - slab_len ds; capacity_of_vertices = vs.capacity; capacity_of_darts = ds.capacity }

-- what a row tells of a cycle
abbrev pub cycle_record : StoredCycle → CycleRecord
cycle_record r = record { kind = r.kind; face = r.place.face }

-- the face of an isolated vertex
abbrev pub bare_of : StoredVertex → Option FaceId
bare_of r = option_map (λ p. p.face) r.place

abbrev pub some_more : {X : Type 0} → ℕ → Option X → List (ℕ × X) → List (ℕ × X)
some_more n None rs = rs
some_more n (Some x) rs = (n, x) ∷ rs

-- the rows that have something
unfoldable pub somes : {X : Type 0} → List (ℕ × Option X) → List (ℕ × X)
somes [] = []
somes (r ∷ rs) = some_more r.0 r.1 (somes rs)

-- the cycle of each dart, the face of each isolated vertex, the cycles, and the names of the faces
abbrev pub tables_in : Slab StoredVertex → Slab StoredDart → Slab StoredCycle → Slab StoredFace → Faces
tables_in vs ds cs fs = record { cycle_of = tabled (λ r. r.cycle) ds; bare = somes (tabled bare_of vs); cycles = tabled cycle_record cs; faces = names (entries fs) }

abbrev pub dart_kept : Option StoredCycle → DartId
dart_kept None = dart_id 0
dart_kept (Some r) = r.dart

-- what each face lists, and the dart that a cycle keeps
abbrev pub lists_in : Slab StoredVertex → Slab StoredCycle → Slab StoredFace → Lists
lists_in vs cs fs = record { cycles = λ a. map cycle_id (own cycle_placing cs fs a.0); bare = λ a. map vertex_id (own vertex_placing vs fs a.0); dart_on = λ c. dart_kept (get cs c.0) }

-- what each face that has a record lists
abbrev pub face_row : Slab StoredVertex → Slab StoredCycle → Slab StoredFace → ℕ → FaceRow
face_row vs cs fs k = record { cycles = map cycle_id (own cycle_placing cs fs k); bare = map vertex_id (own vertex_placing vs fs k) }

abbrev pub face_rows : Slab StoredVertex → Slab StoredCycle → Slab StoredFace → List (ℕ × FaceRow)
face_rows vs cs fs = map (λ k. (k, face_row vs cs fs k)) (names (entries fs))

abbrev pub moved_room : MovedView → MovedRoom
moved_room m = record { cycles = m.room_of_cycles; vertices = m.room_of_vertices }

abbrev pub faces_view : Slab StoredVertex → Slab StoredDart → Slab StoredCycle → Slab StoredFace → Option MovedView → ℕ → FacesView
faces_view vs ds cs fs moved cycle_room = record { tables = tables_in vs ds cs fs; rows = face_rows vs cs fs; darts = tabled (λ r. r.dart) cs; spare_cycles = cycle_room - slab_len cs; spare_faces = fs.capacity - slab_len fs; capacity_of_cycles = cycle_room; capacity_of_faces = fs.capacity; moved = option_map moved_room moved }

-- the faces in the order that is being made, and the rank of each
abbrev pub ranks_view : Slab StoredFace → List RankKey → RanksView
ranks_view fs order = record { order = order; ranks = tabled (λ r. r.rank) fs }

-- all that the slabs are; of what the slabs of vertices and cycles have room for, so much is promised; and whether the map is whole
abbrev pub records_view : Inside → RecordsView
records_view s = record { graph = graph_in s.vertices s.darts; spare_vertices = s.vertex_room - slab_len s.vertices; spare_darts = s.darts.capacity - slab_len s.darts; capacity_of_vertices = s.vertex_room; capacity_of_darts = s.darts.capacity; faces = faces_view s.vertices s.darts s.cycles s.faces s.moved s.cycle_room; ranks = ranks_view s.faces s.order.items; mapped = s.at.whole }

-- the graph of the records, and what the two slabs have room for
abbrev pub graph_of_slabs : Slab StoredVertex → Slab StoredDart → RecordsView → GraphView
graph_of_slabs vs ds h = record { graph = h.graph; spare_vertices = vs.capacity - slab_len vs; spare_darts = ds.capacity - slab_len ds; capacity_of_vertices = vs.capacity; capacity_of_darts = ds.capacity }

-- the dart out that a row keeps, if there is a row that keeps one
abbrev pub out_or : Option StoredVertex → Option DartId
out_or None = None
out_or (Some r) = r.out

-- the dart out that is kept for a vertex; without a row, none
abbrev pub out_at : Slab StoredVertex → VertexId → Option DartId
out_at vs w = out_or (get vs w.0)

-- twins, and for every name the right dart out: so no dart leaves a name without a row (this project)
pub record AreSoundRows (vs : Slab StoredVertex) (ds : Slab StoredDart) : Type 0 where
  pub twinned : IsTwinned (graph_in vs ds)
  pub outs : (w : VertexId) → IsOut (graph_in vs ds) w (out_at vs w)

-- how many rows of a table of vertices are pinned
abbrev pub pins_among : List (ℕ × VertexRecord) → ℕ
pins_among rs = length (filter (λ r. r.1.pinned) rs)

-- how many rows of vertices are in the list of a face
abbrev pub isolated_among : Slab StoredVertex → ℕ
isolated_among vs = length (somes (tabled bare_of vs))

-- sound rows, the map from points to vertices, and as many pins as are counted (this project)
pub record AreSoundGraphs (vs : Slab StoredVertex) (ds : Slab StoredDart) (at : VertexMap) (pins : ℕ) : Type 0 where
  pub rows : AreSoundRows vs ds
  pub mapped : IsMapOf at (graph_in vs ds).vertices
  pub counted : pins ≡ pins_among (graph_in vs ds).vertices

-- the slab keeps its rows, and has no less room than before
pub record IsGrown {X : Type 0} (old new : Slab X) : Type 0 where
  pub rest : new ≡ record old { capacity = new.capacity }
  pub capacity : old.capacity ≤ new.capacity

-- the lists of what moves are empty, and have room for so many cycles and vertices
pub record AreReady (m : MovedView) (cycles vertices : ℕ) : Type 0 where
  pub no_cycles : m.cycles ≡ []
  pub no_vertices : m.vertices ≡ []
  pub room_of_cycles : cycles ≤ m.room_of_cycles
  pub room_of_vertices : vertices ≤ m.room_of_vertices

-- so they are, where they are there
abbrev pub AreReadyWhere : Option MovedView → ℕ → ℕ → Type 0
AreReadyWhere moved cycles vertices = (m : MovedView) → moved ≡ Some m → AreReady m cycles vertices

-- what is promised holds all rows, and the slab can hold it
pub record IsRoom {X : Type 0} (room : ℕ) (s : Slab X) : Type 0 where
  pub holds : slab_len s ≤ room
  pub within : room ≤ s.capacity

-- each face has the chains of its cycles and of its isolated vertices, and the face named 0, the unbounded one, is there
pub record AreSoundFaces (vs : Slab StoredVertex) (cs : Slab StoredCycle) (fs : Slab StoredFace) : Type 0 where
  pub cycles : AreChained cycle_placing cs fs
  pub bare : AreChained vertex_placing vs fs
  pub unbounded : IsSome (get fs 0)

-- the cycle of each dart has a row, with the whole parts of the point that the dart leaves in its box
abbrev pub AreOnCycles : Slab StoredDart → Slab StoredCycle → Type 0
AreOnCycles ds cs = (n : ℕ) (r : StoredDart) → get ds n ≡ Some r → HasParts (get cs r.cycle.0) r.parts

-- the whole parts of the point of a vertex that has a row
abbrev pub parts_at : Slab StoredVertex → ℕ → Option WholeParts
parts_at vs n = option_map (λ r. whole_parts r.point) (get vs n)

-- each dart keeps the whole parts of the point of its source, which has a row
abbrev pub AreSourcesKept : Slab StoredVertex → Slab StoredDart → Type 0
AreSourcesKept vs ds = (n : ℕ) (r : StoredDart) → get ds n ≡ Some r → parts_at vs r.source.0 ≡ Some r.parts

-- and those that its twin keeps of its own
abbrev pub AreTargetsKept : Slab StoredDart → Type 0
AreTargetsKept ds = (n : ℕ) (r q : StoredDart) → get ds n ≡ Some r → get ds r.twin.0 ≡ Some q → q.parts ≡ r.target_parts

-- each dart keeps the whole parts of both its points
pub record AreMarked (vs : Slab StoredVertex) (ds : Slab StoredDart) : Type 0 where
  pub sources : AreSourcesKept vs ds
  pub targets : AreTargetsKept ds

-- all that is always true of the records; there is room for a key of each cycle that is promised
pub record AreSoundRecords (s : Inside) : Type 0 where
  pub graph : AreSoundGraphs s.vertices s.darts s.at s.pins
  pub faces : AreSoundFaces s.vertices s.cycles s.faces
  pub vertex_room : IsRoom s.vertex_room s.vertices
  pub cycle_room : IsRoom s.cycle_room s.cycles
  pub on_cycles : AreOnCycles s.darts s.cycles
  pub marked : AreMarked s.vertices s.darts
  pub moved : AreReadyWhere s.moved s.cycle_room s.vertex_room
  pub isolated : s.isolated ≡ isolated_among s.vertices
  pub keys : s.cycle_room ≤ vec_capacity s.order

-- the vertex c is in no face's list and has no place, and all else is as it was
pub record HasLeft (c : ℕ) (vs ws : Slab StoredVertex) (fs gs : Slab StoredFace) : Type 0 where
  pub chained : AreChained vertex_placing ws gs
  pub owns : (k : ℕ) → own vertex_placing ws gs k ≡ without c (own vertex_placing vs fs k)
  pub keys : (n : ℕ) → key_at (nodes vertex_placing ws) n ≡ cond (n == c) None (key_at (nodes vertex_placing vs) n)
  pub kept : IsRelinked vertex_placing vs ws fs gs

-- the rank that a face has; without a row, 0
abbrev pub rank_at : Slab StoredFace → FaceId → ℕ
rank_at fs a = rank_or (option_map (λ r. r.rank) (get fs a.0))

-- what a face has beside its rank
abbrev pub unranked : StoredFace → StoredFace
unranked r = record { first_cycle = r.first_cycle; first_bare = r.first_bare; rank = 0 }

-- all is as it was, but for ranks
pub record IsReranked (old new : Slab StoredFace) : Type 0 where
  pub rests : (k : ℕ) → option_map unranked (get new k) ≡ option_map unranked (get old k)
  pub len : slab_len new ≡ slab_len old
  pub capacity : new.capacity ≡ old.capacity
