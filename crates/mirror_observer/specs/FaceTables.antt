-- What a mirror's maps of cycles and faces say, and what a walk along an orbit makes of the cycles of darts.
use Rattle.std.specs.Prelude.{◌==◌, cond, List, [], ◌∷◌, ℕ, IsSome}
use Rattle.slab_laws.specs.declared.names.CycleId.{CycleId}
use Rattle.slab_laws.specs.declared.names.DartId.{DartId}
use Rattle.slab_laws.specs.declared.names.FaceId.{FaceId}
use Rattle.slab_laws.specs.Sound.{IsGraphSound}
use Rattle.slab_laws.specs.Tables.{row_at}
use Rattle.slab_laws.specs.View.{View, Faces, CycleRecord, HasDart, dart_id}
use Rattle.arr_notes.specs.CycleNames.{cycle_label}
use Rattle.arr_notes.specs.NamedRows.{put, each}
use Rattle.mirror_observer.specs.declared.faces.CycleEntry.{CycleEntry}
use Rattle.mirror_observer.specs.declared.faces.FaceTables.{FaceTables}
use Rattle.mirror_observer.specs.declared.tables.DartEntry.{DartEntry}
use Rattle.mirror_observer.specs.declared.tables.VertexEntry.{VertexEntry}
use Rattle.mirror_observer.specs.Tables.{rows, graph_of, darts_of}

-- what a view says of a cycle
abbrev pub cycle_record : CycleEntry → CycleRecord
cycle_record e = record { kind = e.kind; face = e.face }

-- what the maps say of cycles and faces (this project)
abbrev pub faces_of : List (ℕ × CycleId) → List (ℕ × FaceId) → List (ℕ × CycleEntry) → List ℕ → Faces
faces_of ds vs cs fs = record { cycle_of = ds; bare = vs; cycles = rows cycle_record cs; faces = fs }

abbrev pub faces_in : FaceTables → Faces
faces_in t = faces_of t.cycle_of.entries t.bare.entries t.cycles.entries t.faces.keys

-- the cycle in another face
abbrev pub in_face : FaceId → CycleEntry → CycleEntry
in_face a e = record { kind = e.kind; face = a }

-- the darts of the orbit of d are on the cycle
abbrev pub orbit_rows : View → DartId → CycleId → List (ℕ × CycleId) → List (ℕ × CycleId)
orbit_rows v d c rs = each (λ k b. cond ((cycle_label v (dart_id k)).0 == (cycle_label v d).0) c b) rs

-- with some vertices the darts are a sound graph
abbrev pub AreDartsSound : List (ℕ × DartEntry) → Type 0
AreDartsSound ds = (vs : List (ℕ × VertexEntry)) × IsGraphSound (graph_of vs ds)

-- what is on a cycle is a dart
abbrev pub AreRowsOfDarts : List (ℕ × DartEntry) → List (ℕ × CycleId) → Type 0
AreRowsOfDarts ds rs = (d : DartId) → IsSome (row_at rs d.0) → HasDart (darts_of ds) d

-- a row for its name, where there is one
abbrev pub put_row : List (ℕ × FaceId) → List (ℕ × FaceId) → List (ℕ × FaceId)
put_row [] rs = rs
put_row (r ∷ more) rs = put r.0 r.1 rs
