-- Single changes of the tables of cycles and faces, one for each way in which they are written (this project).
use Rattle.std.specs.Prelude.{◌==◌, nat_lt, Bool, ℕ, cond, List, [], ◌∷◌}
use Rattle.std.specs.List.{list_any}
use Rattle.slab_laws.specs.declared.names.CycleId.{CycleId}
use Rattle.slab_laws.specs.declared.names.CycleKind.{CycleKind}
use Rattle.slab_laws.specs.declared.names.DartId.{DartId}
use Rattle.slab_laws.specs.declared.names.FaceId.{FaceId}
use Rattle.slab_laws.specs.declared.names.VertexId.{VertexId}
use Rattle.slab_laws.specs.View.{View, Faces, dart_id}
use Rattle.arr_notes.specs.CycleNames.{cycle_label}
use Rattle.arr_notes.specs.NamedRows.{put, del, each}

-- ---- names that ascend: one more in its place, one fewer
unfoldable pub put_name : ℕ → List ℕ → List ℕ
put_name k [] = k ∷ []
put_name k (n ∷ ns) = cond (nat_lt k n) (k ∷ n ∷ ns) (cond (n == k) (n ∷ ns) (n ∷ put_name k ns))

unfoldable pub del_name : ℕ → List ℕ → List ℕ
del_name k [] = []
del_name k (n ∷ ns) = cond (n == k) ns (n ∷ del_name k ns)

-- ---- single rows
-- the dart is on the cycle
abbrev pub on_cycle : DartId → CycleId → Faces → Faces
on_cycle d cycle f = record { cycle_of = put d.0 cycle f.cycle_of; bare = f.bare; cycles = f.cycles; faces = f.faces }

-- the dart is gone
abbrev pub off_cycles : DartId → Faces → Faces
off_cycles d f = record { cycle_of = del d.0 f.cycle_of; bare = f.bare; cycles = f.cycles; faces = f.faces }

-- the vertex is isolated in the face
abbrev pub bare_in : VertexId → FaceId → Faces → Faces
bare_in u face f = record { cycle_of = f.cycle_of; bare = put u.0 face f.bare; cycles = f.cycles; faces = f.faces }

-- the vertex isn't isolated, or is gone
abbrev pub not_bare : VertexId → Faces → Faces
not_bare u f = record { cycle_of = f.cycle_of; bare = del u.0 f.bare; cycles = f.cycles; faces = f.faces }

-- one more cycle, of this kind and in this face
abbrev pub with_cycle : CycleId → CycleKind → FaceId → Faces → Faces
with_cycle cycle kind face f =
    record { cycle_of = f.cycle_of; bare = f.bare; cycles = put cycle.0 (record { kind = kind; face = face }) f.cycles; faces = f.faces }

-- one cycle fewer
abbrev pub without_cycle : CycleId → Faces → Faces
without_cycle cycle f = record { cycle_of = f.cycle_of; bare = f.bare; cycles = del cycle.0 f.cycles; faces = f.faces }

-- one more face
abbrev pub with_face : FaceId → Faces → Faces
with_face face f = record { cycle_of = f.cycle_of; bare = f.bare; cycles = f.cycles; faces = put_name face.0 f.faces }

-- one face fewer
abbrev pub without_face : FaceId → Faces → Faces
without_face face f = record { cycle_of = f.cycle_of; bare = f.bare; cycles = f.cycles; faces = del_name face.0 f.faces }

-- ---- many rows
-- the darts of the one cycle are on the other
abbrev pub recycled : CycleId → CycleId → Faces → Faces
recycled gone kept f = record { cycle_of = each (λ k c. cond (c.0 == gone.0) kept c) f.cycle_of; bare = f.bare; cycles = f.cycles; faces = f.faces }

-- the darts of the orbit of d, as the view has it, are on the cycle
abbrev pub orbit_on : View → DartId → CycleId → Faces → Faces
orbit_on w d cycle f =
    record { cycle_of = each (λ k b. cond ((cycle_label w (dart_id k)).0 == (cycle_label w d).0) cycle b) f.cycle_of; bare = f.bare; cycles = f.cycles; faces = f.faces }

-- the name is that of a listed cycle, or of a listed vertex
abbrev pub lists_cycle : List CycleId → ℕ → Bool
lists_cycle cycles n = list_any (λ c. c.0 == n) cycles

abbrev pub lists_vertex : List VertexId → ℕ → Bool
lists_vertex vertices n = list_any (λ u. u.0 == n) vertices

-- the listed cycles, which keep their kinds, and the listed vertices are in the face
abbrev pub moved_to : List CycleId → List VertexId → FaceId → Faces → Faces
moved_to cycles vertices face f =
    record { cycle_of = f.cycle_of; bare = each (λ n b. cond (lists_vertex vertices n) face b) f.bare; cycles = each (λ n r. cond (lists_cycle cycles n) (record { kind = r.kind; face = face }) r) f.cycles; faces = f.faces }
