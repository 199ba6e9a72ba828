-- Cycles by their first darts, and faces by rank, of what is read by name.
use Rattle.std.specs.Prelude.{◌≡◌, ℕ, Bool, cond, not, List, [], ◌∷◌, ◌++◌, map, filter, Option, Some, None, ◌==◌}
use Rattle.std.specs.List.{list_any, position, slice_index_or}
use Rattle.slab_laws.specs.declared.names.CycleKind.{CycleKind}
use Rattle.slab_laws.specs.declared.names.DartId.{DartId}
use Rattle.slab_laws.specs.declared.names.FaceId.{FaceId}
use Rattle.slab_laws.specs.Kinds.{is_outer}
use Rattle.slab_laws.specs.Listed.{distinct}
use Rattle.slab_laws.specs.View.{Faces, cycle_in, kind_in, face_in, face_after_in}
use Rattle.record_orders.specs.declared.cycles.CycleKey.{CycleKey}

-- the darts are on one cycle
abbrev pub same_cycle : Faces → DartId → DartId → Bool
same_cycle f d e = (cycle_in f d).0 == (cycle_in f e).0

abbrev pub same_face : FaceId → FaceId → Bool
same_face a b = a.0 == b.0

-- the cycle is of the kind
abbrev pub is_of_kind : CycleKind → CycleKey → Bool
is_of_kind kind c = cond (is_outer kind) (is_outer c.kind) (not (is_outer c.kind))

-- the cycle of a dart
abbrev pub cycle_key : Faces → DartId → CycleKey
cycle_key f d = record { lead = d; kind = kind_in f (cycle_in f d); face = face_in f (cycle_in f d) }

-- the cycles of the darts, each by the first of them that is on it
abbrev pub cycle_keys : Faces → List DartId → List CycleKey
cycle_keys f ds = map (cycle_key f) (distinct (same_cycle f) ds)

-- the first face, which is the unbounded one
abbrev pub first_faces : Option FaceId → List FaceId
first_faces None = []
first_faces (Some a) = a ∷ []

-- the first face, then those of outer cycles in the order of these, each once
abbrev pub ranked_faces : Faces → List CycleKey → List FaceId
ranked_faces f cs = distinct same_face (first_faces (face_after_in f None) ++ map (λ c. c.face) (filter (λ c. is_outer c.kind) cs))

-- the faces with one more at their end, unless it stands among them
abbrev pub added : List FaceId → FaceId → List FaceId
added fs a = cond (list_any (same_face a) fs) fs (fs ++ a ∷ [])

-- the table has at the name of each face of the list its place, and nothing at other names
abbrev pub AreRanks : List (Option ℕ) → List FaceId → Type 0
AreRanks ranks fs = (a : FaceId) → slice_index_or ranks a.0 None ≡ position (same_face a) fs
