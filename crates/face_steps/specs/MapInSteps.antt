-- A small map in steps: each of the eleven changes, with a hole and an isolated vertex that move, and others that stay.
-- The tables were made by hand, and compared with another program's, which turns round vertices by angles and tells kinds and faces by areas and rays.
use Rattle.std.specs.Prelude.{◌≡◌, ℕ, pos, negsuc, true, false, List, [], ◌∷◌, Option, Some, None}
use Rattle.exact_plane.specs.Line.{Line}
use Rattle.slab_laws.specs.declared.names.CycleId.{CycleId}
use Rattle.slab_laws.specs.declared.names.CycleKind.TheVariants.{Inner, Outer}
use Rattle.slab_laws.specs.declared.names.DartId.{DartId}
use Rattle.slab_laws.specs.declared.names.FaceId.{FaceId}
use Rattle.slab_laws.specs.declared.names.VertexId.{VertexId}
use Rattle.slab_laws.specs.FaceLists.{MovedView}
use Rattle.slab_laws.specs.Sound.{skeleton_of, dart_in}
use Rattle.slab_laws.specs.Triangle.{corner, dart}
use Rattle.slab_laws.specs.View.{View, Faces, CycleRecord, VertexRecord, vertex_id, dart_id, cycle_id, face_id, curve_id}
use Rattle.arr_notes.specs.FacesTold.{faces_after}
use Rattle.arr_notes.specs.declared.faces.Linked.{Linked}
use Rattle.arr_notes.specs.declared.faces.Linked.TheVariants.{NewHole, Grows, Joins, Splits}
use Rattle.arr_notes.specs.declared.faces.Unlinked.TheVariants.{Vanishes, Shrinks, Breaks, Unites}
use Rattle.arr_notes.specs.Step.{step}
use Rattle.arr_notes.specs.declared.change.Change.{Change}
use Rattle.arr_notes.specs.declared.change.Change.TheVariants.{AddVertex, RemoveVertex, SplitEdge, MergeEdge, AddEdge, RemoveEdge, AddCurve, RemoveCurve, SetPin, ClearPin, Clear}
use Rattle.face_changes.specs.FacesByPairs.{beside, round, cell_at}
use Rattle.face_changes.specs.Kinds.{odd_at, is_outer}
use Rattle.face_changes.specs.RecordsAfterSplits.{IsWithin}

-- ---- how rows are written: a vertex, a dart on a cycle, a vertex without darts in a face, an inner and an outer cycle of a face
abbrev pub at : ℕ → ℕ → ℕ → ℕ × VertexRecord
at u x y = (u, corner (record { x = pos x; y = pos y; w = pos 1 }))

abbrev pub on : ℕ → ℕ → ℕ × CycleId
on d c = (d, cycle_id c)

abbrev pub lone : ℕ → ℕ → ℕ × FaceId
lone u a = (u, face_id a)

abbrev pub inner : ℕ → ℕ → ℕ × CycleRecord
inner c a = (c, record { kind = Inner; face = face_id a })

abbrev pub outer : ℕ → ℕ → ℕ × CycleRecord
outer c a = (c, record { kind = Outer; face = face_id a })

abbrev pub edge : (d m u v : ℕ) → Option DartId → Option DartId → Line → Linked → Change
edge d m u v at_u at_v line faces = AddEdge (dart_id d) (dart_id m) (vertex_id u) (vertex_id v) at_u at_v line (curve_id 1) faces

-- what moves
abbrev pub moving : List CycleId → List VertexId → MovedView
moving cycles vertices = record { cycles = cycles; vertices = vertices; room_of_cycles = 1; room_of_vertices = 1 }

-- ---- the lines of the edges: below, right, above, left, and the diagonal
abbrev pub below : Line
below = record { a = pos 0; b = pos 1; c = pos 0 }

abbrev pub right : Line
right = record { a = negsuc 0; b = pos 0; c = pos 8 }

abbrev pub above : Line
above = record { a = pos 0; b = pos 1; c = negsuc 7 }

abbrev pub left : Line
left = record { a = negsuc 0; b = pos 0; c = pos 0 }

abbrev pub diagonal : Line
diagonal = record { a = negsuc 0; b = pos 1; c = pos 0 }

-- ---- the map before: the corners of a square, 0 to 3, two points of its diagonal, 4 and 5, and to the right of it the vertex 7 and the edge of 16 and 17
abbrev pub start : View
start = record {
  vertices = at 0 0 0 ∷ at 1 8 0 ∷ at 2 8 8 ∷ at 3 0 8 ∷ at 4 2 2 ∷ at 5 4 4 ∷ at 7 10 1 ∷ at 8 10 4 ∷ at 9 10 6 ∷ [];
  darts = (16, dart 8 17 17 (record { a = negsuc 0; b = pos 0; c = pos 10 })) ∷ (17, dart 9 16 16 (record { a = negsuc 0; b = pos 0; c = pos 10 })) ∷ [];
}

-- all in the unbounded face
abbrev pub start_tables : Faces
start_tables = record {
  cycle_of = on 16 9 ∷ on 17 9 ∷ [];
  bare = lone 0 0 ∷ lone 1 0 ∷ lone 2 0 ∷ lone 3 0 ∷ lone 4 0 ∷ lone 5 0 ∷ lone 7 0 ∷ [];
  cycles = inner 9 0 ∷ [];
  faces = 0 ∷ [];
}

-- ---- a vertex above the diagonal
abbrev pub with_vertex_by : Change
with_vertex_by = AddVertex (vertex_id 6) (record { x = pos 2; y = pos 5; w = pos 1 }) (face_id 0)

abbrev pub with_vertex : View
with_vertex = step start with_vertex_by

abbrev pub with_vertex_tables : Faces
with_vertex_tables = record {
  cycle_of = on 16 9 ∷ on 17 9 ∷ [];
  bare = lone 0 0 ∷ lone 1 0 ∷ lone 2 0 ∷ lone 3 0 ∷ lone 4 0 ∷ lone 5 0 ∷ lone 6 0 ∷ lone 7 0 ∷ [];
  cycles = inner 9 0 ∷ [];
  faces = 0 ∷ [];
}

-- ---- the side below
abbrev pub side_below_by : Change
side_below_by = edge 0 1 0 1 None None below (NewHole (cycle_id 0) (face_id 0))

abbrev pub side_below : View
side_below = step with_vertex side_below_by

abbrev pub side_below_tables : Faces
side_below_tables = record {
  cycle_of = on 0 0 ∷ on 1 0 ∷ on 16 9 ∷ on 17 9 ∷ [];
  bare = lone 2 0 ∷ lone 3 0 ∷ lone 4 0 ∷ lone 5 0 ∷ lone 6 0 ∷ lone 7 0 ∷ [];
  cycles = inner 0 0 ∷ inner 9 0 ∷ [];
  faces = 0 ∷ [];
}

-- ---- the side on the right
abbrev pub side_right_by : Change
side_right_by = edge 2 3 1 2 (Some (dart_id 1)) None right (Grows (cycle_id 0))

abbrev pub side_right : View
side_right = step side_below side_right_by

abbrev pub side_right_tables : Faces
side_right_tables = record {
  cycle_of = on 0 0 ∷ on 1 0 ∷ on 2 0 ∷ on 3 0 ∷ on 16 9 ∷ on 17 9 ∷ [];
  bare = lone 3 0 ∷ lone 4 0 ∷ lone 5 0 ∷ lone 6 0 ∷ lone 7 0 ∷ [];
  cycles = inner 0 0 ∷ inner 9 0 ∷ [];
  faces = 0 ∷ [];
}

-- ---- the side above
abbrev pub side_above_by : Change
side_above_by = edge 4 5 3 2 None (Some (dart_id 3)) above (Grows (cycle_id 0))

abbrev pub side_above : View
side_above = step side_right side_above_by

abbrev pub side_above_tables : Faces
side_above_tables = record {
  cycle_of = on 0 0 ∷ on 1 0 ∷ on 2 0 ∷ on 3 0 ∷ on 4 0 ∷ on 5 0 ∷ on 16 9 ∷ on 17 9 ∷ [];
  bare = lone 4 0 ∷ lone 5 0 ∷ lone 6 0 ∷ lone 7 0 ∷ [];
  cycles = inner 0 0 ∷ inner 9 0 ∷ [];
  faces = 0 ∷ [];
}

-- ---- a part of the diagonal, which is a hole of its own
abbrev pub hole_within_by : Change
hole_within_by = edge 6 7 4 5 None None diagonal (NewHole (cycle_id 1) (face_id 0))

abbrev pub hole_within : View
hole_within = step side_above hole_within_by

abbrev pub hole_within_tables : Faces
hole_within_tables = record {
  cycle_of = on 0 0 ∷ on 1 0 ∷ on 2 0 ∷ on 3 0 ∷ on 4 0 ∷ on 5 0 ∷ on 6 1 ∷ on 7 1 ∷ on 16 9 ∷ on 17 9 ∷ [];
  bare = lone 6 0 ∷ lone 7 0 ∷ [];
  cycles = inner 0 0 ∷ inner 1 0 ∷ inner 9 0 ∷ [];
  faces = 0 ∷ [];
}

-- ---- the square is closed: the hole 1 and the vertex 6 move to the face inside, the hole 9 and the vertex 7 stay
abbrev pub closed_by : Change
closed_by = edge 8 9 0 3 (Some (dart_id 0)) (Some (dart_id 4)) left (Splits (cycle_id 0) (cycle_id 2) (dart_id 9) (face_id 1) (moving (cycle_id 1 ∷ []) (vertex_id 6 ∷ [])))

abbrev pub closed : View
closed = step hole_within closed_by

abbrev pub closed_tables : Faces
closed_tables = record {
  cycle_of = on 0 2 ∷ on 1 0 ∷ on 2 2 ∷ on 3 0 ∷ on 4 0 ∷ on 5 2 ∷ on 6 1 ∷ on 7 1 ∷ on 8 0 ∷ on 9 2 ∷ on 16 9 ∷ on 17 9 ∷ [];
  bare = lone 6 1 ∷ lone 7 0 ∷ [];
  cycles = inner 0 0 ∷ inner 1 1 ∷ outer 2 1 ∷ inner 9 0 ∷ [];
  faces = 0 ∷ 1 ∷ [];
}

-- ---- the hole is tied to the upper right corner
abbrev pub tied_by : Change
tied_by = edge 10 11 5 2 (Some (dart_id 7)) (Some (dart_id 3)) diagonal (Joins (cycle_id 2) (cycle_id 1))

abbrev pub tied : View
tied = step closed tied_by

abbrev pub tied_tables : Faces
tied_tables = record {
  cycle_of = on 0 2 ∷ on 1 0 ∷ on 2 2 ∷ on 3 0 ∷ on 4 0 ∷ on 5 2 ∷ on 6 2 ∷ on 7 2 ∷ on 8 0 ∷ on 9 2 ∷ on 10 2 ∷ on 11 2 ∷ on 16 9 ∷ on 17 9 ∷ [];
  bare = lone 6 1 ∷ lone 7 0 ∷ [];
  cycles = inner 0 0 ∷ outer 2 1 ∷ inner 9 0 ∷ [];
  faces = 0 ∷ 1 ∷ [];
}

-- ---- that edge in two
abbrev pub tied_in_two_by : Change
tied_in_two_by = SplitEdge (dart_id 10) (vertex_id 10) (record { x = pos 6; y = pos 6; w = pos 1 }) (dart_id 12) (dart_id 13)

abbrev pub tied_in_two : View
tied_in_two = step tied tied_in_two_by

abbrev pub tied_in_two_tables : Faces
tied_in_two_tables = record {
  cycle_of = on 0 2 ∷ on 1 0 ∷ on 2 2 ∷ on 3 0 ∷ on 4 0 ∷ on 5 2 ∷ on 6 2 ∷ on 7 2 ∷ on 8 0 ∷ on 9 2 ∷ on 10 2 ∷ on 11 2 ∷ on 12 2 ∷ on 13 2 ∷ on 16 9 ∷ on 17 9 ∷ [];
  bare = lone 6 1 ∷ lone 7 0 ∷ [];
  cycles = inner 0 0 ∷ outer 2 1 ∷ inner 9 0 ∷ [];
  faces = 0 ∷ 1 ∷ [];
}

-- ---- the diagonal is whole: the vertex 6 moves to the face above it
abbrev pub halved_by : Change
halved_by = edge 14 15 0 4 (Some (dart_id 8)) (Some (dart_id 6)) diagonal (Splits (cycle_id 2) (cycle_id 3) (dart_id 14) (face_id 2) (moving [] (vertex_id 6 ∷ [])))

abbrev pub halved : View
halved = step tied_in_two halved_by

abbrev pub halved_tables : Faces
halved_tables = record {
  cycle_of = on 0 2 ∷ on 1 0 ∷ on 2 2 ∷ on 3 0 ∷ on 4 0 ∷ on 5 3 ∷ on 6 3 ∷ on 7 2 ∷ on 8 0 ∷ on 9 3 ∷ on 10 3 ∷ on 11 2 ∷ on 12 3 ∷ on 13 2 ∷ on 14 3 ∷ on 15 2 ∷ on 16 9 ∷ on 17 9 ∷ [];
  bare = lone 6 2 ∷ lone 7 0 ∷ [];
  cycles = inner 0 0 ∷ outer 2 1 ∷ outer 3 2 ∷ inner 9 0 ∷ [];
  faces = 0 ∷ 1 ∷ 2 ∷ [];
}

-- ---- the two edges in one again
abbrev pub halved_by_one_by : Change
halved_by_one_by = MergeEdge (vertex_id 10) (dart_id 10) (dart_id 12)

abbrev pub halved_by_one : View
halved_by_one = step halved halved_by_one_by

abbrev pub halved_by_one_tables : Faces
halved_by_one_tables = record {
  cycle_of = on 0 2 ∷ on 1 0 ∷ on 2 2 ∷ on 3 0 ∷ on 4 0 ∷ on 5 3 ∷ on 6 3 ∷ on 7 2 ∷ on 8 0 ∷ on 9 3 ∷ on 10 3 ∷ on 11 2 ∷ on 14 3 ∷ on 15 2 ∷ on 16 9 ∷ on 17 9 ∷ [];
  bare = lone 6 2 ∷ lone 7 0 ∷ [];
  cycles = inner 0 0 ∷ outer 2 1 ∷ outer 3 2 ∷ inner 9 0 ∷ [];
  faces = 0 ∷ 1 ∷ 2 ∷ [];
}

-- ---- its upper part goes: one face again, and the vertex 6 moves back
abbrev pub united_by : Change
united_by = RemoveEdge (dart_id 10) (dart_id 11) (Unites (cycle_id 2) (cycle_id 3) (face_id 2) (moving [] (vertex_id 6 ∷ [])))

abbrev pub united : View
united = step halved_by_one united_by

abbrev pub united_tables : Faces
united_tables = record {
  cycle_of = on 0 2 ∷ on 1 0 ∷ on 2 2 ∷ on 3 0 ∷ on 4 0 ∷ on 5 2 ∷ on 6 2 ∷ on 7 2 ∷ on 8 0 ∷ on 9 2 ∷ on 14 2 ∷ on 15 2 ∷ on 16 9 ∷ on 17 9 ∷ [];
  bare = lone 6 1 ∷ lone 7 0 ∷ [];
  cycles = inner 0 0 ∷ outer 2 1 ∷ inner 9 0 ∷ [];
  faces = 0 ∷ 1 ∷ [];
}

-- ---- its lower part goes: what is left is a hole again
abbrev pub untied_by : Change
untied_by = RemoveEdge (dart_id 14) (dart_id 15) (Breaks (cycle_id 2) (cycle_id 1) (dart_id 7))

abbrev pub untied : View
untied = step united untied_by

abbrev pub untied_tables : Faces
untied_tables = record {
  cycle_of = on 0 2 ∷ on 1 0 ∷ on 2 2 ∷ on 3 0 ∷ on 4 0 ∷ on 5 2 ∷ on 6 1 ∷ on 7 1 ∷ on 8 0 ∷ on 9 2 ∷ on 16 9 ∷ on 17 9 ∷ [];
  bare = lone 6 1 ∷ lone 7 0 ∷ [];
  cycles = inner 0 0 ∷ inner 1 1 ∷ outer 2 1 ∷ inner 9 0 ∷ [];
  faces = 0 ∷ 1 ∷ [];
}

-- ---- the left side goes: the hole 1 and the vertex 6 move to the unbounded face
abbrev pub opened_by : Change
opened_by = RemoveEdge (dart_id 8) (dart_id 9) (Unites (cycle_id 0) (cycle_id 2) (face_id 1) (moving (cycle_id 1 ∷ []) (vertex_id 6 ∷ [])))

abbrev pub opened : View
opened = step untied opened_by

abbrev pub opened_tables : Faces
opened_tables = record {
  cycle_of = on 0 0 ∷ on 1 0 ∷ on 2 0 ∷ on 3 0 ∷ on 4 0 ∷ on 5 0 ∷ on 6 1 ∷ on 7 1 ∷ on 16 9 ∷ on 17 9 ∷ [];
  bare = lone 6 0 ∷ lone 7 0 ∷ [];
  cycles = inner 0 0 ∷ inner 1 0 ∷ inner 9 0 ∷ [];
  faces = 0 ∷ [];
}

-- ---- the hole goes
abbrev pub hole_gone_by : Change
hole_gone_by = RemoveEdge (dart_id 6) (dart_id 7) (Vanishes (cycle_id 1) (face_id 0))

abbrev pub hole_gone : View
hole_gone = step opened hole_gone_by

abbrev pub hole_gone_tables : Faces
hole_gone_tables = record {
  cycle_of = on 0 0 ∷ on 1 0 ∷ on 2 0 ∷ on 3 0 ∷ on 4 0 ∷ on 5 0 ∷ on 16 9 ∷ on 17 9 ∷ [];
  bare = lone 4 0 ∷ lone 5 0 ∷ lone 6 0 ∷ lone 7 0 ∷ [];
  cycles = inner 0 0 ∷ inner 9 0 ∷ [];
  faces = 0 ∷ [];
}

-- ---- the side above goes
abbrev pub side_gone_by : Change
side_gone_by = RemoveEdge (dart_id 4) (dart_id 5) (Shrinks (cycle_id 0) (face_id 0))

abbrev pub side_gone : View
side_gone = step hole_gone side_gone_by

abbrev pub side_gone_tables : Faces
side_gone_tables = record {
  cycle_of = on 0 0 ∷ on 1 0 ∷ on 2 0 ∷ on 3 0 ∷ on 16 9 ∷ on 17 9 ∷ [];
  bare = lone 3 0 ∷ lone 4 0 ∷ lone 5 0 ∷ lone 6 0 ∷ lone 7 0 ∷ [];
  cycles = inner 0 0 ∷ inner 9 0 ∷ [];
  faces = 0 ∷ [];
}

-- ---- the vertex 6 goes
abbrev pub vertex_gone_by : Change
vertex_gone_by = RemoveVertex (vertex_id 6)

abbrev pub vertex_gone : View
vertex_gone = step side_gone vertex_gone_by

abbrev pub vertex_gone_tables : Faces
vertex_gone_tables = record {
  cycle_of = on 0 0 ∷ on 1 0 ∷ on 2 0 ∷ on 3 0 ∷ on 16 9 ∷ on 17 9 ∷ [];
  bare = lone 3 0 ∷ lone 4 0 ∷ lone 5 0 ∷ lone 7 0 ∷ [];
  cycles = inner 0 0 ∷ inner 9 0 ∷ [];
  faces = 0 ∷ [];
}

-- ---- the tables after each change are those that it makes of the tables before it
pub record MapInSteps : Type 0 where
  pub vertex_comes : faces_after start start_tables with_vertex_by ≡ with_vertex_tables
  pub new_hole : faces_after with_vertex with_vertex_tables side_below_by ≡ side_below_tables
  pub grows_at_end : faces_after side_below side_below_tables side_right_by ≡ side_right_tables
  pub grows_at_start : faces_after side_right side_right_tables side_above_by ≡ side_above_tables
  pub another_hole : faces_after side_above side_above_tables hole_within_by ≡ hole_within_tables
  pub splits : faces_after hole_within hole_within_tables closed_by ≡ closed_tables
  pub joins : faces_after closed closed_tables tied_by ≡ tied_tables
  pub edge_in_two : faces_after tied tied_tables tied_in_two_by ≡ tied_in_two_tables
  pub splits_again : faces_after tied_in_two tied_in_two_tables halved_by ≡ halved_tables
  pub edges_in_one : faces_after halved halved_tables halved_by_one_by ≡ halved_by_one_tables
  pub unites : faces_after halved_by_one halved_by_one_tables united_by ≡ united_tables
  pub breaks : faces_after united united_tables untied_by ≡ untied_tables
  pub unites_with_unbounded : faces_after untied untied_tables opened_by ≡ opened_tables
  pub vanishes : faces_after opened opened_tables hole_gone_by ≡ hole_gone_tables
  pub shrinks : faces_after hole_gone hole_gone_tables side_gone_by ≡ side_gone_tables
  pub vertex_goes : faces_after side_gone side_gone_tables vertex_gone_by ≡ vertex_gone_tables
  -- curves and pins change nothing, and where all goes the unbounded face is left
  pub curve_comes : faces_after closed closed_tables (AddCurve (dart_id 8) (curve_id 2)) ≡ closed_tables
  pub curve_goes : faces_after closed closed_tables (RemoveCurve (dart_id 8) (curve_id 2)) ≡ closed_tables
  pub pin_set : faces_after closed closed_tables (SetPin (vertex_id 6)) ≡ closed_tables
  pub pin_cleared : faces_after closed closed_tables (ClearPin (vertex_id 6)) ≡ closed_tables
  pub all_gone : faces_after closed closed_tables (Clear (face_id 0)) ≡ record { cycle_of = []; bare = []; cycles = []; faces = 0 ∷ [] }
  -- the fresh cycles are of the kinds that the tables give them, and what moves to a fresh face is where its outer cycle is odd
  pub closed_is_outer : is_outer (skeleton_of closed) (dart_in closed (dart_id 9)) ≡ true
  pub hole_is_within : IsWithin closed (dart_id 9) (beside (dart_id 6))
  pub vertex_is_within : IsWithin closed (dart_id 9) (round (vertex_id 6))
  pub hole_is_apart : odd_at (skeleton_of closed) (dart_in closed (dart_id 9)) (cell_at closed (beside (dart_id 16))) ≡ false
  pub vertex_is_apart : odd_at (skeleton_of closed) (dart_in closed (dart_id 9)) (cell_at closed (round (vertex_id 7))) ≡ false
  pub half_is_outer : is_outer (skeleton_of halved) (dart_in halved (dart_id 14)) ≡ true
  pub vertex_is_above : IsWithin halved (dart_id 14) (round (vertex_id 6))
  pub part_is_inner : is_outer (skeleton_of untied) (dart_in untied (dart_id 7)) ≡ false
