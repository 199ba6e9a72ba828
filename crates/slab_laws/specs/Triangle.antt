-- The records of one triangle.
use Rattle.std.specs.Prelude.{ℕ, pos, negsuc, false, [], ◌∷◌}
use Rattle.exact_plane.specs.Point.{Point}
use Rattle.exact_plane.specs.Line.{Line}
use Rattle.slab_laws.specs.declared.names.CycleKind.TheVariants.{Outer, Inner}
use Rattle.slab_laws.specs.View.{View, Faces, VertexRecord, DartRecord, vertex_id, dart_id, cycle_id, face_id}

-- the three corners, counterclockwise, and the lines of the sides
pub record Shape : Type 0 where
  pub a : Point
  pub b : Point
  pub c : Point
  pub ab : Line
  pub bc : Line
  pub ca : Line

-- the corners (0, 0), (4, 0) and (0, 3), with the lines y = 0, 3 x + 4 y = 12 and x = 0
abbrev pub three_four : Shape
three_four = record {
  a = record { x = pos 0; y = pos 0; w = pos 1 };
  b = record { x = pos 4; y = pos 0; w = pos 1 };
  c = record { x = pos 0; y = pos 3; w = pos 1 };
  ab = record { a = pos 0; b = pos 1; c = pos 0 };
  bc = record { a = pos 3; b = pos 4; c = negsuc 11 };
  ca = record { a = negsuc 0; b = pos 0; c = pos 0 };
}

abbrev pub corner : Point → VertexRecord
corner p = record { point = p; pinned = false }

abbrev pub dart : ℕ → ℕ → ℕ → Line → DartRecord
dart v t n l = record { source = vertex_id v; twin = dart_id t; next = dart_id n; line = l }

-- darts 0, 2, 4 go round counterclockwise from a, b and c, and each is followed by its twin
abbrev pub triangle_view : Shape → View
triangle_view t = record {
  vertices = (0, corner t.a) ∷ (1, corner t.b) ∷ (2, corner t.c) ∷ [];
  darts = (0, dart 0 1 2 t.ab) ∷ (1, dart 1 0 5 t.ab)
      ∷ (2, dart 1 3 4 t.bc) ∷ (3, dart 2 2 1 t.bc)
      ∷ (4, dart 2 5 0 t.ca) ∷ (5, dart 0 4 3 t.ca) ∷ [];
}

-- the even darts bound face 1 from outside, and the odd ones are a hole in face 0
abbrev pub triangle_faces : Faces
triangle_faces = record {
  cycle_of = (0, cycle_id 0) ∷ (1, cycle_id 1) ∷ (2, cycle_id 0) ∷ (3, cycle_id 1) ∷ (4, cycle_id 0) ∷ (5, cycle_id 1) ∷ [];
  bare = [];
  cycles = (0, record { kind = Outer; face = face_id 1 }) ∷ (1, record { kind = Inner; face = face_id 0 }) ∷ [];
  faces = 0 ∷ 1 ∷ [];
}
