-- A triangle that loses a side: the step leaves one face, and one inner cycle round what is left.
use Rattle.std.specs.Prelude.{◌≡◌, [], ◌∷◌}
use Rattle.slab_laws.specs.declared.names.CycleKind.TheVariants.{Inner}
use Rattle.slab_laws.specs.FacesSound.{IsSound}
use Rattle.slab_laws.specs.Triangle.{three_four, triangle_view, triangle_faces}
use Rattle.slab_laws.specs.View.{View, Faces, dart_id, cycle_id, face_id}
use Rattle.arr_notes.specs.FaceSteps.{step_faces, splits, unites}
use Rattle.arr_notes.specs.Step.{remove_edge}

-- without the edge of 0 and 1 (this project)
abbrev pub opened : View
opened = remove_edge (triangle_view three_four) (dart_id 0) (dart_id 1)

-- the odd darts round what is left were a hole already, and the even ones join them
abbrev pub opened_faces : Faces
opened_faces = record {
  cycle_of = (2, cycle_id 1) ∷ (3, cycle_id 1) ∷ (4, cycle_id 1) ∷ (5, cycle_id 1) ∷ [];
  bare = [];
  cycles = (1, record { kind = Inner; face = face_id 0 }) ∷ [];
  faces = 0 ∷ [];
}

-- the step makes these tables of the whole triangle's, and they are true
abbrev pub TriangleOpened : Type 0
TriangleOpened =
    (step_faces opened triangle_faces (unites (dart_id 0) (dart_id 1) (cycle_id 1) (cycle_id 0) (face_id 1) [] []) ≡ opened_faces) × IsSound opened opened_faces

-- and gets it back: the cycle is parted, and its outer half bounds a fresh face
abbrev pub TriangleClosed : Type 0
TriangleClosed = IsSound (triangle_view three_four) (step_faces (triangle_view three_four) opened_faces (splits (dart_id 0) (dart_id 1) (cycle_id 1) (cycle_id 0) (dart_id 0) (face_id 1) [] []))
