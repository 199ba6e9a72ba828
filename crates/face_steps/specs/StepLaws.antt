-- Each change keeps the tables of cycles and faces true.
use Rattle.std.specs.Prelude.{◌≡◌}
use Rattle.slab_laws.specs.View.{View, Faces}
use Rattle.arr_notes.specs.FaceSteps.{FaceChange, step_faces}
use Rattle.face_changes.specs.FacesByPairs.{first_or}
use Rattle.face_steps.specs.StepPremises.{FitsFaces}
use Rattle.face_steps.specs.Tabled.{AreTabled}

-- after each change the tables stand for the cycles and faces of what the view draws (CGAL manual, `Arr_observer`; the law: this project)
abbrev pub StepsKeepTables : Type 0
StepsKeepTables = (v w : View) (f : Faces) (c : FaceChange) → AreTabled v f → FitsFaces v w f c → AreTabled w (step_faces w f c)

-- the first face name, the unbounded face's, stays first (book, the unbounded face)
abbrev pub StepsKeepFirst : Type 0
StepsKeepFirst = (v w : View) (f : Faces) (c : FaceChange) → AreTabled v f → FitsFaces v w f c → first_or (step_faces w f c).faces ≡ first_or f.faces
