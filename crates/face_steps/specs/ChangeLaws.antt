-- The whole of a change: its step of the graph part, what it says of faces, and its step of the tables.
use Rattle.std.specs.Prelude.{◌≡◌, ⊤}
use Rattle.exact_plane.specs.Point.{Point}
use Rattle.slab_laws.specs.declared.names.FaceId.{FaceId}
use Rattle.slab_laws.specs.FacesSound.{IsSound}
use Rattle.slab_laws.specs.Skeleton.{HasWeight}
use Rattle.slab_laws.specs.Sound.{IsGraphSound}
use Rattle.slab_laws.specs.View.{View, Faces}
use Rattle.arr_notes.specs.Curves.{Curves}
use Rattle.arr_notes.specs.FacesTold.{faces_after}
use Rattle.arr_notes.specs.Step.{step}
use Rattle.arr_notes.specs.declared.change.Change.{Change}
use Rattle.arr_notes.specs.declared.change.Change.TheVariants.{AddVertex, SplitEdge, AddEdge, RemoveEdge, Clear}
use Rattle.sound_changes.specs.StepOfChange.{FitsChange}
use Rattle.face_changes.specs.FacesByPairs.{first_or}
use Rattle.face_steps.specs.LinkLaws.{FitsLinked, FitsUnlinked}
use Rattle.face_steps.specs.VertexSteps.{IsFaceRound}

-- what the change has to say of cycles and faces, by the view and the tables before it (this project)
abbrev pub FitsNoted : View → Faces → Change → Type 0
FitsNoted v f (AddVertex u p face) = IsFaceRound v f face p
FitsNoted v f (AddEdge d m p q at_p at_q l c faces) = FitsLinked v (step v (AddEdge d m p q at_p at_q l c faces)) f d m p at_p at_q faces
FitsNoted v f (RemoveEdge d m faces) = FitsUnlinked v f d faces
FitsNoted v f (Clear face) = face ≡ first_or f.faces
FitsNoted v f other = Unit {0}

-- a sound view with its tables, changed, is one again (CGAL manual, `Arr_observer`; the law: this project)
abbrev pub ChangesKeepFacesSound : Type 0
ChangesKeepFacesSound = (v : View) (h : Curves) (f : Faces) (c : Change) → IsSound v f → FitsChange v h c → IsGraphSound (step v c) → FitsNoted v f c → IsSound (step v c) (faces_after v f c)

-- the change makes a vertex, inside a face or inside an edge (this project)
abbrev pub MakesVertex : Change → Type 0
MakesVertex (AddVertex u p face) = ⊤
MakesVertex (SplitEdge d u p n m) = ⊤
MakesVertex other = ⊥

-- where a vertex comes, the face that was named for a point stays that of the point (this project)
abbrev pub FacesStayNamed : Type 0
FacesStayNamed = (v : View) (h : Curves) (f : Faces) (c : Change) → IsSound v f → FitsChange v h c → IsGraphSound (step v c) → FitsNoted v f c → MakesVertex c → (a : FaceId) (q : Point) → HasWeight q → IsFaceRound v f a q → IsFaceRound (step v c) (faces_after v f c) a q
