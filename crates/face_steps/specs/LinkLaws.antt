-- What a change has to say of cycles and faces where an edge comes or goes, by the records before it.
use Rattle.std.specs.Prelude.{◌≡◌, ◌≢◌, ◌⊎◌, false, Option, Some, None}
use Rattle.exact_plane.specs.Line.{Line}
use Rattle.slab_laws.specs.declared.names.DartId.{DartId}
use Rattle.slab_laws.specs.declared.names.VertexId.{VertexId}
use Rattle.slab_laws.specs.Skeleton.{IsPlaneSkeleton}
use Rattle.slab_laws.specs.Sound.{skeleton_of, dart_in, IsGraphSound}
use Rattle.slab_laws.specs.View.{View, Faces, HasDart, HasCycle, twin_in, next_in, cycle_in, face_in, bare_face_in}
use Rattle.arr_notes.specs.FaceSteps.{step_faces}
use Rattle.arr_notes.specs.FacesTold.{linked_faces, unlinked_faces}
use Rattle.arr_notes.specs.Step.{add_edge, remove_edge}
use Rattle.arr_notes.specs.declared.faces.Linked.{Linked}
use Rattle.arr_notes.specs.declared.faces.Linked.TheVariants.{NewHole, Grows, Joins, Splits}
use Rattle.arr_notes.specs.declared.faces.Unlinked.{Unlinked}
use Rattle.arr_notes.specs.declared.faces.Unlinked.TheVariants.{Vanishes, Shrinks, Breaks, Unites}
use Rattle.sound_changes.specs.EdgePlaces.{FitsAddedEdge}
use Rattle.face_changes.specs.Kinds.{is_outer}
use Rattle.face_steps.specs.StepPremises.{FitsJoin, FitsSplitting, FitsUnite}
use Rattle.face_steps.specs.Tabled.{AreTabled}

-- ---- an edge that comes: v is the view before it, w after it. Which case it is follows from the places: both bare, one, or none;
-- and then from whether both are on one cycle. The dart before a place is the twin of the dart that the place names (CGAL manual, `insert_at_vertices`)
abbrev pub FitsLinked : View → View → Faces → DartId → DartId → VertexId → Option DartId → Option DartId → Linked → Type 0
FitsLinked v w f d m p None None (NewHole cycle face) = (¬ HasCycle f cycle) × (face ≡ bare_face_in f p)
FitsLinked v w f d m p (Some a) None (Grows cycle) = cycle_in f (twin_in v a) ≡ cycle
FitsLinked v w f d m p None (Some b) (Grows cycle) = cycle_in f (twin_in v b) ≡ cycle
FitsLinked v w f d m p (Some a) (Some b) (Joins kept gone) = FitsJoin f (twin_in v a) (twin_in v b) kept gone
FitsLinked v w f d m p (Some a) (Some b) (Splits kept fresh x fresh_face moved) =
    ((x ≡ d) × FitsSplitting v w f d (twin_in v a) (twin_in v b) kept fresh fresh_face moved.cycles moved.vertices) ⊎ ((x ≡ m) × FitsSplitting v w f m (twin_in v b) (twin_in v a) kept fresh fresh_face moved.cycles moved.vertices)
FitsLinked v w f d m p at_p at_q other = ⊥

-- an edge that the records link keeps the tables true (this project)
abbrev pub LinksKeepTables : Type 0
LinksKeepTables =
    (v : View) (f : Faces) (d m : DartId) (p q : VertexId) (at_p at_q : Option DartId) (l : Line) (c : Linked) → IsGraphSound v → FitsAddedEdge v d m p q at_p at_q l → IsPlaneSkeleton (skeleton_of (add_edge v d m p q at_p at_q l)) → AreTabled v f → FitsLinked v (add_edge v d m p q at_p at_q l) f d m p at_p at_q c → AreTabled (add_edge v d m p q at_p at_q l) (step_faces (add_edge v d m p q at_p at_q l) f (linked_faces d m p q at_p c))

-- ---- an edge that goes. Which case it is follows from who comes before d and before its twin: the twin itself, or d, where that end becomes bare;
-- and then from whether both are on one cycle (CGAL manual, `remove_edge`)
abbrev pub FitsUnlinked : View → Faces → DartId → Unlinked → Type 0
FitsUnlinked v f d (Vanishes cycle face) = (next_in v (twin_in v d) ≡ d) × (next_in v d ≡ twin_in v d) × (cycle_in f d ≡ cycle) × (face ≡ face_in f cycle)
FitsUnlinked v f d (Shrinks cycle face) =
    (((next_in v (twin_in v d) ≡ d) × (next_in v d ≢ twin_in v d)) ⊎ ((next_in v (twin_in v d) ≢ d) × (next_in v d ≡ twin_in v d))) × (cycle_in f d ≡ cycle) × (face ≡ face_in f cycle)
FitsUnlinked v f d (Breaks kept fresh x) =
    (next_in v (twin_in v d) ≢ d) × (next_in v d ≢ twin_in v d) × (cycle_in f d ≡ kept) × (cycle_in f (twin_in v d) ≡ kept) × (¬ HasCycle f fresh) × HasDart v x × ((next_in v x ≡ d) ⊎ (next_in v x ≡ twin_in v d)) × (is_outer (skeleton_of (remove_edge v d (twin_in v d))) (dart_in (remove_edge v d (twin_in v d)) x) ≡ false)
FitsUnlinked v f d (Unites kept gone gone_face moved) = FitsUnite f d (twin_in v d) kept gone gone_face moved.cycles moved.vertices ⊎ FitsUnite f (twin_in v d) d kept gone gone_face moved.cycles moved.vertices

-- an edge that they unlink does (this project)
abbrev pub UnlinksKeepTables : Type 0
UnlinksKeepTables =
    (v : View) (f : Faces) (d : DartId) (c : Unlinked) → IsGraphSound v → HasDart v d → AreTabled v f → FitsUnlinked v f d c → AreTabled (remove_edge v d (twin_in v d)) (step_faces (remove_edge v d (twin_in v d)) f (unlinked_faces v d c))
