-- What a change lists where a face parts or goes: just what moves to the other face, each name once.
use Rattle.std.specs.Prelude.{◌≡◌, ◌≢◌, ◌↔◌, List}
use Rattle.plane_graphs.specs.Ascending.{Member}
use Rattle.slab_laws.specs.declared.names.CycleId.{CycleId}
use Rattle.slab_laws.specs.declared.names.CycleKind.TheVariants.{Inner}
use Rattle.slab_laws.specs.declared.names.DartId.{DartId}
use Rattle.slab_laws.specs.declared.names.FaceId.{FaceId}
use Rattle.slab_laws.specs.declared.names.VertexId.{VertexId}
use Rattle.slab_laws.specs.FaceLists.{AreOnce}
use Rattle.slab_laws.specs.View.{View, Faces, HasDart, HasCycle, HasBareFace, cycle_in, kind_in, face_in, bare_face_in}
use Rattle.arr_notes.specs.Step.{step}
use Rattle.arr_notes.specs.declared.change.Change.{Change}
use Rattle.arr_notes.specs.declared.change.Change.TheVariants.{AddEdge, RemoveEdge}
use Rattle.arr_notes.specs.declared.faces.Linked.{Linked}
use Rattle.arr_notes.specs.declared.faces.Linked.TheVariants.{Splits}
use Rattle.arr_notes.specs.declared.faces.Unlinked.{Unlinked}
use Rattle.arr_notes.specs.declared.faces.Unlinked.TheVariants.{Unites}
use Rattle.face_changes.specs.FacesByPairs.{beside, round}
use Rattle.face_changes.specs.RecordsAfterSplits.{IsWithin}

-- all darts of the cycle lie within the half of x; w is the view with the edge
abbrev pub IsCycleWithin : View → View → Faces → DartId → CycleId → Type 0
IsCycleWithin v w f x e = (k : DartId) → HasDart v k → cycle_in f k ≡ e → IsWithin w x (beside k)

-- a face parts: of what it had beside the cycle kept, by the tables before, listed is just what lies within the half of x, each name once, and no such cycle is outer; the fresh cycle had no record, and so isn't listed (CGAL manual, `Arr_observer`: holes and isolated vertices that move)
pub record ListsWithin (v w : View) (f : Faces) (x : DartId) (kept : CycleId) (holes : List CycleId) (isolated : List VertexId) : Type 0 where
  pub cycles : (e : CycleId) → Member e holes ↔ (HasCycle f e × (e ≢ kept) × (face_in f e ≡ face_in f kept) × IsCycleWithin v w f x e)
  pub vertices : (u : VertexId) → Member u isolated ↔ (HasBareFace f u × (bare_face_in f u ≡ face_in f kept) × IsWithin w x (round u))
  pub inner : (e : CycleId) → Member e holes → kind_in f e ≡ Inner
  pub cycles_once : AreOnce holes
  pub vertices_once : AreOnce isolated

-- a face goes: listed is just all that it had, by the tables before, beside the cycle gone, each name once, and no such cycle is outer; the cycle that stays isn't in that face, and so isn't listed (CGAL manual, `Arr_observer`: holes and isolated vertices that move)
pub record ListsRest (f : Faces) (kept gone : CycleId) (gone_face : FaceId) (holes : List CycleId) (isolated : List VertexId) : Type 0 where
  pub cycles : (e : CycleId) → Member e holes ↔ (HasCycle f e × (e ≢ gone) × (face_in f e ≡ gone_face))
  pub vertices : (u : VertexId) → Member u isolated ↔ (HasBareFace f u × (bare_face_in f u ≡ gone_face))
  pub inner : (e : CycleId) → Member e holes → kind_in f e ≡ Inner
  pub stays : face_in f kept ≢ gone_face
  pub cycles_once : AreOnce holes
  pub vertices_once : AreOnce isolated

-- ---- by what is told; v and w are the views before and after it
abbrev pub LinkListsMoved : View → View → Faces → Linked → Type 0
LinkListsMoved v w f (Splits kept fresh x fresh_face moved) = ListsWithin v w f x kept moved.cycles moved.vertices
LinkListsMoved v w f other = Unit {0}

abbrev pub UnlinkListsMoved : Faces → Unlinked → Type 0
UnlinkListsMoved f (Unites kept gone gone_face moved) = ListsRest f kept gone gone_face moved.cycles moved.vertices
UnlinkListsMoved f other = Unit {0}

-- a change that splits a face or unites two lists just what moves, each name once (this project)
abbrev pub ListsWhatMoves : View → Faces → Change → Type 0
ListsWhatMoves v f (AddEdge d m p q at_p at_q l c faces) = LinkListsMoved v (step v (AddEdge d m p q at_p at_q l c faces)) f faces
ListsWhatMoves v f (RemoveEdge d m faces) = UnlinkListsMoved f faces
ListsWhatMoves v f other = Unit {0}
