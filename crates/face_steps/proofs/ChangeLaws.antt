-- A sound view with its tables, changed, is one again.
use Rattle.std.proofs.Common.{true, false, refl, sym, subst}
use Rattle.slab_laws.specs.Sound.{IsGraphSound}
use Rattle.slab_laws.specs.View.{View, Faces, point_in, twin_in}
use Rattle.arr_notes.specs.Curves.{Curves}
use Rattle.arr_notes.specs.Step.{step, remove_edge, split_edge, merge_edge}
use Rattle.arr_notes.specs.ViewChanges.{with_vertex, without_vertex, with_pin}
use Rattle.arr_notes.specs.declared.change.Change.{Change}
use Rattle.arr_notes.specs.declared.change.Change.TheVariants.{AddVertex, RemoveVertex, SplitEdge, MergeEdge, AddEdge, RemoveEdge, AddCurve, RemoveCurve, SetPin, ClearPin, Clear}
use Rattle.arr_notes.specs.FaceSteps.{comes_bare, goes_bare, in_two, in_one, cleared, as_it_was, step_faces}
use Rattle.arr_notes.specs.FacesTold.{unlinked_faces, faces_after}
use Rattle.sound_changes.specs.StepOfChange.{FitsChange}
use Rattle.face_steps.specs.ChangeLaws.{FitsNoted, ChangesKeepFacesSound}
use Rattle.face_steps.specs.SameGraph.{IsSameGraph}
use Rattle.face_steps.specs.Tabled.{AreTabled}
use Rattle.face_steps.proofs.Choices.{tables_are_sound}
use Rattle.face_steps.proofs.LinkedFaces.{links_keep_tables}
use Rattle.face_steps.proofs.MergesApart.{records_apart}
use Rattle.face_steps.proofs.StepLaws.{steps_keep_tables}
use Rattle.face_steps.proofs.UnlinkedFaces.{unlinks_keep_tables}

module _ (v : View) (h : Curves) (f : Faces) (s : IsGraphSound v) (t : AreTabled v f) where
  same : IsSameGraph v v
  same = record { sound = s; sound_more = s; vertices = λ u. (λ o. o, λ o. o); points = λ u. refl; darts = λ k. record { has = λ o. o; had = λ o. o; source = refl; twin = refl; next = refl; line = refl } }

  go : (c : Change) → FitsChange v h c → IsGraphSound (step v c) → FitsNoted v f c → AreTabled (step v c) (faces_after v f c)
  go (AddVertex u p a) k g r = steps_keep_tables v (with_vertex v u p) f (comes_bare u a) t (p, records_apart.vertex_added v u p s k g.plane, r)
  go (RemoveVertex u) k g r = steps_keep_tables v (without_vertex v u) f (goes_bare u) t (point_in v u, records_apart.vertex_removed v u s k.0 k.1)
  go (SplitEdge d u p n m) k g r = steps_keep_tables v (split_edge v d u p n m) f (in_two d (twin_in v d) n m) t (u, p, records_apart.split v d u p n m s k)
  go (MergeEdge u d n) k g r = steps_keep_tables v (merge_edge v u d n) f (in_one n (twin_in v n)) t (d, twin_in v d, u, point_in v u, records_apart.merged v u d n s k.0)
  go (AddEdge d m u w at_u at_w l c n) k g r = links_keep_tables v f d m u w at_u at_w l n s k.0 g.plane t r
  go (RemoveEdge d m n) k g r =
      subst (λ z. AreTabled (remove_edge v d z) (step_faces (remove_edge v d z) f (unlinked_faces v d n))) (sym k.1) (unlinks_keep_tables v f d n s k.0.0 t r)
  go (AddCurve d c) k g r = t
  go (RemoveCurve d c) k g r = t
  go (SetPin u) k g r = steps_keep_tables v (with_pin v u true) f as_it_was t (records_apart.pinned v u true s)
  go (ClearPin u) k g r = steps_keep_tables v (with_pin v u false) f as_it_was t (records_apart.pinned v u false s)
  go (Clear a) k g r = steps_keep_tables v (step v (Clear a)) f (cleared a) t (refl, r)

pub changes_keep_faces_sound : ChangesKeepFacesSound
changes_keep_faces_sound v h f c s k g r = (tables_are_sound (step v c) (faces_after v f c) g).0 (go v h f s.graph ((tables_are_sound v f s.graph).1 s) c k g r)
