-- An edge that the records link: what the laws ask, from the places.
use Rattle.std.proofs.Common.{Option, Some, None, refl, inl, inr}
use Rattle.exact_plane.specs.Line.{Line}
use Rattle.slab_laws.specs.declared.names.DartId.{DartId}
use Rattle.slab_laws.specs.declared.names.VertexId.{VertexId}
use Rattle.slab_laws.specs.Skeleton.{IsPlaneSkeleton}
use Rattle.slab_laws.specs.Sound.{skeleton_of, IsGraphSound}
use Rattle.slab_laws.specs.View.{View, Faces, twin_in}
use Rattle.arr_notes.specs.Step.{add_edge}
use Rattle.arr_notes.specs.FaceSteps.{step_faces, new_hole, grows, joins, splits}
use Rattle.arr_notes.specs.FacesTold.{linked_faces}
use Rattle.arr_notes.specs.declared.faces.Linked.{Linked}
use Rattle.arr_notes.specs.declared.faces.Linked.TheVariants.{NewHole, Grows, Joins, Splits}
use Rattle.sound_changes.specs.EdgePlaces.{FitsAddedEdge}
use Rattle.face_steps.specs.LinkLaws.{FitsLinked, LinksKeepTables}
use Rattle.face_steps.specs.StepPremises.{IsBetween}
use Rattle.face_steps.specs.Tabled.{AreTabled}
use Rattle.face_steps.proofs.EdgePairs.{turned_round}
use Rattle.face_steps.proofs.RecordsApart.{edge_added, first_place, second_place}
use Rattle.face_steps.proofs.StepLaws.{steps_keep_tables}

-- ---- an edge that comes
module _ (v : View) (f : Faces) (d m : DartId) (u w : VertexId) (l : Line) (s : IsGraphSound v) (h : AreTabled v f) where
  abbrev V : Option DartId → Option DartId → View
  V at_u at_w = add_edge v d m u w at_u at_w l

  module _ (a b : DartId) (t : FitsAddedEdge v d m u w (Some a) (Some b) l) (plane : IsPlaneSkeleton (skeleton_of (add_edge v d m u w (Some a) (Some b) l))) where
    between : IsBetween v (add_edge v d m u w (Some a) (Some b) l) d m u w (twin_in v a) (twin_in v b)
    between =
        let x = first_place v d m u w (Some a) (Some b) l s t plane a refl in
        let y = second_place v d m u w (Some a) (Some b) l s t plane b refl in
        record { line = l; edge = edge_added v d m u w (Some a) (Some b) l s t plane; first = x.0; second = y.0; after_first = x.1; after_second = y.1 }

  links : (at_u at_w : Option DartId) (c : Linked) → FitsAddedEdge v d m u w at_u at_w l → IsPlaneSkeleton (skeleton_of (add_edge v d m u w at_u at_w l)) → FitsLinked v (add_edge v d m u w at_u at_w l) f d m u at_u at_w c → AreTabled (add_edge v d m u w at_u at_w l) (step_faces (add_edge v d m u w at_u at_w l) f (linked_faces d m u w at_u c))
  links None None (NewHole c a) t plane k = steps_keep_tables v (V None None) f (new_hole d m u w c a) h (l, edge_added v d m u w None None l s t plane, t.place_at_start, t.place_at_end, k.0, k.1)
  links (Some a) None (Grows c) t plane k =
      let x = first_place v d m u w (Some a) None l s t plane a refl in
      steps_keep_tables v (V (Some a) None) f (grows d m w c) h (u, twin_in v a, inl (record { line = l; edge = edge_added v d m u w (Some a) None l s t plane; place = x.0; after = x.1; bare = t.place_at_end }), k)
  links None (Some b) (Grows c) t plane k =
      let y = second_place v d m u w None (Some b) l s t plane b refl in
      steps_keep_tables v (V None (Some b)) f (grows d m u c) h (w, twin_in v b, inr (record { line = l; edge = turned_round v (V None (Some b)) d m u w l (edge_added v d m u w None (Some b) l s t plane); place = y.0; after = y.1; bare = t.place_at_start }), k)
  links (Some a) (Some b) (Joins kept gone) t plane k = steps_keep_tables v (V (Some a) (Some b)) f (joins d m kept gone) h (u, w, twin_in v a, twin_in v b, between a b t plane, k)
  links (Some a) (Some b) (Splits kept fresh x face moved) t plane k = steps_keep_tables v (V (Some a) (Some b)) f (splits d m kept fresh x face moved.cycles moved.vertices) h (u, w, twin_in v a, twin_in v b, between a b t plane, k)
  links None None (Grows c) t plane k = absurd k
  links None None (Joins kept gone) t plane k = absurd k
  links None None (Splits kept fresh x face moved) t plane k = absurd k
  links (Some a) None (NewHole c face) t plane k = absurd k
  links (Some a) None (Joins kept gone) t plane k = absurd k
  links (Some a) None (Splits kept fresh x face moved) t plane k = absurd k
  links None (Some b) (NewHole c face) t plane k = absurd k
  links None (Some b) (Joins kept gone) t plane k = absurd k
  links None (Some b) (Splits kept fresh x face moved) t plane k = absurd k
  links (Some a) (Some b) (NewHole c face) t plane k = absurd k
  links (Some a) (Some b) (Grows c) t plane k = absurd k

pub links_keep_tables : LinksKeepTables
links_keep_tables v f d m u w at_u at_w l c s t plane h k = links v f d m u w l s h at_u at_w c t plane k
