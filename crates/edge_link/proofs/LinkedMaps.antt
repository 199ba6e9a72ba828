-- A link with its faces: what the laws of steps ask follows from what the link itself ensures, and the tables after it are sound.
use Rattle.std.proofs.Common.{◌≡◌, ◌≢◌, Option, Some, None, refl, sym, subst, ◌∙◌}
use Rattle.exact_plane.specs.Line.{Line}
use Rattle.plane_graphs.specs.Line.{IsProperLine}
use Rattle.slab_laws.specs.declared.names.DartId.{DartId}
use Rattle.slab_laws.specs.declared.names.VertexId.{VertexId}
use Rattle.slab_laws.specs.FacesSound.{IsSound}
use Rattle.slab_laws.specs.Sound.{IsGraphSound}
use Rattle.slab_laws.specs.View.{View, Faces, HasDart, twin_in, next_in, line_in}
use Rattle.arr_notes.specs.FaceSteps.{step_faces}
use Rattle.arr_notes.specs.FacesTold.{linked_faces}
use Rattle.arr_notes.specs.Step.{add_edge, followed, led}
use Rattle.arr_notes.specs.ViewChanges.{with_pair}
use Rattle.arr_notes.specs.declared.faces.Linked.{Linked}
use Rattle.arr_notes.proofs.DartReads.{next_is_set}
use Rattle.arr_notes.proofs.PairReads.{pair_is_added}
use Rattle.sound_changes.specs.EdgePlaces.{FitsAddedEdge}
use Rattle.face_steps.specs.EdgePairs.{IsEdgeApart}
use Rattle.face_steps.specs.LinkLaws.{FitsLinked}
use Rattle.face_steps.specs.StepPremises.{IsBetween}
use Rattle.face_steps.specs.Tabled.{AreTabled}
use Rattle.face_steps.proofs.Choices.{tables_are_sound}
use Rattle.face_steps.proofs.LinkedFaces.{links_keep_tables}
use Rattle.face_steps.proofs.RecordsApart.{edge_added, first_place, second_place}
use Rattle.edge_link.specs.Links.{AreNewDarts, CanLink}

-- ---- the new dart has its line, whatever follows it
known_led : (v : View) (at : Option DartId) (x : DartId) (h : View) (k : DartId) → HasDart h k → HasDart (led v at x h) k
known_led v None x h k o = o
known_led v (Some a) x h k o = (next_is_set h (twin_in v a) x).relinked.has k o

line_led : (v : View) (at : Option DartId) (x : DartId) (h : View) (k : DartId) → line_in (led v at x h) k ≡ line_in h k
line_led v None x h k = refl
line_led v (Some a) x h k = (next_is_set h (twin_in v a) x).relinked.line k

module _ (v : View) (d m : DartId) (u w : VertexId) (at_u at_w : Option DartId) (l : Line) where
  abbrev V : View
  V = add_edge v d m u w at_u at_w l

  abbrev rows : DartId × DartId → View
  rows x = with_pair v d m (record { source = u; twin = m; next = x.0; line = l }) (record { source = w; twin = d; next = x.1; line = l })

  proper_line : d ≢ m → IsGraphSound (add_edge v d m u w at_u at_w l) → IsProperLine l
  proper_line ne s =
      let pair = pair_is_added v d m (record { source = u; twin = m; next = followed v at_w m; line = l }) (record { source = w; twin = d; next = followed v at_u d; line = l }) ne in
      let h = rows (followed v at_w m, followed v at_u d) in
      let has : HasDart V d = known_led v at_w m (led v at_u d h) d (known_led v at_u d h d pair.first.has) in
      let line : line_in V d ≡ l = line_led v at_w m (led v at_u d h) d ∙ line_led v at_u d h d ∙ pair.first.line in
      subst IsProperLine line (s.drawn.line d has)

  module _ (s : IsGraphSound v) (can : CanLink v u w at_u at_w l) (new : AreNewDarts v d m) (more : IsGraphSound (add_edge v d m u w at_u at_w l)) where
    fits : FitsAddedEdge v d m u w at_u at_w l
    fits = record {
      first_new = new.first;
      second_new = new.second;
      two_names = new.two;
      start = can.start;
      end = can.end;
      two_ends = can.two_ends;
      line = proper_line new.two more;
      through_start = can.through_start;
      through_end = can.through_end;
      place_at_start = can.place_at_start;
      place_at_end = can.place_at_end;
    }

    apart : IsEdgeApart v V d m u w l
    apart = edge_added v d m u w at_u at_w l s fits more.plane

    first_between : (a : DartId) → at_u ≡ Some a → HasDart v (twin_in v a) × (next_in V (twin_in v a) ≡ d)
    first_between = first_place v d m u w at_u at_w l s fits more.plane

    second_between : (b : DartId) → at_w ≡ Some b → HasDart v (twin_in v b) × (next_in V (twin_in v b) ≡ m)
    second_between = second_place v d m u w at_u at_w l s fits more.plane

    kept_tables : (f : Faces) (told : Linked) → AreTabled v f → FitsLinked v V f d m u at_u at_w told → AreTabled V (step_faces V f (linked_faces d m u w at_u told))
    kept_tables f told = links_keep_tables v f d m u w at_u at_w l told s fits more.plane

-- ---- as records have it: g is the view after the link, and s the tables
module _ (v g : View) (d m : DartId) (u w : VertexId) (at_u at_w : Option DartId) (l : Line) (sound : IsGraphSound v) (can : CanLink v u w at_u at_w l) (new : AreNewDarts v d m) (is : g ≡ add_edge v d m u w at_u at_w l) (more : IsGraphSound g) where
  abbrev G : View
  G = add_edge v d m u w at_u at_w l

  there : IsGraphSound G
  there = subst IsGraphSound is more

  -- g has one more edge than v
  pub edge_linked : IsEdgeApart v g d m u w l
  edge_linked = subst (λ h. IsEdgeApart v h d m u w l) (sym is) (apart v d m u w at_u at_w l sound can new there)

  -- the darts that the new ones come after
  pub after_start : (a : DartId) → at_u ≡ Some a → HasDart v (twin_in v a) × (next_in g (twin_in v a) ≡ d)
  after_start a q = subst (λ h. HasDart v (twin_in v a) × (next_in h (twin_in v a) ≡ d)) (sym is) (first_between v d m u w at_u at_w l sound can new there a q)

  pub after_end : (b : DartId) → at_w ≡ Some b → HasDart v (twin_in v b) × (next_in g (twin_in v b) ≡ m)
  after_end b q = subst (λ h. HasDart v (twin_in v b) × (next_in h (twin_in v b) ≡ m)) (sym is) (second_between v d m u w at_u at_w l sound can new there b q)

  -- the edge between two places, as the laws of cycles have it
  pub linked_between : (a b : DartId) → at_u ≡ Some a → at_w ≡ Some b → IsBetween v g d m u w (twin_in v a) (twin_in v b)
  linked_between a b p q =
      let x = after_start a p in
      let y = after_end b q in
      record { line = l; edge = edge_linked; first = x.0; second = y.0; after_first = x.1; after_second = y.1 }

  -- a sound map with its tables is one with the tables after the link, where what is told of it fits
  pub linked_map : (f s : Faces) (told : Linked) → IsSound v f → s ≡ step_faces g f (linked_faces d m u w at_u told) → FitsLinked v g f d m u at_u at_w told → IsSound g s
  linked_map f s told map e fits =
      let old : AreTabled v f = (tables_are_sound v f sound).1 map in
      let new_tables : AreTabled G (step_faces G f (linked_faces d m u w at_u told)) = kept_tables v d m u w at_u at_w l sound can new there f told old (subst (λ h. FitsLinked v h f d m u at_u at_w told) is fits) in
      subst (λ t. IsSound g t) (sym e) ((tables_are_sound g _ more).0 (subst (λ h. AreTabled h (step_faces h f (linked_faces d m u w at_u told))) (sym is) new_tables))
