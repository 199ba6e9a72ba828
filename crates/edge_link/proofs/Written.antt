-- What the writers of a link make of a view is the view with one more edge.
use Rattle.std.proofs.Common.{◌≡◌, ◌≢◌, Option, Some, None, option_map, refl, sym, ap, subst, ◌∙◌}
use Rattle.exact_plane.specs.Line.{Line}
use Rattle.slab_laws.specs.declared.names.DartId.{DartId}
use Rattle.slab_laws.specs.declared.names.VertexId.{VertexId}
use Rattle.slab_laws.specs.Sound.{IsNamed}
use Rattle.slab_laws.specs.View.{View, HasDart, twin_in}
use Rattle.arr_notes.specs.ViewChanges.{with_next}
use Rattle.arr_notes.proofs.DartReads.{next_is_set}
use Rattle.arr_notes.proofs.PairReads.{pair_is_added}
use Rattle.arr_notes.proofs.NamesWritten.{first_follows, second_follows}
use Rattle.dcel_records.specs.Edges.{with_edge}
use Rattle.arr_notes.specs.Step.{add_edge}
use Rattle.arr_notes.specs.AfterAround.{after_in}
use Rattle.edge_link.specs.Links.{led_by, led_to}

-- ---- the whole of a link
-- the view when all is written
abbrev pub written : (v : View) (d m : DartId) (u w : VertexId) (at_u at_w : Option DartId) (l : Line) → View
written v d m u w at_u at_w l =
    led_by (led_by (led_to (led_to (with_edge v d m u w l) d (option_map (after_in v) at_w)) m (option_map (after_in v) at_u)) (option_map (twin_in v) at_u) d) (option_map (twin_in v) at_w) m

module _ (v : View) (d m : DartId) (u w : VertexId) (l : Line) (ne : d ≢ m) (a : IsNamed v) where
  pub is_written : (at_u at_w : Option DartId) → written v d m u w at_u at_w l ≡ add_edge v d m u w at_u at_w l
  is_written None None = refl
  is_written (Some b) None = ap (λ h. with_next h (twin_in v b) d) (second_follows v d m _ _ ne a (after_in v b))
  is_written None (Some c) = ap (λ h. with_next h (twin_in v c) m) (first_follows v d m _ _ ne a (after_in v c))
  is_written (Some b) (Some c) =
      ap (λ h. with_next (with_next h (twin_in v b) d) (twin_in v c) m)
      (ap (λ h. with_next h m (after_in v b)) (first_follows v d m _ _ ne a (after_in v c)) ∙ second_follows v d m _ _ ne a (after_in v b))

-- ---- what has a record on the way
-- no follower set takes a record away
pub known_led_by : (h : View) (o : Option DartId) (x e : DartId) → HasDart h e → HasDart (led_by h o x) e
known_led_by h None x e k = k
known_led_by h (Some b) x e k = (next_is_set h b x).relinked.has e k

pub known_led_to : (h : View) (b : DartId) (o : Option DartId) (e : DartId) → HasDart h e → HasDart (led_to h b o) e
known_led_to h b None e k = k
known_led_to h b (Some x) e k = (next_is_set h b x).relinked.has e k

module _ (v : View) (d m : DartId) (u w : VertexId) (l : Line) (nd : ¬ HasDart v d) (nm : ¬ HasDart v m) (ne : d ≢ m) where
  pub first_known : (g : View) → g ≡ with_edge v d m u w l → HasDart g d
  first_known g e = subst (λ h. HasDart h d) (sym e) (pair_is_added v d m _ _ ne).first.has

  pub second_known : (g h : View) (o : Option DartId) → g ≡ with_edge v d m u w l → h ≡ led_to g d o → HasDart h m
  second_known g h o e q = subst (λ x. HasDart x m) (sym q) (known_led_to g d o m (subst (λ x. HasDart x m) (sym e) (pair_is_added v d m _ _ ne).second.has))

  -- a dart of old has its record when both new ones have their followers
  pub still_known : (g h i : View) (o p : Option DartId) → g ≡ with_edge v d m u w l → h ≡ led_to g d o → i ≡ led_to h m p → (e : DartId) → HasDart v e → HasDart i e
  still_known g h i o p eg eh ei e k =
      let old : HasDart (with_edge v d m u w l) e = ((pair_is_added v d m _ _ ne).others e (λ q. nd (subst (HasDart v) q k)) (λ q. nm (subst (HasDart v) q k))).has k in
      subst (λ x. HasDart x e) (sym ei) (known_led_to h m p e (subst (λ x. HasDart x e) (sym eh) (known_led_to g d o e (subst (λ x. HasDart x e) (sym eg) old))))

  -- the views on the way, one by one
  pub chained : (g h i j n : View) (at_u at_w au aw bu bw : Option DartId) → IsNamed v → g ≡ with_edge v d m u w l → h ≡ led_to g d aw → i ≡ led_to h m au → j ≡ led_by i bu d → n ≡ led_by j bw m
      → au ≡ option_map (after_in v) at_u → aw ≡ option_map (after_in v) at_w → bu ≡ option_map (twin_in v) at_u → bw ≡ option_map (twin_in v) at_w → n ≡ add_edge v d m u w at_u at_w l
  chained g h i j n at_u at_w au aw bu bw a eg eh ei ej en qau qaw qbu qbw =
      let all : n ≡ led_by (led_by (led_to (led_to (with_edge v d m u w l) d aw) m au) bu d) bw m =
      en ∙ ap (λ x. led_by x bw m) (ej ∙ ap (λ x. led_by x bu d) (ei ∙ ap (λ x. led_to x m au) (eh ∙ ap (λ x. led_to x d aw) eg))) in
      let places : led_by (led_by (led_to (led_to (with_edge v d m u w l) d aw) m au) bu d) bw m ≡ written v d m u w at_u at_w l =
      λ t. led_by (led_by (led_to (led_to (with_edge v d m u w l) d (qaw t)) m (qau t)) (qbu t) d) (qbw t) m in
      all ∙ places ∙ is_written v d m u w l ne a at_u at_w
