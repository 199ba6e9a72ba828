-- What is read of a sound view by name: each dart has the curves of its edge.
use Rattle.std.proofs.Common.{◌≡◌, ℕ, not, List, [], ◌∷◌, map, Option, Some, None, IsSome, refl, sym, ap, ◌∙◌, subst, nat_cmp}
use Rattle.std.specs.List.Sorted.{IsStrictlyIncreasing}
use Rattle.std.proofs.lemmas.Bool.{false≢true}
use Rattle.std.proofs.lemmas.Map.Keys.{IsStrictlyIncreasing-from_sorted}
use Rattle.plane_graphs.specs.Ascending.{IsAscending}
use Rattle.plane_graphs.proofs.Ascending.{to_std}
use Rattle.slab_laws.specs.declared.names.CurveId.{CurveId}
use Rattle.slab_laws.specs.declared.names.DartId.{DartId}
use Rattle.slab_laws.specs.Tables.{row_at}
use Rattle.slab_laws.specs.View.{HasDart, curve_id, twin_in}
use Rattle.arr_notes.specs.Curves.{IsForward, AreCurvesOf}
use Rattle.arr_notes.specs.CurvedView.{CurvedView, IsSoundView, curves_or, curves_seen}
use Rattle.arr_notes.proofs.Names.{numbers_of as numbers_again}
use Rattle.sound_views.proofs.GraphDrawn.{twins_are_directed}
use Rattle.mirror_observer.specs.Reading.{curves_found, curves_at_edge}
use Rattle.mirror_observer.specs.SeenCurves.{curve_list_of}

-- ---- lists of curves by their numbers
pub names_again : (cs : List CurveId) → map curve_id (map (λ c. c.0) cs) ≡ cs
names_again [] = refl
names_again (c ∷ cs) = ap (λ ks. c ∷ ks) (names_again cs)

first_found : (o p : Option (List ℕ)) → IsSome o → curves_found o p ≡ curves_or o
first_found None p h = absurd (false≢true h)
first_found (Some ks) p h = refl

either_way : (o p : Option (List ℕ)) → (IsSome o → IsSome p → ⊥) → curves_found p o ≡ curves_found o p
either_way None None h = refl
either_way None (Some ks) h = refl
either_way (Some ks) None h = refl
either_way (Some ks) (Some js) h = absurd (h refl refl)

found_ascend : (o p : Option (List ℕ)) → IsAscending nat_cmp (curves_or o) → IsAscending nat_cmp (curves_or p) → IsAscending nat_cmp (curves_found o p)
found_ascend None p a b = b
found_ascend (Some ks) p a b = a

none_found : (o : Option (List ℕ)) → (IsSome o → ⊥) → curves_or o ≡ []
none_found None h = refl
none_found (Some ks) h = absurd (h refl)

module _ (w : CurvedView) (s : IsSoundView w) where
  pub edge_curves : AreCurvesOf w.graph (curves_seen w)
  edge_curves = record {
    some = s.curves.some;
    ascend = s.curves.ascend;
    without_dart = λ d n. none_found (row_at w.curves d.0) (λ h. n (s.curves.edge d h).0);
    backward = λ d b. none_found (row_at w.curves d.0) (λ h. false≢true (sym b ∙ (s.curves.edge d h).1));
  }

  number_list : (d : DartId) → map (λ (c : CurveId). c.0) (curve_list_of w d) ≡ curves_at_edge w d
  number_list d = numbers_again (curves_at_edge w d)

  pub forward_curves : (d : DartId) → IsForward w.graph d → map (λ (c : CurveId). c.0) (curve_list_of w d) ≡ curves_seen w d
  forward_curves d f = number_list d ∙ first_found (row_at w.curves d.0) (row_at w.curves (twin_in w.graph d).0) (s.curves.row d f)

  pub list_ascends : (d : DartId) → IsStrictlyIncreasing (map (λ (c : CurveId). c.0) (curve_list_of w d))
  list_ascends d =
      let a : IsAscending nat_cmp (curves_at_edge w d) = found_ascend (row_at w.curves d.0) (row_at w.curves (twin_in w.graph d).0) (s.curves.ascend d) (s.curves.ascend (twin_in w.graph d)) in
      subst IsStrictlyIncreasing (sym (number_list d)) (IsStrictlyIncreasing-from_sorted (curves_at_edge w d) (to_std nat_cmp (curves_at_edge w d) a))

  pub twins_alike : (d : DartId) → HasDart w.graph d → curve_list_of w (twin_in w.graph d) ≡ curve_list_of w d
  twins_alike d h =
      let t : DartId = twin_in w.graph d in
      let apart : IsSome (row_at w.curves d.0) → IsSome (row_at w.curves t.0) → ⊥ =
      (λ a b. false≢true (ap not (sym (s.curves.edge d a).1) ∙ sym (twins_are_directed w.graph s.map.graph d h) ∙ (s.curves.edge t b).1)) in
      ap (map curve_id) (ap (λ e. curves_found (row_at w.curves t.0) (row_at w.curves e.0)) (s.map.graph.twinned.back d h) ∙ either_way (row_at w.curves d.0) (row_at w.curves t.0) apart)
