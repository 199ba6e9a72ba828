-- The lower of the lowest edge so far and one more.
use Rattle.std.proofs.Common.{◌≡◌, ◌<◌, Bool, true, cond, arith, refl, sym, ap, ◌∙◌, inl, inr, subst}
use Rattle.std.specs.Prelude.{Option, Some, None}
use Rattle.std.proofs.lemmas.Bool.{cases_Bool}
use Rattle.exact_plane.specs.Point.{Point}
use Rattle.plane_graphs.specs.Line.{IsProper}
use Rattle.slab_laws.specs.Sound.{skeleton_of, edge_in, IsGraphSound}
use Rattle.slab_laws.specs.SpansDrawn.{edge_of}
use Rattle.slab_laws.specs.View.{View}
use Rattle.edge_predicates.specs.Above.{is_above}
use Rattle.locate_landmarks.specs.Lowest.{IsAbove, IsLowered, lower_edge, floor_in}
use Rattle.locate_landmarks.specs.declared.above.EdgeAbove.{EdgeAbove}
use Rattle.locate_landmarks.proofs.Floors.{floor_less, floor_least}

module _ (v : View) (q : Point) (s : IsGraphSound v) (Q : IsProper q) where
  pub is_lower : (b : Bool) → b ≡ true → (o : Option EdgeAbove) (e : EdgeAbove) → IsAbove v q o → IsAbove v q (Some e) → IsAbove v q (Some (lower_edge o e)) × IsLowered v q b o (Some (lower_edge o e))
  is_lower b t None e p k = (k, inr (t, floor_least (skeleton_of v) q s.plane Q.positive (edge_in v e.dart)))
  is_lower b t (Some a) e p k =
      let same : is_above (edge_of a.edge) (edge_of e.edge) ≡ is_above (edge_in v a.dart) (edge_in v e.dart) = λ i. is_above (p.2 i) (k.2 i) in
      elim (cases_Bool (is_above (edge_of a.edge) (edge_of e.edge))) [
        | inl h ↦
            subst (λ x. IsAbove v q (Some x) × IsLowered v q b (Some a) (Some x)) (sym (ap (λ y. cond y e a) h))
            (k, inr (t, floor_less (skeleton_of v) q s.plane Q.positive (edge_in v a.dart) (edge_in v e.dart) p.1 k.1 (sym same ∙ h)))
        | inr h ↦ subst (λ x. IsAbove v q (Some x) × IsLowered v q b (Some a) (Some x)) (sym (ap (λ y. cond y e a) h)) (p, inl refl)
      ]

  pub lowered_trans : (b : Bool) (o p r : Option EdgeAbove) → IsLowered v q b o p → IsLowered v q b p r → IsLowered v q b o r
  lowered_trans b o p r a (inl e) = subst (IsLowered v q b o) (sym e) a
  lowered_trans b o p r (inl e) (inr l) = inr (l.0, subst (λ x. floor_in v q r < floor_in v q x) e l.1)
  lowered_trans b o p r (inr k) (inr l) = inr (l.0, omega arith)
