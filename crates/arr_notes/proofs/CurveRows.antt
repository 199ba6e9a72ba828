-- The rows of edges: what a name finds among them is the curves of its edge, whose dart is forward just where there are some.
use Rattle.std.proofs.Common.{◌≡◌, ◌≢◌, ℕ, ◌<◌, Bool, true, false, List, [], ◌∷◌, map, Option, Some, None, is_some, IsSome, refl, sym, ap, subst, ◌∙◌, inl, inr}
use Rattle.std.specs.List.{filter, AllByRecursion}
use Rattle.std.specs.Ordering.{nat_cmp}
use Rattle.std.proofs.lemmas.Bool.{cases_Bool, cases_eq, false≢true}
use Rattle.plane_graphs.specs.Ascending.{IsAscending}
use Rattle.slab_laws.specs.declared.names.CurveId.{CurveId}
use Rattle.slab_laws.specs.declared.names.DartId.{DartId}
use Rattle.slab_laws.specs.FacesSound.{IsSound}
use Rattle.slab_laws.specs.Tables.{row_at, names, NamesAscend}
use Rattle.slab_laws.specs.View.{View, Faces, dart_id}
use Rattle.arr_notes.specs.Curves.{Curves, AreCurvesOf, IsForward, is_forward}
use Rattle.arr_notes.specs.CurvedView.{AreListsOf, IsSoundView, curve_rows, curves_or, curves_seen, view_by}
use Rattle.arr_notes.specs.ViewLaws.{ReadViewsAreSound}
use Rattle.arr_notes.proofs.FacesDrawn.{none_from}
use Rattle.integers.proofs.Tests.{other_number, same_number}

-- the row of an edge with these curves; where there are none, there is no edge
abbrev pub row_of : List ℕ → Option (List ℕ)
row_of [] = None
row_of (n ∷ ns) = Some (n ∷ ns)

pub row_of_some : (ns : List ℕ) → ns ≢ [] → row_of ns ≡ Some ns
row_of_some [] h = absurd (h refl)
row_of_some (n ∷ ns) h = refl

pub curves_of_row : (ns : List ℕ) → curves_or (row_of ns) ≡ ns
curves_of_row [] = refl
curves_of_row (n ∷ ns) = refl

some_row : (ns : List ℕ) → IsSome (row_of ns) → ns ≢ []
some_row [] h = absurd (false≢true h)
some_row (n ∷ ns) h = λ q. cc

-- ---- a table of the names that are chosen, each with what is made of it
module _ {X Y : Type 0} (p : ℕ → Bool) (f : ℕ → Y) where
  abbrev pub chosen : List (ℕ × X) → List (ℕ × Y)
  chosen rs = map (λ r. (r.0, f r.0)) (filter (λ r. p r.0) rs)

  above_chosen : (i : ℕ) (rs : List (ℕ × X)) → AllByRecursion (λ m. i < m) (names rs) → AllByRecursion (λ m. i < m) (names (chosen rs))
  above_chosen i [] a = tt
  above_chosen i (r ∷ rs) a = elim (cases_Bool (p r.0)) [ inl q ↦ rw q (a.0, above_chosen i rs a.1) | inr q ↦ rw q (above_chosen i rs a.1) ]

  pub ascend_chosen : (rs : List (ℕ × X)) → NamesAscend (names rs) → NamesAscend (names (chosen rs))
  ascend_chosen [] a = tt
  ascend_chosen (r ∷ rs) a = elim (cases_Bool (p r.0)) [ inl q ↦ rw q (above_chosen r.0 rs a.0, ascend_chosen rs a.1) | inr q ↦ rw q (ascend_chosen rs a.1) ]

  not_chosen : (rs : List (ℕ × X)) (n : ℕ) → p n ≡ false → row_at (chosen rs) n ≡ None
  unfolding row_at
  not_chosen [] n e = refl
  not_chosen (r ∷ rs) n e = elim (cases_Bool (p r.0)) [
    | inl q ↦ let ne : r.0 ≢ n = λ s. false≢true (sym e ∙ ap p (sym s) ∙ q) in rw (q, other_number r.0 n ne) (not_chosen rs n e)
    | inr q ↦ rw q (not_chosen rs n e)
  ]

  not_there : (rs : List (ℕ × X)) (n : ℕ) → row_at rs n ≡ None → row_at (chosen rs) n ≡ None
  unfolding row_at
  not_there [] n e = refl
  not_there (r ∷ rs) n e = elim (cases_eq r.0 n) [
    | inl s ↦ let t = rw (s, same_number n) at e in absurd (cc)
    | inr ne ↦ let k = rw (other_number r.0 n ne) at e in elim (cases_Bool (p r.0)) [
      | inl q ↦ rw (q, other_number r.0 n ne) (not_there rs n k)
      | inr q ↦ rw q (not_there rs n k)
    ]
  ]

  row_chosen : (rs : List (ℕ × X)) (n : ℕ) → p n ≡ true → IsSome (row_at rs n) → row_at (chosen rs) n ≡ Some (f n)
  unfolding row_at
  row_chosen [] n e h = absurd (false≢true h)
  row_chosen (r ∷ rs) n e h = elim (cases_eq r.0 n) [
    | inl s ↦ let t : p r.0 ≡ true = ap p s ∙ e in rw t (rw (s, same_number n) refl)
    | inr ne ↦ let k = rw (other_number r.0 n ne) at h in elim (cases_Bool (p r.0)) [
      | inl q ↦ rw (q, other_number r.0 n ne) (row_chosen rs n e k)
      | inr q ↦ rw q (row_chosen rs n e k)
    ]
  ]

-- ---- the rows of a view's edges
module _ (v : View) (h : Curves) (k : DartId → List CurveId) (a : AreCurvesOf v h) (l : AreListsOf v h k) where
  abbrev forward : ℕ → Bool
  forward n = is_forward v (dart_id n)

  abbrev list : ℕ → List ℕ
  list n = map (λ c. c.0) (k (dart_id n))

  pub curve_row : (n : ℕ) → row_at (curve_rows v k) n ≡ row_of (h (dart_id n))
  curve_row n = elim (cases_Bool (is_forward v (dart_id n))) [
    | inl e ↦ elim (cases_Bool (is_some (row_at v.darts n))) [
      | inl t ↦ row_chosen forward list v.darts n e t ∙ ap Some (l (dart_id n) (t, e)) ∙ sym (row_of_some (h (dart_id n)) (a.some (dart_id n) (t, e)))
      | inr t ↦ not_there forward list v.darts n (none_from (row_at v.darts n) t) ∙ sym (ap row_of (a.without_dart (dart_id n) (λ o. false≢true (sym t ∙ o))))
    ]
    | inr e ↦ not_chosen forward list v.darts n e ∙ sym (ap row_of (a.backward (dart_id n) e))
  ]

  pub ascend_curve_rows : NamesAscend (names v.darts) → NamesAscend (names (curve_rows v k))
  ascend_curve_rows up = ascend_chosen forward list v.darts up

  forward_by : (d : DartId) → h d ≢ [] → IsForward v d
  forward_by d ne = elim (cases_Bool (is_some (row_at v.darts d.0))) [
    | inl t ↦ elim (cases_Bool (is_forward v d)) [ inl e ↦ (t, e) | inr e ↦ absurd (ne (a.backward d e)) ]
    | inr t ↦ absurd (ne (a.without_dart d (λ o. false≢true (sym t ∙ o))))
  ]

  seen : (f : Faces) (d : DartId) → curves_seen (view_by v f k) d ≡ h d
  seen f d = ap curves_or (curve_row d.0) ∙ curves_of_row (h d)

  pub view_is_sound : (f : Faces) → IsSound v f → IsSoundView (view_by v f k)
  view_is_sound f s = record {
    map = s;
    curves = record {
      named = ascend_curve_rows s.graph.named.darts;
      row = λ d e. ap is_some (curve_row d.0 ∙ row_of_some (h d) (a.some d e));
      edge = λ d i. forward_by d (some_row (h d) (sym (ap is_some (curve_row d.0)) ∙ i));
      some = λ d e q. a.some d e (sym (seen f d) ∙ q);
      ascend = λ d. subst (IsAscending nat_cmp) (sym (seen f d)) (a.ascend d);
    };
  }

pub read_views_are_sound : ReadViewsAreSound
read_views_are_sound v f h k s a l = view_is_sound v h k a l f s
