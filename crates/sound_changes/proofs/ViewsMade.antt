-- What a change makes of a view is the view of the changed records: both have the same rows of edges, told by the edges' curves.
use Rattle.std.proofs.Common.{◌≡◌, ◌≢◌, ℕ, ◌==◌, cond, false, not, List, [], ◌∷◌, Option, Some, None, option_map, refl, sym, ap, subst, ◌∙◌, inl, inr, map}
use Rattle.std.specs.List.{filter}
use Rattle.std.specs.Ordering.{nat_cmp}
use Rattle.std.proofs.lemmas.Bool.{cases_eq}
use Rattle.plane_graphs.specs.Ascending.{place}
use Rattle.plane_graphs.specs.Graph.{same_curve}
use Rattle.slab_laws.specs.declared.names.CurveId.{CurveId}
use Rattle.slab_laws.specs.declared.names.DartId.{DartId}
use Rattle.slab_laws.specs.declared.names.VertexId.{VertexId}
use Rattle.slab_laws.specs.Darts.{Dart}
use Rattle.slab_laws.specs.Tables.{row_at, names, NamesAscend}
use Rattle.slab_laws.specs.View.{View, HasVertex, dart_id, next_in, curve_id}
use Rattle.arr_notes.specs.declared.change.Change.{Change}
use Rattle.arr_notes.specs.declared.change.Change.TheVariants.{AddVertex, RemoveVertex, SplitEdge, MergeEdge, AddEdge, RemoveEdge, AddCurve, RemoveCurve, SetPin, ClearPin, Clear}
use Rattle.arr_notes.specs.Curves.{Curves, AreCurvesOf, IsForward, step_curves}
use Rattle.arr_notes.specs.CurvedView.{AreListsOf, IsPlaceOut, IsSoundView, curve_rows, curves_or, step_rows}
use Rattle.arr_notes.specs.FacesTold.{faces_after}
use Rattle.arr_notes.specs.NamedRows.{put, del, edit}
use Rattle.arr_notes.specs.Step.{step}
use Rattle.arr_notes.proofs.CurveRows.{row_of, row_of_some, curves_of_row, curve_row, ascend_curve_rows, read_views_are_sound}
use Rattle.arr_notes.proofs.Names.{numbers_of}
use Rattle.arr_notes.proofs.RowLaws.{row_at-put, row_at-del, row_at-edit, ascend-put, ascend-del, ascend-each, one_table}
use Rattle.integers.proofs.Tests.{other_number, same_number}
use Rattle.sound_changes.specs.EdgePlaces.{IsPlaceFor}
use Rattle.sound_changes.specs.StepOfChange.{FitsChange}
use Rattle.sound_changes.specs.ViewLaws.{ChangesMakeViews, ChangesFitViews, ChangesMayBeTold}
use Rattle.sound_changes.proofs.ChangesAreSteps.{changes_are_steps}
use Rattle.sound_changes.proofs.MergedRing.{after_n, after_t}
use Rattle.sound_changes.proofs.StepCases.{at_name}

-- ---- rows of edges, and the curves that they tell
module _ (rs : List (ℕ × List ℕ)) (h : Curves) (up : NamesAscend (names rs)) (at : (n : ℕ) → row_at rs n ≡ row_of (h (dart_id n))) where
  curves_at : (d : DartId) → curves_or (row_at rs d.0) ≡ h d
  curves_at d = ap curves_or (at d.0) ∙ curves_of_row (h d)

  row_put : (m : ℕ) (ns : List ℕ) → ns ≢ [] → (n : ℕ) → row_at (put m ns rs) n ≡ row_of (cond (n == m) ns (h (dart_id n)))
  row_put m ns some n =
      row_at-put m ns rs n ∙ elim (cases_eq m n) [
        | inl q ↦ rw (q, same_number n) (sym (row_of_some ns some))
        | inr ne ↦ rw (other_number m n ne, other_number n m (λ q. ne (sym q))) (at n)
      ]

  row_del : (m n : ℕ) → row_at (del m rs) n ≡ row_of (cond (n == m) [] (h (dart_id n)))
  row_del m n =
      row_at-del m rs n up ∙ elim (cases_eq m n) [
        | inl q ↦ rw (q, same_number n) refl
        | inr ne ↦ rw (other_number m n ne, other_number n m (λ q. ne (sym q))) (at n)
      ]

  module _ (d : DartId) (f : List ℕ → List ℕ) (some : h d ≢ []) (more : f (h d) ≢ []) where
    unchanged : (o : Option (List ℕ)) → option_map (λ ns. cond false (f ns) ns) o ≡ o
    unchanged None = refl
    unchanged (Some ns) = refl

    row_edit : (n : ℕ) → row_at (edit d.0 f rs) n ≡ row_of (cond (n == d.0) (f (h (dart_id n))) (h (dart_id n)))
    row_edit n =
        row_at-edit d.0 f rs n ∙ ap (option_map (λ ns. cond (n == d.0) (f ns) ns)) (at n) ∙ elim (cases_eq n d.0) [
          | inl q ↦ rw (q, same_number d.0) (ap (option_map f) (row_of_some (h d) some) ∙ sym (row_of_some (f (h d)) more))
          | inr ne ↦ rw (other_number n d.0 ne) (unchanged (row_of (h (dart_id n))))
        ]

-- ---- the rows after a change
no_row : (n : ℕ) → row_at {X = List ℕ} [] n ≡ None
unfolding row_at
no_row n = refl

not_none : (n : ℕ) → (n ∷ []) ≢ []
not_none n q = cc

module _ (v : View) (h : Curves) (a : AreCurvesOf v h) (rs : List (ℕ × List ℕ)) (up : NamesAscend (names rs)) (at : (n : ℕ) → row_at rs n ≡ row_of (h (dart_id n))) where
  edited : (d : DartId) (f : List ℕ → List ℕ) → IsForward v d → cond (d.0 == d.0) (f (h d)) (h d) ≢ [] → (n : ℕ) → row_at (edit d.0 f rs) n ≡ row_of (cond (n == d.0) (f (h (dart_id n))) (h (dart_id n)))
  edited d f forward some = row_edit rs h up at d f (a.some d forward) (subst (λ ns. ns ≢ []) (at_name d (f (h d)) (h d)) some)

  rows_after : (c : Change) → FitsChange v h c → AreCurvesOf (step v c) (step_curves h c) → (n : ℕ) → row_at (step_rows rs c) n ≡ row_of (step_curves h c (dart_id n))
  rows_after (AddVertex w p face) f b n = at n
  rows_after (RemoveVertex w) f b n = at n
  rows_after (SplitEdge d w p k m) f b n =
      ap (λ ns. row_at (put k.0 ns rs) n) (curves_at rs h up at d) ∙ row_put rs h up at k.0 (h d) (a.some d (f.dart, f.forward)) n
  rows_after (MergeEdge w d k) f b n = row_del rs h up at k.0 n
  rows_after (AddEdge d m u w at_u at_w l c faces) f b n = row_put rs h up at d.0 (c.0 ∷ []) (not_none c.0) n
  rows_after (RemoveEdge d m faces) f b n = row_del rs h up at d.0 n
  rows_after (AddCurve d c) f b n = edited d (place nat_cmp c.0) f (b.some d f) n
  rows_after (RemoveCurve d c) f b n = edited d (filter (λ k. not (same_curve k c.0))) f.0 (b.some d f.0) n
  rows_after (SetPin w) f b n = at n
  rows_after (ClearPin w) f b n = at n
  rows_after (Clear face) f b n = no_row n

names_after : (rs : List (ℕ × List ℕ)) (c : Change) → NamesAscend (names rs) → NamesAscend (names (step_rows rs c))
names_after rs (AddVertex w p face) up = up
names_after rs (RemoveVertex w) up = up
names_after rs (SplitEdge d w p n m) up = ascend-put n.0 (curves_or (row_at rs d.0)) rs up
names_after rs (MergeEdge w d n) up = ascend-del n.0 rs up
names_after rs (AddEdge d m u w at_u at_w l c faces) up = ascend-put d.0 (c.0 ∷ []) rs up
names_after rs (RemoveEdge d m faces) up = ascend-del d.0 rs up
names_after rs (AddCurve d c) up = ascend-each _ rs up
names_after rs (RemoveCurve d c) up = ascend-each _ rs up
names_after rs (SetPin w) up = up
names_after rs (ClearPin w) up = up
names_after rs (Clear face) up = tt

-- ---- the view after a change
pub changes_make_views : ChangesMakeViews
changes_make_views v faces h k l c s a f t before after =
    let b : AreCurvesOf (step v c) (step_curves h c) = (changes_are_steps v h c s a f).curves in
    let up = ascend_curve_rows v h k a before s.named.darts in
    let rows : curve_rows (step v c) l ≡ step_rows (curve_rows v k) c =
    one_table _ _ (ascend_curve_rows (step v c) (step_curves h c) l b after t.named.darts) (names_after (curve_rows v k) c up)
    (λ n. curve_row (step v c) (step_curves h c) l b after n ∙ sym (rows_after v h a (curve_rows v k) up (curve_row v h k a before) c f b n)) in
    λ i. record { graph = step v c; faces = faces_after v faces c; curves = rows i }

-- ---- it names what the view has, and new names
place_out : (v : View) (u : VertexId) (o : Option DartId) (x : Dart) → IsPlaceFor v u o x → IsPlaceOut v u o
place_out v u None x f = tt
place_out v u (Some a) x f = f.0

pub changes_fit_views : ChangesFitViews
changes_fit_views v h (AddVertex w p face) s f = f.name
changes_fit_views v h (RemoveVertex w) s f = f.0
changes_fit_views v h (SplitEdge d w p n m) s f = record { dart = f.dart; vertex = f.vertex; first = f.first; second = f.second; differ = f.differ }
changes_fit_views v h (MergeEdge w d n) s f = record {
  vertex = subst (HasVertex v) f.0.leaves (s.linked.source n f.0.second);
  first = f.0.first;
  second = f.0.second;
  arrives = f.0.arrives;
  follows = ap (next_in v) (sym (s.twinned.back d f.0.first)) ∙ after_t v w s d n f.0;
  returns = after_n v w s d n f.0;
}
changes_fit_views v h (AddEdge d m u w at_u at_w l c faces) s f = record {
  first = f.0.first_new;
  second = f.0.second_new;
  differ = f.0.two_names;
  start = f.0.start;
  end = f.0.end;
  two_ends = f.0.two_ends;
  place_at_start = place_out v u at_u _ f.0.place_at_start;
  place_at_end = place_out v w at_w _ f.0.place_at_end;
}
changes_fit_views v h (RemoveEdge d m faces) s f = (f.0.0, f.1)
changes_fit_views v h (AddCurve d c) s f = f.0
changes_fit_views v h (RemoveCurve d c) s f = f.0.0
changes_fit_views v h (SetPin w) s f = f
changes_fit_views v h (ClearPin w) s f = f
changes_fit_views v h (Clear face) s f = tt

-- ---- what it makes of the view is sound
pub changes_may_be_told : ChangesMayBeTold
changes_may_be_told v faces h k c s a f t before =
    let l : DartId → List CurveId = λ d. map curve_id (step_curves h c d) in
    let after : AreListsOf (step v c) (step_curves h c) l = λ d o. numbers_of (step_curves h c d) in (
      changes_fit_views v h c s f,
      subst IsSoundView (changes_make_views v faces h k l c s a f t.graph before after) (read_views_are_sound (step v c) (faces_after v faces c) (step_curves h c) l t (changes_are_steps v h c s a f).curves after),
    )
