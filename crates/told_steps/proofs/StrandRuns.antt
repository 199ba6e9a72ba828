-- Runs of steps where the sides of curves are told apart.
use Rattle.std.proofs.Common.{◌≡◌, ⊎_elim, ℕ, ◌≤◌, ◌==◌, Bool, true, false, cond, not, ◌&&◌, ◌||◌, List, [], ◌∷◌, ◌++◌, map, refl, sym, ap, ap₂, ◌∙◌, subst, inl, inr, Equal, is_eq}
use Rattle.std.specs.List.{filter, list_any}
use Rattle.std.specs.Ordering.{nat_cmp}
use Rattle.std.proofs.lemmas.Bool.{eqb-true}
use Rattle.std.proofs.lemmas.Cmp.{nat_cmp_total}
use Rattle.exact_plane.specs.Point.{Point}
use Rattle.exact_plane.specs.PointOrderLaws.{and_true}
use Rattle.plane_graphs.specs.Ascending.{Member, place}
use Rattle.plane_graphs.specs.Fit.{IsFit}
use Rattle.plane_graphs.specs.Graph.{Graph, Mark, graph, is_at, same_curve}
use Rattle.plane_graphs.specs.Line.{same_point}
use Rattle.plane_graphs.specs.Piece.{Present}
use Rattle.plane_graphs.specs.Strands.{strand, strands}
use Rattle.plane_graphs.proofs.Ascending.{IsAscending-ascending, IsAscending-place, ascending_unique}
use Rattle.plane_graphs.proofs.Lists.{any_in, any_none, any_out, decide, in_filter, in_place, of_filter, of_place, filter_same}
use Rattle.plane_graphs.proofs.Order.{curve_out, same_out}
use Rattle.edit_steps.specs.EditLaws.{curve_of, release_step}
use Rattle.edit_steps.specs.Edits.{Edit, Insert, Drop, Cut, Pin, Unpin, Split, Merge, ClearAll, IsAccepted, after, path_pieces}
use Rattle.edit_steps.specs.Steps.{AddCurve, AddEdge, RemoveEdge, Step, apply, run}
use Rattle.edit_steps.proofs.Changes.{this, this_in, this_out}
use Rattle.edit_steps.proofs.Edits.{run_append}
use Rattle.edit_steps.proofs.Laws.{keeps_fit}
use Rattle.edit_steps.proofs.StrandDrops.{drop_of_strands}
use Rattle.edit_steps.proofs.StrandPaths.{path_of_strands, strand_is_of}
use Rattle.edit_steps.proofs.StrandSteps.{strands_follow}
use Rattle.slab_laws.specs.declared.names.DartId.{DartId}
use Rattle.slab_laws.specs.Sound.{IsGraphSound}
use Rattle.slab_laws.specs.View.{View, HasDart, dart_id, point_in, source_in, target_in}
use Rattle.arr_notes.specs.declared.change.Change.{Change}
use Rattle.arr_notes.specs.Curves.{AreCurvesOf, IsForward, step_curves}
use Rattle.arr_notes.specs.RecordGraph.{drawn_graph}
use Rattle.arr_notes.specs.Step.{step}
use Rattle.sound_changes.specs.StepOfChange.{FitsChange, step_of_change}
use Rattle.sound_changes.proofs.ChangesAreSteps.{changes_are_steps}
use Rattle.sound_changes.proofs.StepCases.{one_way}
use Rattle.sound_changes.proofs.StepCurvesGo.{curves_go}
use Rattle.sound_changes.proofs.StepHolds.{held_mark}
use Rattle.curve_history.specs.Past.{Past, GainsCurve, LosesSides, SameCurves, SameStrands, curves_of, curves_on, strands_on}
use Rattle.curve_history.proofs.Sides.{in_curves, strands_of_edges}
use Rattle.told_steps.specs.StrandRuns.{IsStrandRun, SidesGo, strand_graph, strand_steps}

-- ---- steps
-- no step, where nothing moved
pub strands_stay : (v w : View) (p q : Past) → w ≡ v → SameStrands p q → IsStrandRun v p [] w q
unfolding run
strands_stay v w p q e k = ap₂ drawn_graph e (λ i d. k d i)

-- one change that fits
pub strand_step : (v : View) (p : Past) (c : Change) (w : View) (q : Past) → IsGraphSound v → AreCurvesOf v (curves_on p) → FitsChange v (strands_on p) c → w ≡ step v c → ((d : DartId) → strands_on q d ≡ step_curves (strands_on p) c d) →
    IsStrandRun v p (step_of_change v c ∷ []) w q
unfolding run
strand_step v p c w q s a f e k = ap₂ drawn_graph e (λ i d. k d i) ∙ (changes_are_steps v (strands_on p) c s (strands_of_edges v p a) f).graph

-- a new edge comes as one more side along it does
pub as_held : (v : View) (p : Past) (a b : Point) (z : ℕ) (w : View) (q : Past) → IsStrandRun v p (AddEdge a b z ∷ []) w q → IsStrandRun v p (AddCurve a b z ∷ []) w q
unfolding run apply
as_held v p a b z w q r = r

-- steps, and then further steps
pub strands_then : (v : View) (p : Past) (ss ts : List Step) (w : View) (q : Past) (x : View) (r : Past) → IsStrandRun v p ss w q → IsStrandRun w q ts x r → IsStrandRun v p (ss ++ ts) x r
strands_then v p ss ts w q x r a b = b ∙ ap (run ts) a ∙ sym (run_append ss ts (strand_graph v p))

-- no side runs along a name without a dart
pub none_yet : (v : View) (p : Past) → AreCurvesOf v (curves_on p) → (d : DartId) → ¬ HasDart v d → strands_on p d ≡ []
none_yet v p a d n = (strands_of_edges v p a).without_dart d n

-- where a side of a curve runs, the curve does
pub curve_along : (p : Past) (d : DartId) (c side : ℕ) → side ≤ 8 → Member (strand c side) (strands_on p d) → Member c (curves_on p d)
unfolding curves_on
curve_along p d c side l m = subst (λ k. Member k (curves_on p d)) (strand_is_of c side l) (in_curves (strand c side) (strands_on p d) m)

-- ---- a curve that runs along an edge already
module _ (p q : Past) (d : DartId) (c : ℕ) (there : Member c (curves_on p d)) (gains : GainsCurve p q d c) where
  nat_exact : (m n : ℕ) → nat_cmp m n ≡ Equal → m ≡ n
  nat_exact m n e = curve_out m n (ap is_eq e)

  placed_there : place nat_cmp c (curves_on p d) ≡ curves_on p d
  unfolding curves_on curves_of
  placed_there =
      let a = IsAscending-ascending nat_cmp nat_cmp_total (map curve_of (strands_on p d)) in
      ascending_unique nat_cmp nat_cmp_total (place nat_cmp c (curves_on p d)) (curves_on p d) (IsAscending-place nat_cmp nat_cmp_total c (curves_on p d) a) a
      (λ x m. ⊎_elim (λ e. subst (λ y. Member y (curves_on p d)) (sym e) there) (λ k. k) (of_place nat_cmp nat_cmp_total nat_exact x c (curves_on p d) m))
      (λ x m. in_place nat_cmp nat_cmp_total nat_exact x c (curves_on p d) (inr m))

  pub curves_stay : SameCurves p q
  curves_stay x = gains x ∙ elim (decide (x.0 == d.0)) [
    | inl e ↦ ap (λ b. cond b (place nat_cmp c (curves_on p x)) (curves_on p x)) e ∙ subst (λ (y : DartId). place nat_cmp c (curves_on p y) ≡ curves_on p y) (λ i. dart_id (sym (eqb-true x.0 d.0 e) i)) placed_there
    | inr e ↦ ap (λ b. cond b (place nat_cmp c (curves_on p x)) (curves_on p x)) e
  ]

-- ---- all steps of an edit
pub strands_made : (e : Edit) (p : Present) → IsFit p → IsAccepted e p → run (strand_steps e p) (graph (strands p)) ≡ graph (strands (after e p))
unfolding after
strands_made (Insert c ss) p fit a = path_of_strands p (path_pieces c ss) (keeps_fit (Insert c ss) p fit a)
strands_made (Drop c) p fit a = drop_of_strands p c fit
strands_made (Cut x y) p fit a = strands_follow.there (Cut x y) p tt fit a
strands_made (Pin r) p fit a = strands_follow.there (Pin r) p tt fit a
strands_made (Unpin r) p fit a = strands_follow.there (Unpin r) p tt fit a
strands_made (Split x y r) p fit a = strands_follow.there (Split x y r) p tt fit a
strands_made (Merge r) p fit a = strands_follow.there (Merge r) p tt fit a
strands_made ClearAll p fit a = strands_follow.there ClearAll p tt fit a

-- ---- sides of a curve that go
pub sides_go : (v : View) (p q : Past) (d : DartId) (c : ℕ) → IsGraphSound v → IsForward v d → LosesSides p q d c → SidesGo v p d c v q
sides_go v p q d c s f e = curves_go v (strands_on p) (strands_on q) d (λ z. same_curve (curve_of z) c) s f e

-- the edge goes with all its curves where it has just that one
pub edge_released : (v : View) (p : Past) (d : DartId) (c : ℕ) (w : View) (q : Past) → IsGraphSound v → AreCurvesOf v (curves_on p) → IsForward v d → list_any (λ k. not (same_curve k c)) (curves_on p d) ≡ false →
    IsStrandRun v p (RemoveEdge (point_in v (source_in v d)) (point_in v (target_in v d)) ∷ []) w q → SidesGo v p d c w q
unfolding run apply curves_on
edge_released v p d c w q s a f alone r = r ∙ (λ i. record (strand_graph v p) { marks = same i })
  where
    low : Point
    low = point_in v (source_in v d)

    high : Point
    high = point_in v (target_in v d)

    is_its : (m : Mark) → Member m (strand_graph v p).marks → is_at low high m ≡ true → same_curve (curve_of m.curve) c ≡ true
    is_its m h at =
        let both = and_true (same_point m.low low) (same_point m.high high) at in
        let e = held_mark v s.named (strands_on p) m h in
        let one = one_way v e.0 d s e.1.forward.0 f.0 (e.1.low ∙ same_out m.low low both.0) (e.1.high ∙ same_out m.high high both.1) in
        let here = subst (λ x. Member m.curve (strands_on p x)) one e.1.curve in
        elim (decide (same_curve (curve_of m.curve) c)) [
          | inl e ↦ e
          | inr e ↦ absurd (any_none (λ k. not (same_curve k c)) (curve_of m.curve) (curves_on p d) alone (in_curves m.curve (strands_on p d) here) (ap not e))
        ]

    stays : (b g : Bool) → (b ≡ true → g ≡ true) → not b ≡ not (b && g)
    stays true g h = ap not (sym (h refl))
    stays false g h = refl

    same : filter (λ m. not (is_at low high m)) (strand_graph v p).marks ≡ filter (λ m. not (is_at low high m && same_curve (curve_of m.curve) c)) (strand_graph v p).marks
    same = filter_same (λ m. not (is_at low high m)) (λ m. not (is_at low high m && same_curve (curve_of m.curve) c)) (strand_graph v p).marks (λ m h. stays (is_at low high m) (same_curve (curve_of m.curve) c) (is_its m h))

-- ---- all at once
filter_all : {X : Type 0} (xs : List X) → xs ≡ filter (λ x. true) xs
filter_all [] = refl
filter_all (x ∷ xs) = ap (λ ys. x ∷ ys) (filter_all xs)

filter_twice : {X : Type 0} (p q : X → Bool) (xs : List X) → filter (λ x. not (q x)) (filter (λ x. not (p x)) xs) ≡ filter (λ x. not (p x || q x)) xs
filter_twice p q [] = refl
filter_twice {X} p q (x ∷ xs) = step (p x) (filter_twice p q xs)
  where
    kept : List X
    kept = filter (λ x. not (p x)) xs

    left : List X
    left = filter (λ x. not (p x || q x)) xs

    step : (b : Bool) → filter (λ x. not (q x)) kept ≡ left → filter (λ x. not (q x)) (cond (not b) (x ∷ kept) kept) ≡ cond (not (b || q x)) (x ∷ left) left
    step true e = e
    step false e = ap (λ ys. cond (not (q x)) (x ∷ ys) ys) e

releases : (g : Graph) (ms xs : List Mark) → run (map release_step ms) (record g { marks = xs }) ≡ record g { marks = filter (λ n. not (list_any (λ m. this m n) ms)) xs }
unfolding run apply
releases g [] xs = λ i. record g { marks = filter_all xs i }
releases g (m ∷ ms) xs = releases g ms (filter (λ n. not (this m n)) xs) ∙ (λ i. record g { marks = filter_twice (this m) (λ n. list_any (λ m. this m n) ms) xs i })

-- each side of a curve goes from each of its edges: none of its marks is left
pub sides_released : (c : ℕ) (g : Graph) → run (map release_step (filter (λ m. same_curve (curve_of m.curve) c) g.marks)) g ≡ record g { marks = filter (λ m. not (same_curve (curve_of m.curve) c)) g.marks }
sides_released c g = releases g ms g.marks ∙ (λ i. record g { marks = filter_same (λ n. not (list_any (λ m. this m n) ms)) (λ n. not (of_c n)) g.marks (λ n h. ap not (one n h)) i })
  where
    of_c : Mark → Bool
    of_c m = same_curve (curve_of m.curve) c

    ms : List Mark
    ms = filter of_c g.marks

    one : (n : Mark) → Member n g.marks → list_any (λ m. this m n) ms ≡ of_c n
    one n h = elim (decide (of_c n)) [
      | inl e ↦ any_in (λ m. this m n) n ms (in_filter of_c n g.marks h e) (this_in n n refl) ∙ sym e
      | inr e ↦ not_any (list_any (λ m. this m n) ms) (λ t. let k = any_out (λ m. this m n) ms t in ap of_c (this_out k.0 n k.2) ∙ (of_filter of_c k.0 g.marks k.1).1) e
    ]
      where
        not_any : (b : Bool) → (b ≡ true → of_c n ≡ true) → of_c n ≡ false → b ≡ of_c n
        not_any true f e = sym (f refl)
        not_any false f e = sym e
