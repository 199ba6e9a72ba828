-- The steps that make ascending points vertices: that of the first point, and then those of the others in the graph after it.
use Rattle.std.proofs.Common.{◌≡◌, List, [], ◌∷◌, ◌++◌, false, cond, not, refl, sym, ap, ap₂, ◌∙◌, subst, inl, inr, Less}
use Rattle.std.specs.List.{AllByRecursion, list_any}
use Rattle.exact_plane.specs.Point.{Point}
use Rattle.exact_plane.specs.PointOrder.{point_cmp}
use Rattle.exact_plane.specs.PointOrderLaws.{point_cmp_total, same_point as point_cmp_exact}
use Rattle.plane_graphs.specs.Ascending.{Member, place}
use Rattle.plane_graphs.specs.Graph.{Graph}
use Rattle.plane_graphs.specs.Line.{IsProper, same_point}
use Rattle.plane_graphs.proofs.Lists.{decide, both_ways, any_in, any_out, in_place, of_place, in_filter, clash}
use Rattle.plane_graphs.proofs.Order.{lt_never, same_out, same_itself}
use Rattle.edit_steps.specs.Allowed.{IsSound, AreSound}
use Rattle.edit_steps.specs.Steps.{Step, apply, vertex_step_by, vertex_steps, missing_points}
use Rattle.edit_steps.proofs.Split.{step_is}
use Rattle.slab_laws.specs.Sound.{IsGraphSound}
use Rattle.slab_laws.specs.View.{View}
use Rattle.arr_notes.specs.Curves.{Curves, AreCurvesOf, step_curves}
use Rattle.arr_notes.specs.Step.{step}
use Rattle.arr_notes.specs.RecordGraph.{drawn_graph}
use Rattle.sound_changes.specs.StepLaws.{IsApplied}
use Rattle.sound_changes.proofs.ChangesAreSteps.{changes_are_steps}
use Rattle.told_steps.specs.RecordLayers.{IsRunOfSteps}
use Rattle.segment_insert.specs.Coming.{steps_at}
use Rattle.segment_insert.proofs.VerticesFound.{proper_by_step}
use Rattle.integers.proofs.Tests.{not_true}

-- ---- points that are no vertices
any_none_in : (p : Point) (qs : List Point) → (Member p qs → ⊥) → list_any (same_point p) qs ≡ false
any_none_in p qs f = not_true (list_any (same_point p) qs) (λ k. let r = any_out (same_point p) qs k in f (subst (λ x. Member x qs) (sym (same_out p r.0 r.2)) r.1))

passed_over : (p : Point) (ps qs : List Point) → Member p qs → missing_points (p ∷ ps) qs ≡ missing_points ps qs
unfolding missing_points
passed_over p ps qs m = ap (λ b. cond (not b) (p ∷ missing_points ps qs) (missing_points ps qs)) (any_in (same_point p) p qs m (same_itself p))

kept_first : (p : Point) (ps qs : List Point) → (Member p qs → ⊥) → missing_points (p ∷ ps) qs ≡ p ∷ missing_points ps qs
unfolding missing_points
kept_first p ps qs f = ap (λ b. cond (not b) (p ∷ missing_points ps qs) (missing_points ps qs)) (any_none_in p qs f)

pub missing_in : (p : Point) (ps qs : List Point) → Member p ps → (Member p qs → ⊥) → Member p (missing_points ps qs)
unfolding missing_points
missing_in p ps qs m f = in_filter (λ r. not (list_any (same_point r) qs)) p ps m (ap not (any_none_in p qs f))

-- a point that isn't looked for may come
same_found : (p r : Point) (qs : List Point) → point_cmp p r ≡ Less → list_any (same_point r) (place point_cmp p qs) ≡ list_any (same_point r) qs
same_found p r qs l =
    both_ways (list_any (same_point r) (place point_cmp p qs)) (list_any (same_point r) qs)
    (λ k.
    let x = any_out (same_point r) (place point_cmp p qs) k in
    elim (of_place point_cmp point_cmp_total point_cmp_exact x.0 p qs x.1) [
      | inl e ↦ absurd (lt_never {p = p} (record { is = subst (λ z. point_cmp p z ≡ Less) (same_out r x.0 x.2 ∙ e) l }))
      | inr m ↦ any_in (same_point r) x.0 qs m x.2
    ])
    (λ k. let x = any_out (same_point r) qs k in any_in (same_point r) x.0 (place point_cmp p qs) (in_place point_cmp point_cmp_total point_cmp_exact x.0 p qs (inr x.1)) x.2)

missing_still : (p : Point) (ps qs : List Point) → AllByRecursion (λ r. point_cmp p r ≡ Less) ps → missing_points ps (place point_cmp p qs) ≡ missing_points ps qs
unfolding missing_points
missing_still p [] qs a = refl
missing_still p (r ∷ ps) qs a = ap₂ (λ b (rs : List Point). cond (not b) (r ∷ rs) rs) (same_found p r qs a.0) (missing_still p ps qs a.1)

-- ---- the graph after a step has the point
placed : (p : Point) (g : Graph) → (apply (vertex_step_by p g.marks) g).points ≡ place point_cmp p g.points
unfolding apply
placed p g = elim (step_is p g.marks) [ inl r ↦ ap (λ s. (apply s g).points) r.3 | inr r ↦ ap (λ s. (apply s g).points) r.1 ]

-- ---- steps one after the other
first_step : (p : Point) (ps : List Point) (g : Graph) → (Member p g.points → ⊥) → vertex_steps (missing_points (p ∷ ps) g.points) g ≡ vertex_step_by p g.marks ∷ vertex_steps (missing_points ps g.points) (apply (vertex_step_by p g.marks) g)
unfolding vertex_steps
first_step p ps g f = ap (λ rs. vertex_steps rs g) (kept_first p ps g.points f)

no_step : (p : Point) (ps : List Point) (g : Graph) → Member p g.points → vertex_steps (missing_points (p ∷ ps) g.points) g ≡ vertex_steps (missing_points ps g.points) g
no_step p ps g m = ap (λ rs. vertex_steps rs g) (passed_over p ps g.points m)

pub none_left : (f g : Graph) → vertex_steps (missing_points [] g.points) f ≡ []
unfolding missing_points vertex_steps
none_left f g = refl

-- the points that sound steps make vertices are points of the plane
pub proper_by_steps : (r : Point) (rs : List Point) (g : Graph) → AreSound (vertex_steps rs g) g → Member r rs → IsProper r
unfolding vertex_steps
proper_by_steps r [] g k m = absurd m
proper_by_steps r (p ∷ rs) g k (inl e) = subst IsProper (sym e) (proper_by_step p g k.0)
proper_by_steps r (p ∷ rs) g k (inr m) = proper_by_steps r rs (apply (vertex_step_by p g.marks) g) k.1 m

-- after the steps of the first point: the records are sound, and the steps of the others are those of the graph then
pub record IsTurn (v : View) (h : Curves) (p : Point) (ps : List Point) (w : View) (k : Curves) : Type 0 where
  pub sound : IsGraphSound w
  pub curves : AreCurvesOf w k
  pub plane : AreSound (steps_at v h (p ∷ ps)) (drawn_graph v h) → AreSound (steps_at w k ps) (drawn_graph w k)
  pub steps : steps_at v h (p ∷ ps) ≡ steps_at v h (p ∷ []) ++ steps_at w k ps

module _ (v : View) (h : Curves) (s : IsGraphSound v) (a : AreCurvesOf v h) (p : Point) (ps : List Point) (up : AllByRecursion (λ r. point_cmp p r ≡ Less) ps) where
  abbrev g : Graph
  g = drawn_graph v h

  -- the first point is a vertex: nothing is done
  module _ (there : Member p g.points) where
    none_first : steps_at v h (p ∷ []) ≡ []
    none_first = no_step p [] g there ∙ none_left g g

    same_turn : IsTurn v h p ps v h
    same_turn = record {
      sound = s;
      curves = a;
      plane = subst (λ ss. AreSound ss g) (no_step p ps g there);
      steps = no_step p ps g there ∙ sym (ap (λ ss. ss ++ steps_at v h ps) none_first);
    }

    stay_turn : (w : View) (k : Curves) → IsRunOfSteps v h [] w k → IsTurn v h p ps w k
    stay_turn w k m =
        let e : k ≡ h = λ i d. m.1 d i in
        subst (λ z. IsTurn v h p ps z k) (sym m.0) (subst (IsTurn v h p ps v) (sym e) same_turn)

  -- it is none: its step is made
  module _ (new : Member p g.points → ⊥) where
    abbrev one : Step
    one = vertex_step_by p g.marks

    one_first : steps_at v h (p ∷ []) ≡ one ∷ []
    one_first = first_step p [] g new ∙ ap (λ ss. one ∷ ss) (none_left (apply one g) g)

    after : (w : View) (k : Curves) → drawn_graph w k ≡ apply one g → steps_at w k ps ≡ vertex_steps (missing_points ps g.points) (apply one g)
    after w k e =
        ap (λ z. vertex_steps (missing_points ps z.points) z) e
        ∙ ap (λ qs. vertex_steps (missing_points ps qs) (apply one g)) (placed p g)
        ∙ ap (λ rs. vertex_steps rs (apply one g)) (missing_still p ps g.points up)

    made_turn : (w : View) (k : Curves) → IsRunOfSteps v h (one ∷ []) w k → IsTurn v h p ps w k
    made_turn w k m =
        let c = m.0 in
        let i : IsApplied v h m.0 = changes_are_steps v h m.0 s a m.1.fits in
        let q : w ≡ step v m.0 = m.2.0 in
        let e : k ≡ step_curves h m.0 = λ i d. m.2.1 d i in
        let drawn : drawn_graph w k ≡ apply one g = ap₂ drawn_graph q e ∙ i.graph ∙ ap (λ t. apply t g) m.1.tells in
        record {
          sound = subst IsGraphSound (sym q) m.1.sound;
          curves = subst (λ z. AreCurvesOf z k) (sym q) (subst (AreCurvesOf (step v m.0)) (sym e) i.curves);
          plane = λ y. subst (λ ss. AreSound ss (drawn_graph w k)) (sym (after w k drawn)) (subst (AreSound (vertex_steps (missing_points ps g.points) (apply one g))) (sym drawn) (subst (λ ss. AreSound ss g) (first_step p ps g new) y).1);
          steps = first_step p ps g new ∙ ap (λ ss. one ∷ ss) (sym (after w k drawn)) ∙ sym (ap (λ ss. ss ++ steps_at w k ps) one_first);
        }

  pub turn : (w : View) (k : Curves) → IsRunOfSteps v h (steps_at v h (p ∷ [])) w k → IsTurn v h p ps w k
  turn w k m =
      elim (decide (list_any (same_point p) g.points)) [
        | inl e ↦
            let r = any_out (same_point p) g.points e in
            let there : Member p g.points = subst (λ x. Member x g.points) (sym (same_out p r.0 r.2)) r.1 in
            stay_turn there w k (subst (λ ss. IsRunOfSteps v h ss w k) (none_first there) m)
        | inr e ↦
            let new : Member p g.points → ⊥ = λ n. clash (any_in (same_point p) p g.points n (same_itself p)) e in
            made_turn new w k (subst (λ ss. IsRunOfSteps v h ss w k) (one_first new) m)
      ]

  -- the step of the first point is sound, if all are
  pub first_sound : AreSound (steps_at v h (p ∷ ps)) g → AreSound (steps_at v h (p ∷ [])) g
  first_sound y =
      elim (decide (list_any (same_point p) g.points)) [
        | inl e ↦
            let r = any_out (same_point p) g.points e in
            let there : Member p g.points = subst (λ x. Member x g.points) (sym (same_out p r.0 r.2)) r.1 in
            subst (λ ss. AreSound ss g) (sym (none_first there)) tt
        | inr e ↦
            let new : Member p g.points → ⊥ = λ n. clash (any_in (same_point p) p g.points n (same_itself p)) e in
            subst (λ ss. AreSound ss g) (sym (one_first new)) ((subst (λ ss. AreSound ss g) (first_step p ps g new) y).0, tt)
      ]

  -- ---- the first steps of a vertex and of a new point
  pub none_there : Member p g.points → [] ≡ steps_at v h (p ∷ [])
  none_there there = sym (none_first there)

  pub one_there : (new : Member p g.points → ⊥) (t : Step) → vertex_step_by p g.marks ≡ t → t ∷ [] ≡ steps_at v h (p ∷ [])
  one_there new t e = ap (λ z. z ∷ []) (sym e) ∙ sym (one_first new)

  pub one_sound : (new : Member p g.points → ⊥) → AreSound (steps_at v h (p ∷ [])) g → IsSound (vertex_step_by p g.marks) g
  one_sound new y = (subst (λ ss. AreSound ss g) (one_first new) y).0
