-- Steps that are made one after the other, and the graph after them.
use Rattle.std.proofs.Common.{◌≡◌, ℕ, true, false, cond, sym, ap, ◌∙◌, subst, inl, inr}
use Rattle.std.specs.List.{list_any}
use Rattle.plane_graphs.specs.Ascending.{Member}
use Rattle.plane_graphs.specs.Graph.{Graph, Mark, is_at}
use Rattle.plane_graphs.proofs.Lists.{decide, some_of}
use Rattle.edit_steps.specs.Allowed.{IsAllowed, IsSound}
use Rattle.edit_steps.specs.Steps.{Step, AddCurve, AddEdge, more_step}
use Rattle.slab_laws.specs.declared.names.DartId.{DartId}
use Rattle.slab_laws.specs.View.{View}
use Rattle.arr_notes.specs.Curves.{Curves, AreCurvesOf, IsForward}

-- a curve along an edge
pub some_curve : (v : View) (h : Curves) (d : DartId) → AreCurvesOf v h → IsForward v d → (c : ℕ) × Member c (h d)
some_curve v h d a f = some_of (h d) (a.some d f)

-- ---- a mark more
module _ (m : Mark) where
  abbrev add_curve : Step
  add_curve = AddCurve m.low m.high m.curve

  abbrev add_edge : Step
  add_edge = AddEdge m.low m.high m.curve

  pub on_edge_there : (g : Graph) → list_any (is_at m.low m.high) g.marks ≡ true → more_step g m ≡ add_curve
  unfolding more_step
  on_edge_there g e = ap (λ b. cond b add_curve add_edge) e

  pub on_new_edge : (g : Graph) → list_any (is_at m.low m.high) g.marks ≡ false → more_step g m ≡ add_edge
  unfolding more_step
  on_new_edge g e = ap (λ b. cond b add_curve add_edge) e

  -- which of both it is shows by what the step asks
  pub one_step : (f g : Graph) → IsAllowed (more_step f m) g → more_step f m ≡ more_step g m
  unfolding IsAllowed
  one_step f g a = elim (decide (list_any (is_at m.low m.high) f.marks)) [
    | inl e ↦ on_edge_there f e ∙ sym (on_edge_there g (subst (λ s. IsAllowed s g) (on_edge_there f e) a).0)
    | inr e ↦ on_new_edge f e ∙ sym (on_new_edge g (subst (λ s. IsAllowed s g) (on_new_edge f e) a).3)
  ]

  pub sound_here : (f g : Graph) → IsSound (more_step f m) g → IsSound (more_step g m) g
  sound_here f g s = subst (λ t. IsSound t g) (one_step f g s.allowed) s
