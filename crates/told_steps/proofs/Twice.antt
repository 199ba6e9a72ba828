-- A dart x out of a vertex, the dart y after it and the dart z after that one, as calls read them.
use Rattle.std.proofs.Common.{◌≡◌, Bool, true, false, not, refl, sym, ap, ◌∙◌, subst}
use Rattle.plane_graphs.proofs.Lists.{clash}
use Rattle.slab_laws.specs.declared.names.DartId.{DartId}
use Rattle.slab_laws.specs.declared.names.VertexId.{VertexId}
use Rattle.slab_laws.specs.Sound.{IsGraphSound}
use Rattle.slab_laws.specs.View.{View, HasVertex, HasDart, IsOutOf, twin_in, target_in, next_in, line_in}
use Rattle.arr_notes.specs.AfterAround.{after_in}
use Rattle.arr_notes.specs.Curves.{is_forward}
use Rattle.rotation_order.proofs.Circuits.{after_out, read_after}
use Rattle.sound_changes.specs.ChangeFits.{FitsMerge}
use Rattle.told_steps.proofs.Straight.{through, comes_back, one_line_after, turns_back}

-- t is the twin of x and y what follows t, u is the twin of y and z what follows u
pub record AreRead (v : View) (x t y u z : DartId) : Type 0 where
  pub first_twin : t ≡ twin_in v x
  pub second : y ≡ next_in v t
  pub second_twin : u ≡ twin_in v y
  pub third : z ≡ next_in v u

pub read : (v : View) (x t y u z : DartId) → t ≡ twin_in v x → y ≡ next_in v t → u ≡ twin_in v y → z ≡ next_in v u → AreRead v x t y u z
read v x t y u z a b c d = record { first_twin = a; second = b; second_twin = c; third = d }

pub target_has : (v : View) (s : IsGraphSound v) (x : DartId) (w : VertexId) → HasDart v x → w ≡ target_in v x → HasVertex v w
target_has v s x w has e = subst (HasVertex v) (sym e) (s.linked.source (twin_in v x) (s.twinned.has x has))

pub second_out : (v : View) (w : VertexId) (s : IsGraphSound v) (x t y : DartId) → IsOutOf v w x → t ≡ twin_in v x → y ≡ next_in v t → IsOutOf v w y
second_out v w s x t y o e f = let k = after_out v s x o.0 x (o.0, refl) in subst (IsOutOf v w) (sym (read_after v x t y e f)) (k.0, k.1 ∙ o.1)

module _ (v : View) (w : VertexId) (s : IsGraphSound v) (x t y u z : DartId) (o : IsOutOf v w x) (r : AreRead v x t y u z) where
  second_is : y ≡ after_in v x
  second_is = read_after v x t y r.first_twin r.second

  third_is : z ≡ after_in v y
  third_is = read_after v y u z r.second_twin r.third

  -- what two edges that go straight through the vertex show
  pub third_first : (d n : DartId) → FitsMerge v w d n → z ≡ x
  third_first d n f = third_is ∙ ap (after_in v) second_is ∙ comes_back v w s d n f x o

  pub one_line_second : (d n : DartId) → FitsMerge v w d n → line_in v y ≡ line_in v x
  one_line_second d n f = ap (line_in v) second_is ∙ one_line_after v w s d n f x o

  pub second_turns : (d n : DartId) → FitsMerge v w d n → is_forward v y ≡ not (is_forward v x)
  second_turns d n f = ap (is_forward v) second_is ∙ turns_back v w s d n f x o

  -- and what shows that two edges do
  pub up_from_first : z ≡ x → line_in v y ≡ line_in v x → is_forward v x ≡ true → is_forward v y ≡ false → FitsMerge v w u x
  up_from_first e l up down = subst (λ k. FitsMerge v w k x) (sym r.second_twin) (through v w x y s o (second_out v w s x t y o r.first_twin r.second) (sym second_is) (sym third_is ∙ e) l up down)

  pub up_from_second : z ≡ x → line_in v y ≡ line_in v x → is_forward v x ≡ false → is_forward v y ≡ true → FitsMerge v w t y
  up_from_second e l down up = subst (λ k. FitsMerge v w k y) (sym r.first_twin) (through v w y x s (second_out v w s x t y o r.first_twin r.second) o (sym third_is ∙ e) (sym second_is) (sym l) up down)

-- both up, or both down: they don't go straight through
pub never_both : (v : View) (x y : DartId) (b : Bool) → is_forward v x ≡ b → is_forward v y ≡ b → is_forward v y ≡ not (is_forward v x) → ⊥
never_both v x y true e f q = clash f (q ∙ ap not e)
never_both v x y false e f q = clash (q ∙ ap not e) f
