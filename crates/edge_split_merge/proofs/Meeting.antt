-- The two darts that leave a vertex where two edges may become one.
use Rattle.std.proofs.Common.{◌≡◌, ◌≢◌, inl, inr, true, false, sym, ap, subst, ◌∙◌}
use Rattle.plane_graphs.specs.Line.{precedes}
use Rattle.plane_graphs.proofs.Lists.{clash}
use Rattle.plane_graphs.proofs.Order.{lt_out, lt_both}
use Rattle.slab_laws.specs.declared.names.DartId.{DartId}
use Rattle.slab_laws.specs.declared.names.VertexId.{VertexId}
use Rattle.slab_laws.specs.Sound.{IsGraphSound}
use Rattle.slab_laws.specs.View.{View, HasVertex, HasDart, IsOutOf, point_in, source_in, twin_in, target_in}
use Rattle.arr_notes.specs.AfterAround.{after_in}
use Rattle.sound_changes.specs.ChangeFits.{FitsMerge}
use Rattle.sound_changes.proofs.MergedRing.{after_n, after_t}

module _ (v : View) (w : VertexId) (s : IsGraphSound v) (d n : DartId) (f : FitsMerge v w d n) where
  abbrev t : DartId
  t = twin_in v d

  t_has : HasDart v t
  t_has = s.twinned.has d f.first

  pub vertex_has : HasVertex v w
  vertex_has = subst (HasVertex v) f.leaves (s.linked.source n f.second)

  t_reaches : target_in v t ≡ source_in v d
  t_reaches = ap (source_in v) (s.twinned.back d f.first)

  before : precedes (point_in v (source_in v d)) (point_in v w) ≡ true
  before = subst (λ z. precedes (point_in v (source_in v d)) (point_in v z) ≡ true) f.arrives f.first_forward

  behind : precedes (point_in v w) (point_in v (target_in v n)) ≡ true
  behind = subst (λ z. precedes (point_in v z) (point_in v (target_in v n)) ≡ true) f.leaves f.second_forward

  not_up : precedes (point_in v w) (point_in v (target_in v t)) ≡ true → ⊥
  not_up q = lt_both (lt_out (point_in v (source_in v d)) (point_in v w) before) (lt_out (point_in v w) (point_in v (source_in v d)) (subst (λ z. precedes (point_in v w) (point_in v z) ≡ true) t_reaches q))

  t_n : t ≢ n
  t_n q = not_up (subst (λ z. precedes (point_in v w) (point_in v (target_in v z)) ≡ true) (sym q) behind)

  -- each comes after the other
  n_then_t : after_in v n ≡ t
  n_then_t = after_n v w s d n f

  t_then_n : after_in v t ≡ n
  t_then_n = after_t v w s d n f

  pub after_has : (x : DartId) → IsOutOf v w x → HasDart v (after_in v x)
  after_has x o = elim (f.only x o.0 o.1) [
    | inl q ↦ subst (λ z. HasDart v z) (sym (ap (after_in v) q ∙ n_then_t)) t_has
    | inr q ↦ subst (λ z. HasDart v z) (sym (ap (after_in v) q ∙ t_then_n)) f.second
  ]

  pub found_up : (x y z : DartId) → IsOutOf v w x → precedes (point_in v w) (point_in v (target_in v x)) ≡ true → y ≡ after_in v x → z ≡ twin_in v y → FitsMerge v w z x
  found_up x y z o b qy qz = elim (f.only x o.0 o.1) [
    | inl q ↦
        let e : z ≡ d = qz ∙ ap (twin_in v) (qy ∙ ap (after_in v) q ∙ n_then_t) ∙ s.twinned.back d f.first in
        subst (λ a. FitsMerge v w a x) (sym e) (subst (λ a. FitsMerge v w d a) (sym q) f)
    | inr q ↦ absurd (not_up (subst (λ a. precedes (point_in v w) (point_in v (target_in v a)) ≡ true) q b))
  ]

  pub found_down : (x y z : DartId) → IsOutOf v w x → precedes (point_in v w) (point_in v (target_in v x)) ≡ false → y ≡ after_in v x → z ≡ twin_in v x → FitsMerge v w z y
  found_down x y z o b qy qz = elim (f.only x o.0 o.1) [
    | inl q ↦ clash behind (subst (λ a. precedes (point_in v w) (point_in v (target_in v a)) ≡ false) q b)
    | inr q ↦
        let e : z ≡ d = qz ∙ ap (twin_in v) q ∙ s.twinned.back d f.first in
        subst (λ a. FitsMerge v w a y) (sym e) (subst (λ a. FitsMerge v w d a) (sym (qy ∙ ap (after_in v) q ∙ t_then_n)) f)
  ]

  -- ---- what the writers need
  pub ends_apart : source_in v n ≢ target_in v n
  ends_apart q =
      let k : precedes (point_in v w) (point_in v w) ≡ true = subst (λ z. precedes (point_in v w) (point_in v z) ≡ true) (sym q ∙ f.leaves) behind in
      lt_both (lt_out (point_in v w) (point_in v w) k) (lt_out (point_in v w) (point_in v w) k)

  pub two_out : t ≢ n
  two_out = t_n

  pub far_apart : target_in v n ≢ w
  far_apart q = ends_apart (f.leaves ∙ sym q)
