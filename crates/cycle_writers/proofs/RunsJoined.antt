-- Two cycles that an edge joins: the run from what follows one of its darts up to the other is one of them.
use Rattle.std.proofs.Common.{◌≡◌, ◌≢◌, ◌↔◌, sym, ap, ◌∙◌, subst, inl, inr, List}
use Rattle.std.specs.List.{Contains}
use Rattle.slab_laws.specs.declared.names.DartId.{DartId}
use Rattle.slab_laws.specs.declared.names.VertexId.{VertexId}
use Rattle.slab_laws.specs.FacesSound.{lead_in}
use Rattle.slab_laws.specs.View.{View, Faces, HasDart, next_in, cycle_in}
use Rattle.slab_faces.proofs.Member.{Member, member_in, in_member}
use Rattle.boundary_cycles.proofs.NamedWalks.{along, lead_step}
use Rattle.face_steps.specs.StepPremises.{IsBetween}
use Rattle.face_steps.specs.Tabled.{AreTabled}
use Rattle.cycle_writers.specs.Runs.{IsRun}
use Rattle.cycle_writers.proofs.FollowsMore.{turned, follows, one_before, past_first, one_above}
use Rattle.cycle_writers.proofs.RunLists.{is_in, in_true, true_in, first_in, all_of, goes_on}

module _ (v w : View) (f : Faces) (x y : DartId) (p q : VertexId) (a b : DartId) (t : IsBetween v w x y p q a b) (h : AreTabled v f) (two : cycle_in f a ≢ cycle_in f b) where
  apart : lead_in v a ≢ lead_in v b
  apart e = two ((h.cycled.orbits a b t.first t.second).1 e)

  pub together : HasDart w (next_in w x) × (lead_in w (next_in w x) ≡ lead_in w y)
  together = (t.edge.sound_more.linked.has x t.edge.more.first, lead_step w t.edge.sound_more x t.edge.more.first ∙ one_above v w x y p q a b t apart)

  begin : next_in v b ≡ next_in w x
  begin = past_first v w y x q p b a (turned v w x y p q a b t)

  abbrev IsOn : DartId → Type 0
  IsOn k = HasDart v k × (lead_in v k ≡ lead_in v b)

  first_on : IsOn (next_in w x)
  first_on = subst IsOn begin (t.edge.sound.linked.has b t.second, lead_step v t.edge.sound b t.second)

  not_first : (k : DartId) → IsOn k → next_in w k ≢ x
  not_first k o e = apart (sym (ap (lead_in v) (one_before v w x y p q t.line t.edge k a o.0 t.first t.after_first e)) ∙ o.1)

  goes : (k : DartId) → IsOn k → next_in w k ≢ y → next_in v k ≡ next_in w k
  goes k o n = follows v w x y p q t.line t.edge k o.0 (not_first k o) n

  step : (k : DartId) → IsOn k → next_in w k ≢ y → IsOn (next_in w k)
  step k o n = subst IsOn (goes k o n) (t.edge.sound.linked.has k o.0, lead_step v t.edge.sound k o.0 ∙ o.1)

  module _ (ds : List DartId) (r : IsRun w (next_in w x) y ds) where
    each_on : (k : DartId) → Member ds k → IsOn k
    each_on k m = all_of w y IsOn step (next_in w x) ds r first_on k m

    begins : Member ds (next_in w x)
    begins = first_in w y (next_in w x) ds r

    closed : (k : DartId) → Member ds k → Member ds (next_in v k)
    closed k m = elim (goes_on w y (next_in w x) ds r k m) [
      | inl z ↦ subst (Member ds) (sym (goes k (each_on k m) (λ e. t.edge.more.second_new (subst (HasDart v) e (each_on (next_in w k) z).0)))) z
      | inr e ↦
          let o = each_on k m in
          let u = turned v w x y p q a b t in
          let i : k ≡ b = one_before v w y x q p u.line u.edge k b o.0 t.second t.after_second e in
          subst (Member ds) (sym (ap (next_in v) i ∙ begin)) begins
    ]

    pub joined : (k : DartId) → Contains ds k ↔ (HasDart v k × (cycle_in f k ≡ cycle_in f b))
    joined k = (
      λ c. let o = each_on k (in_member ds k c) in (o.0, (h.cycled.orbits k b o.0 t.second).1 o.1),
      λ o.
          let e : lead_in v k ≡ lead_in v (next_in w x) = (h.cycled.orbits k b o.0 t.second).0 o.1 ∙ sym first_on.1 in
          member_in ds k (true_in ds k (along v t.edge.sound (is_in ds) (λ j hj z. in_true ds (next_in v j) (closed j (true_in ds j z))) k (next_in w x) o.0 first_on.0 e ∙ in_true ds (next_in w x) begins)),
    )
