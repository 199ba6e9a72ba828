-- Two cycles that are united where an edge goes: the run from what followed one of its darts up to what followed the other is the rest of the cycle of the first.
use Rattle.std.proofs.Common.{◌≡◌, ◌≢◌, ◌↔◌, Bool, true, refl, sym, ap, ◌∙◌, subst, inl, inr, List}
use Rattle.std.specs.Prelude.{◌||◌}
use Rattle.std.specs.List.{Contains}
use Rattle.std.proofs.lemmas.Bool.{or_cases, or_left, or_right}
use Rattle.slab_laws.specs.declared.names.DartId.{DartId}
use Rattle.slab_laws.specs.declared.names.VertexId.{VertexId}
use Rattle.slab_laws.specs.FacesSound.{lead_in}
use Rattle.slab_laws.specs.View.{View, Faces, HasDart, next_in, cycle_in}
use Rattle.slab_faces.proofs.Member.{Member, member_in, in_member}
use Rattle.arr_notes.specs.CycleNames.{same_name}
use Rattle.arr_notes.proofs.Names.{cases_dart}
use Rattle.sound_views.proofs.NameTables.{names_exact}
use Rattle.boundary_cycles.proofs.NamedWalks.{along, lead_step}
use Rattle.face_steps.specs.StepPremises.{IsBetween}
use Rattle.face_steps.specs.Tabled.{AreTabled}
use Rattle.face_steps.proofs.EdgePairs.{up}
use Rattle.cycle_writers.specs.RunLaws.{RunsAreCycles}
use Rattle.cycle_writers.specs.Runs.{IsRun}
use Rattle.cycle_writers.proofs.FollowsMore.{turned, follows, one_before, past_first, one_below}
use Rattle.cycle_writers.proofs.RunLists.{is_in, in_true, true_in, first_in, all_of, goes_on}
use Rattle.cycle_writers.proofs.RunOrbits.{orbit}
use Rattle.cycle_writers.proofs.RunsJoined.{together, joined}

module _ (v w : View) (s : Faces) (x y : DartId) (p q : VertexId) (a b : DartId) (t : IsBetween v w x y p q a b) (h : AreTabled w s) (two : cycle_in s x ≢ cycle_in s y) where
  apart : lead_in w x ≢ lead_in w y
  apart e = two ((h.cycled.orbits x y t.edge.more.first t.edge.more.second).1 e)

  end : next_in v a ≡ next_in w y
  end = past_first v w x y p q a b t

  begin : next_in v b ≡ next_in w x
  begin = past_first v w y x q p b a (turned v w x y p q a b t)

  has_first : HasDart v (next_in w x)
  has_first = subst (HasDart v) begin (t.edge.sound.linked.has b t.second)

  pub apart_below : HasDart v (next_in w x) × HasDart v (next_in w y) × (lead_in v (next_in w x) ≡ lead_in v (next_in w y))
  apart_below = (
    has_first,
    subst (HasDart v) end (t.edge.sound.linked.has a t.first),
    sym (ap (lead_in v) begin) ∙ lead_step v t.edge.sound b t.second ∙ sym (one_below v w x y p q a b t apart) ∙ sym (lead_step v t.edge.sound a t.first) ∙ ap (lead_in v) end,
  )

  abbrev IsOn : DartId → Type 0
  IsOn k = HasDart v k × (lead_in w k ≡ lead_in w x)

  next_on : (k : DartId) → HasDart w k → lead_in w k ≡ lead_in w x → lead_in w (next_in w k) ≡ lead_in w x
  next_on k o e = lead_step w t.edge.sound_more k o ∙ e

  -- the other dart isn't on this cycle
  goes : (k : DartId) → IsOn k → next_in w k ≢ x → next_in v k ≡ next_in w k
  goes k o n = follows v w x y p q t.line t.edge k o.0 n (λ e. apart (sym (next_on k (up v w x y p q t.line t.edge k o.0) o.1) ∙ ap (lead_in w) e))

  -- the last one
  last : (k : DartId) → HasDart v k → next_in w k ≡ x → next_in v k ≡ next_in w y
  last k o e = ap (next_in v) (one_before v w x y p q t.line t.edge k a o t.first t.after_first e) ∙ end

  step : (k : DartId) → IsOn k → next_in v k ≢ next_in w y → IsOn (next_in v k)
  step k o n =
      let e = goes k o (λ i. n (last k o.0 i)) in
      (t.edge.sound.linked.has k o.0, ap (lead_in w) e ∙ next_on k (up v w x y p q t.line t.edge k o.0) o.1)

  module _ (ds : List DartId) (r : IsRun v (next_in w x) (next_in w y) ds) where
    each_on : (k : DartId) → Member ds k → IsOn k
    each_on k m = all_of v (next_in w y) IsOn step (next_in w x) ds r (has_first, next_on x t.edge.more.first refl) k m

    begins : Member ds (next_in w x)
    begins = first_in v (next_in w y) (next_in w x) ds r

    abbrev or_first : DartId → Bool
    or_first k = is_in ds k || same_name x k

    from_run : (k : DartId) → Member ds k → or_first (next_in w k) ≡ true
    from_run k m = elim (cases_dart (next_in w k) x) [
      | inl e ↦ or_right (is_in ds (next_in w k)) (same_name x (next_in w k)) (subst (λ z. same_name x z ≡ true) (sym e) (names_exact.itself x))
      | inr n ↦
          let o = each_on k m in
          let e : next_in v k ≡ next_in w k = goes k o n in
          or_left (is_in ds (next_in w k)) (same_name x (next_in w k)) (elim (goes_on v (next_in w y) (next_in w x) ds r k m) [
            | inl z ↦ subst (λ z. is_in ds z ≡ true) e (in_true ds (next_in v k) z)
            | inr i ↦ absurd (n (ap (next_in w) (t.edge.sound.linked.once k a o.0 t.first (i ∙ sym end)) ∙ t.after_first))
          ])
    ]

    closed : (k : DartId) → HasDart w k → or_first k ≡ true → or_first (next_in w k) ≡ true
    closed k o z = elim (or_cases (is_in ds k) (same_name x k) z) [
      | inl i ↦ from_run k (true_in ds k i)
      | inr i ↦ or_left (is_in ds (next_in w k)) (same_name x (next_in w k)) (subst (λ j. is_in ds (next_in w j) ≡ true) (names_exact.path x k i) (in_true ds (next_in w x) begins))
    ]

    pub united : (k : DartId) → Contains ds k ↔ (HasDart v k × (cycle_in s k ≡ cycle_in s x))
    united k = (
      λ c. let o = each_on k (in_member ds k c) in (o.0, (h.cycled.orbits k x (up v w x y p q t.line t.edge k o.0) t.edge.more.first).1 o.1),
      λ o.
          let K = up v w x y p q t.line t.edge k o.0 in
          let e : or_first k ≡ true = along w t.edge.sound_more or_first closed k x K t.edge.more.first ((h.cycled.orbits k x K t.edge.more.first).0 o.1) ∙ or_right (is_in ds x) (same_name x x) (names_exact.itself x) in
          elim (or_cases (is_in ds k) (same_name x k) e) [
            | inl z ↦ member_in ds k (true_in ds k z)
            | inr z ↦ absurd (t.edge.more.first_new (subst (HasDart v) (sym (names_exact.path x k z)) o.0))
          ],
    )

pub runs_are_cycles : RunsAreCycles
runs_are_cycles = record {
  orbit = λ v d ds s D r. orbit v d ds s D r;
  together = λ v w f d m p q a b t h two. together v w f d m p q a b t h two;
  joined = λ v w f d m p q a b ds t h two r. joined v w f d m p q a b t h two ds r;
  apart = λ v w s d m p q a b t h two. apart_below v w s d m p q a b t h two;
  united = λ v w s d m p q a b ds t h two r. united v w s d m p q a b t h two ds r;
}
