-- The least of the darts that a walk has met, and at its end the least of the cycle.
use Rattle.std.proofs.Common.{◌≡◌, ◌≢◌, Bool, true, false, refl, sym, ap, ◌∙◌, subst, inl, inr, Ordering, Less, Equal, Greater, is_lt}
use Rattle.std.specs.Ordering.{ordering_reverse}
use Rattle.std.proofs.lemmas.Bool.{true≢false, or_cases}
use Rattle.plane_graphs.proofs.Ascending.{to_member}
use Rattle.slab_laws.specs.declared.names.DartId.{DartId}
use Rattle.slab_laws.specs.FacesSound.{lead_in}
use Rattle.slab_laws.specs.Rotation.{dart_cmp, dart_below, same_dart}
use Rattle.slab_laws.specs.Rows.{least_dart_of}
use Rattle.slab_laws.specs.Sound.{IsGraphSound, skeleton_of, dart_in}
use Rattle.slab_laws.specs.View.{View, HasDart}
use Rattle.slab_faces.proofs.DartOrder.{dart_cmp_total, dart_below_order, tied_darts, lead_lead}
use Rattle.slab_faces.proofs.NextLemmas.{darts_exact}
use Rattle.plane_graphs.proofs.Ascending.{from_member}
use Rattle.sound_views.proofs.CycleDartOrder.{lead_not_after}
use Rattle.sound_views.proofs.CycleDartOrder.{lead_in as lead_there}
use Rattle.sound_views.proofs.NamedDarts.{names_are_darts}
use Rattle.sound_views.proofs.NameTables.{names_exact}
use Rattle.boundary_cycles.specs.Counted.{is_on_cycle}
use Rattle.boundary_cycles.proofs.NamedWalks.{IsWalked, more}

-- it is on the cycle of d, and none of those met comes before it
pub record IsLeastMet (v : View) (d least : DartId) (seen : DartId → Bool) : Type 0 where
  pub there : HasDart v least
  pub on : lead_in v least ≡ lead_in v d
  pub none : (x : DartId) → seen x ≡ true → dart_below (dart_in v x) (dart_in v least) ≡ false

module _ (v : View) (s : IsGraphSound v) (d : DartId) (D : HasDart v d) where
  -- of d alone
  pub first_least : IsLeastMet v d d (more d (λ x. false))
  first_least = record { there = D; on = refl; none = λ x h. subst (λ y. dart_below (dart_in v y) (dart_in v d) ≡ false) (names_exact.path d x h) (dart_below_order.itself (dart_in v d)) }

  module _ (at least : DartId) (seen : DartId → Bool) (w : IsWalked v d at seen) (m : IsLeastMet v d least seen) where
    -- the dart is less than all
    pub less_more : dart_below (dart_in v at) (dart_in v least) ≡ true → IsLeastMet v d at (more at seen)
    less_more h = record {
      there = w.at_there;
      on = w.at_on;
      none = λ x k. elim (or_cases (seen x) _ k) [
        | inl t ↦ dart_below_order.down (dart_in v x) (dart_in v least) (dart_in v at) (m.none x t) (dart_below_order.asym (dart_in v at) (dart_in v least) h)
        | inr t ↦ subst (λ y. dart_below (dart_in v y) (dart_in v at) ≡ false) (names_exact.path at x t) (dart_below_order.itself (dart_in v at))
      ];
    }

    -- it isn't
    pub other_more : dart_below (dart_in v at) (dart_in v least) ≡ false → IsLeastMet v d least (more at seen)
    other_more h = record {
      there = m.there;
      on = m.on;
      none = λ x k. elim (or_cases (seen x) _ k) [
        | inl t ↦ m.none x t
        | inr t ↦ subst (λ y. dart_below (dart_in v y) (dart_in v least) ≡ false) (names_exact.path at x t) h
      ];
    }

  -- the least of all that are on the cycle
  pub is_least : (least : DartId) (seen : DartId → Bool) → IsLeastMet v d least seen → ((x : DartId) → HasDart v x → seen x ≡ is_on_cycle v d x) → dart_in v least ≡ lead_in v d
  is_least least seen m all =
      let g = skeleton_of v in
      let L = lead_there g s.plane (dart_in v d) (to_member _ _ (names_are_darts.known v d s D)) in
      let k = names_are_darts.there v (lead_in v d) s (from_member _ _ L) in
      let on : is_on_cycle v d k.0 ≡ true = subst (λ z. same_dart z (lead_in v d) ≡ true) (sym (ap (λ z. least_dart_of g z) k.2 ∙ lead_lead g (dart_in v d))) (darts_exact.itself (lead_in v d)) in
      let a : dart_below (lead_in v d) (dart_in v least) ≡ false = subst (λ z. dart_below z (dart_in v least) ≡ false) k.2 (m.none k.0 (all k.0 k.1 ∙ on)) in
      let b : dart_below (dart_in v least) (lead_in v d) ≡ false = subst (λ z. dart_below (dart_in v least) z ≡ false) m.on (lead_not_after g (dart_in v least)) in
      step (dart_cmp (dart_in v least) (lead_in v d)) refl a b (λ e. tied_darts g s.plane _ _ (to_member _ _ (names_are_darts.known v least s m.there)) L e)
    where
      step : (o : Ordering) → dart_cmp (dart_in v least) (lead_in v d) ≡ o → dart_below (lead_in v d) (dart_in v least) ≡ false → dart_below (dart_in v least) (lead_in v d) ≡ false → (dart_cmp (dart_in v least) (lead_in v d) ≡ Equal → dart_in v least ≡ lead_in v d) → dart_in v least ≡ lead_in v d
      step Less e a b f = absurd (true≢false (sym (ap is_lt e) ∙ b))
      step Equal e a b f = f e
      step Greater e a b f = absurd (true≢false (sym (ap is_lt (dart_cmp_total.antisymm (lead_in v d) (dart_in v least) ∙ ap ordering_reverse e)) ∙ a))
