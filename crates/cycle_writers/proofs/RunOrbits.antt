-- A run that comes back to its first dart is the orbit of that dart.
use Rattle.std.proofs.Common.{◌≡◌, ◌↔◌, true, refl, sym, ◌∙◌, subst, inl, inr, List}
use Rattle.std.specs.List.{Contains}
use Rattle.slab_laws.specs.declared.names.DartId.{DartId}
use Rattle.slab_laws.specs.FacesSound.{lead_in}
use Rattle.slab_laws.specs.Sound.{IsGraphSound}
use Rattle.slab_laws.specs.View.{View, HasDart, next_in}
use Rattle.slab_faces.proofs.Member.{member_in, in_member}
use Rattle.boundary_cycles.proofs.NamedWalks.{along, lead_step}
use Rattle.cycle_writers.specs.Runs.{IsRun}
use Rattle.cycle_writers.proofs.RunLists.{is_in, in_true, true_in, first_in, all_of, goes_on}

pub orbit : (v : View) (d : DartId) (ds : List DartId) → IsGraphSound v → HasDart v d → IsRun v d d ds → (k : DartId) → Contains ds k ↔ (HasDart v k × (lead_in v k ≡ lead_in v d))
orbit v d ds s D r k =
    let f = first_in v d d ds r in (
      λ c. all_of v d (λ x. HasDart v x × (lead_in v x ≡ lead_in v d)) (λ x h _. (s.linked.has x h.0, lead_step v s x h.0 ∙ h.1)) d ds r (D, refl) k (in_member ds k c),
      λ h. member_in ds k (true_in ds k (
          along v s (is_in ds)
          (λ x hx t. elim (goes_on v d d ds r x (true_in ds x t)) [ inl m ↦ in_true ds (next_in v x) m | inr e ↦ subst (λ z. is_in ds z ≡ true) (sym e) (in_true ds d f) ])
          k d h.0 D h.1 ∙ in_true ds d f
          )),
    )
