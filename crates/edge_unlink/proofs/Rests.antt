-- The dart that is left at a vertex when one goes.
use Rattle.std.proofs.Common.{◌≡◌, ◌≢◌, Some, None, refl, sym, subst}
use Rattle.slab_laws.specs.declared.names.DartId.{DartId}
use Rattle.slab_laws.specs.Sound.{IsGraphSound}
use Rattle.slab_laws.specs.View.{View, HasDart, IsOutOf, source_in}
use Rattle.dcel_records.specs.Outs.{IsRest}
use Rattle.arr_notes.specs.AfterAround.{after_in}
use Rattle.rotation_order.proofs.Circuits.{after_out, alone}

module _ (v : View) (s : IsGraphSound v) (d : DartId) (has : HasDart v d) where
  pub rest_none : after_in v d ≡ d → IsRest v d None
  rest_none q = record { some = λ e k. absurd (cc); none = λ k. alone v s d has q }

  pub rest_there : (e : DartId) → e ≡ after_in v d → e ≢ d → IsRest v d (Some e)
  rest_there e q ne = record {
    some = λ f k. let r : e ≡ f = cc in subst (λ z. IsOutOf v (source_in v d) z × (z ≢ d)) r (subst (λ z. IsOutOf v (source_in v d) z) (sym q) (after_out v s d has d (has, refl)), ne);
    none = λ k. absurd (cc);
  }
