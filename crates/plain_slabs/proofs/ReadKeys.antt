-- What loops over forward darts in order read.
use Rattle.std.proofs.Common.{◌≡◌, ℕ, ◌<◌, true, List, length, get_or, sym, ap, ◌∙◌, subst}
use Rattle.plane_graphs.specs.Ascending.{Member}
use Rattle.plane_graphs.proofs.Lists.{of_map, of_filter}
use Rattle.slab_laws.specs.Sound.{IsGraphSound}
use Rattle.slab_laws.specs.View.{View, HasDart}
use Rattle.sound_views.specs.Orders.{dart_order}
use Rattle.sound_views.proofs.NamesOrdered.{ordered_dart}
use Rattle.record_orders.specs.declared.darts.DartKey.{DartKey}
use Rattle.record_orders.specs.Keys.{dart_key, dart_keys}
use Rattle.plane_graphs.proofs.Loops.{read_in}
use Rattle.plain_slabs.specs.ByName.{goes_forward, forward_keys}

-- a forward dart with the points of its ends
pub record IsForwardKey (v : View) (k : DartKey) : Type 0 where
  pub has : HasDart v k.name
  pub key : k ≡ dart_key v k.name
  pub forward : goes_forward k ≡ true

module _ (v : View) (s : IsGraphSound v) where
  pub forward_member : (k : DartKey) → Member k (forward_keys v) → IsForwardKey v k
  forward_member k m =
      let f = of_filter goes_forward k (dart_keys v) m in
      let w = of_map (dart_key v) k (dart_order v) f.0 in
      let same = sym (ap (λ (x : DartKey). x.name) w.2) in
      record { has = subst (HasDart v) same (ordered_dart v s w.0 w.1); key = w.2 ∙ ap (dart_key v) same; forward = f.1 }

  pub forward_there : (ks : List DartKey) (i : ℕ) (k : DartKey) → ks ≡ forward_keys v → i < length ks → k ≡ get_or ks i k → IsForwardKey v k
  forward_there ks i k is h e = forward_member k (subst (λ ls. Member k ls) is (read_in ks i k h e))
