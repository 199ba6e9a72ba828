-- Going once round a vertex of a sound view in search of a dart to a point: what has been passed doesn't lead there.
use Rattle.std.proofs.Common.{◌≡◌, ◌≢◌, true, inl, inr, sym, ap, ◌∙◌}
use Rattle.std.proofs.lemmas.Bool.{cases_eq}
use Rattle.exact_plane.specs.Point.{Point}
use Rattle.rotation_order.specs.RingOrder.{sooner_by}
use Rattle.slab_laws.specs.declared.names.DartId.{DartId}
use Rattle.slab_laws.specs.Rotation.{earlier}
use Rattle.slab_laws.specs.Sound.{dart_in, IsGraphSound}
use Rattle.slab_laws.specs.View.{View, HasDart, IsOutOf, dart_id, point_in, source_in, target_in}
use Rattle.arr_notes.specs.AfterAround.{after_in}
use Rattle.rotation_order.proofs.Circuits.{first_met, last_met, none_between}

-- clockwise from just after d, no dart that is met before x leads to u
abbrev pub NoneTo : View → DartId → Point → DartId → Type 0
NoneTo v d u x = (c : DartId) → IsOutOf v (source_in v d) c → sooner_by earlier (dart_in v d) (dart_in v c) (dart_in v x) ≡ true → point_in v (target_in v c) ≢ u

module _ (v : View) (s : IsGraphSound v) (d : DartId) (has : HasDart v d) (u : Point) where
  pub none_yet : NoneTo v d u (after_in v d)
  none_yet c o h = absurd (first_met v s d has c o h)

  pub one_more : (x : DartId) → IsOutOf v (source_in v d) x → x ≢ d → point_in v (target_in v x) ≢ u → NoneTo v d u x → NoneTo v d u (after_in v x)
  one_more x o other miss p c oc h =
      elim (cases_eq c.0 x.0) [
        | inl q ↦ λ e. miss (ap (λ n. point_in v (target_in v (dart_id n))) (sym q) ∙ e)
        | inr ne ↦ p c oc (none_between v s d has x o other c oc (λ q. ne (ap (λ z. z.0) q)) h)
      ]

  -- d itself is met last
  pub none_at_all : point_in v (target_in v d) ≢ u → NoneTo v d u d → (c : DartId) → IsOutOf v (source_in v d) c → point_in v (target_in v c) ≢ u
  none_at_all miss p c oc =
      elim (cases_eq c.0 d.0) [
        | inl q ↦ λ e. miss (ap (λ n. point_in v (target_in v (dart_id n))) (sym q) ∙ e)
        | inr ne ↦ p c oc (last_met v s d has c oc (λ q. ne (ap (λ z. z.0) q)))
      ]
