-- Sorted dart keys are the darts by source, then by target.
use Rattle.std.proofs.Common.{◌≡◌, ℕ, ◌<◌, List, [], ◌∷◌, map, Ordering, refl, sym, ◌∙◌, subst, false}
use Rattle.std.specs.List.{AllByRecursion, IsDistinct}
use Rattle.std.specs.List.Sorted.{IsPermutation, IsSorted}
use Rattle.std.specs.Ordering.{ordering_then, nat_cmp, eq_by_cmp}
use Rattle.std.specs.Cmp.{IsTotalOrder, then_total, on_total, nat_cmp_total}
use Rattle.exact_plane.specs.PointOrder.{point_cmp}
use Rattle.exact_plane.specs.PointOrderLaws.{point_cmp_total}
use Rattle.plane_graphs.specs.Ascending.{IsAscending, Member}
use Rattle.plane_graphs.proofs.Ascending.{IsAscending-ascending}
use Rattle.plane_graphs.proofs.Lists.{in_map, of_map}
use Rattle.slab_laws.specs.Tables.{names, NamesAscend}
use Rattle.slab_laws.specs.declared.names.DartId.{DartId}
use Rattle.slab_laws.specs.Rotation.{dart_cmp}
use Rattle.slab_laws.specs.View.{View, dart_id, point_in, source_in, target_in}
use Rattle.slab_laws.specs.Sound.{dart_in, IsGraphSound}
use Rattle.slab_faces.proofs.DartOrder.{dart_cmp_total}
use Rattle.sound_views.specs.Orders.{dart_order}
use Rattle.sound_views.proofs.PulledOrders.{IsAscending-map}
use Rattle.sound_views.proofs.NamedDarts.{dart_name, named_dart, source_by, target_by}
use Rattle.sound_views.proofs.NamesOrdered.{dart_ordered, ordered_dart}
use Rattle.record_orders.specs.declared.darts.DartKey.{DartKey}
use Rattle.record_orders.specs.Keys.{dart_key, dart_keys}
use Rattle.record_orders.proofs.Sorting.{untied, sorted_is}
use Rattle.integers.proofs.Tests.{less_then, then_rest, not_tied}

-- by source, then by target, then by name
abbrev pub key_cmp : DartKey → DartKey → Ordering
key_cmp k m = ordering_then (point_cmp k.source m.source) (ordering_then (point_cmp k.target m.target) (nat_cmp k.name.0 m.name.0))

pub key_cmp_total : IsTotalOrder key_cmp
key_cmp_total = then_total (on_total (λ k. k.source) point_cmp_total) (then_total (on_total (λ k. k.target) point_cmp_total) (on_total (λ k. k.name.0) nat_cmp_total))

module _ (v : View) where
  abbrev all_names : List DartId
  all_names = map dart_id (names v.darts)

  differs : (n : ℕ) (ns : List ℕ) → AllByRecursion (λ m. n < m) ns → AllByRecursion (λ k. eq_by_cmp key_cmp (dart_key v (dart_id n)) k ≡ false) (map (dart_key v) (map dart_id ns))
  differs n [] a = tt
  differs n (m ∷ ms) a =
      let k : DartKey = dart_key v (dart_id n) in
      let l : DartKey = dart_key v (dart_id m) in
      let t : Ordering = point_cmp k.target l.target in
      (untied key_cmp key_cmp_total k l (λ e. not_tied n m a.0 (then_rest t (nat_cmp n m) (then_rest (point_cmp k.source l.source) (ordering_then t (nat_cmp n m)) e))), differs n ms a.1)

  distinct : (ns : List ℕ) → NamesAscend ns → IsDistinct (eq_by_cmp key_cmp) (map (dart_key v) (map dart_id ns))
  unfolding IsDistinct
  distinct [] a = tt
  distinct (n ∷ ns) a = (differs n ns a.0, distinct ns a.1)

  by_ends : (d e : DartId) → dart_cmp (dart_in v d) (dart_in v e) ≡ ordering_then (point_cmp (point_in v (source_in v d)) (point_in v (source_in v e))) (point_cmp (point_in v (target_in v d)) (point_in v (target_in v e)))
  by_ends d e =
      rw (source_by (point_in v (source_in v d)) (point_in v (target_in v d)), source_by (point_in v (source_in v e)) (point_in v (target_in v e)), target_by (point_in v (source_in v d)) (point_in v (target_in v d)), target_by (point_in v (source_in v e)) (point_in v (target_in v e))) refl

  module _ (s : IsGraphSound v) where
    pub ascends : IsAscending key_cmp (dart_keys v)
    unfolding dart_order
    ascends =
        IsAscending-map (λ d e. dart_cmp (dart_in v d) (dart_in v e)) key_cmp (dart_key v) (dart_order v) (λ d e m n h. less_then _ _ (nat_cmp d.0 e.0) (sym (by_ends d e) ∙ h))
        (IsAscending-ascending (λ d e. dart_cmp (dart_in v d) (dart_in v e)) (on_total (dart_in v) dart_cmp_total) all_names)

    there : (k : DartKey) → Member k (map (dart_key v) all_names) → Member k (dart_keys v)
    there k m =
        let w = of_map (dart_key v) k all_names m in
        subst (λ x. Member x (dart_keys v)) (sym w.2) (in_map (dart_key v) w.0 (dart_order v) (dart_ordered v s w.0 (named_dart v w.0 w.1)))

    back : (k : DartKey) → Member k (dart_keys v) → Member k (map (dart_key v) all_names)
    back k m =
        let w = of_map (dart_key v) k (dart_order v) m in
        subst (λ x. Member x (map (dart_key v) all_names)) (sym w.2) (in_map (dart_key v) w.0 all_names (dart_name v w.0 (ordered_dart v s w.0 w.1)))

    pub sorted_darts : (ks ms : List DartKey) → ks ≡ map (dart_key v) all_names → IsPermutation ks ms → IsSorted key_cmp ms → ms ≡ dart_keys v
    sorted_darts ks ms is p o =
        sorted_is key_cmp key_cmp_total (map (dart_key v) all_names) ms (dart_keys v) (distinct (names v.darts) s.named.darts) (subst (λ us. IsPermutation us ms) is p) o ascends there back
