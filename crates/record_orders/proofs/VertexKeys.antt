-- Sorted vertex keys are the vertices in point order.
use Rattle.std.proofs.Common.{◌≡◌, ℕ, ◌<◌, List, [], ◌∷◌, map, Ordering, Equal, eqb, ◌&&◌, sym, ap, ap₂, ◌∙◌, subst, false}
use Rattle.std.specs.List.{AllByRecursion, IsDistinct}
use Rattle.std.specs.List.Sorted.{IsPermutation, IsSorted}
use Rattle.std.specs.Ordering.{ordering_then, nat_cmp, eq_by_cmp}
use Rattle.std.specs.Cmp.{IsTotalOrder, then_total, on_total, nat_cmp_total}
use Rattle.exact_plane.specs.Point.{point_eq}
use Rattle.exact_plane.specs.PointOrder.{point_cmp}
use Rattle.exact_plane.specs.PointOrderLaws.{point_cmp_total, point_cmp_ties, same_point}
use Rattle.plane_graphs.specs.Ascending.{IsAscending, Member}
use Rattle.plane_graphs.proofs.Ascending.{IsAscending-ascending}
use Rattle.plane_graphs.proofs.Lists.{in_map, of_map}
use Rattle.slab_laws.specs.Tables.{names, NamesAscend}
use Rattle.slab_laws.specs.declared.names.VertexId.{VertexId}
use Rattle.slab_laws.specs.View.{View, vertex_id, point_in}
use Rattle.slab_laws.specs.Sound.{IsGraphSound}
use Rattle.sound_views.specs.Orders.{vertex_order}
use Rattle.sound_views.proofs.PulledOrders.{IsAscending-map}
use Rattle.sound_views.proofs.NamedDarts.{vertex_name, named_vertex}
use Rattle.sound_views.proofs.NamesOrdered.{vertex_ordered, ordered_vertex}
use Rattle.record_orders.specs.declared.vertices.VertexKey.{VertexKey}
use Rattle.record_orders.specs.Keys.{vertex_key, vertex_keys}
use Rattle.record_orders.proofs.Sorting.{untied, sorted_is}
use Rattle.integers.proofs.Classes.{then_equal}
use Rattle.integers.proofs.Tests.{then_rest, not_tied, nat_exact, number_ties, both_equal}

-- by point, then by name
abbrev pub key_cmp : VertexKey → VertexKey → Ordering
key_cmp k m = ordering_then (point_cmp k.point m.point) (nat_cmp k.name.0 m.name.0)

pub key_cmp_total : IsTotalOrder key_cmp
key_cmp_total = then_total (on_total (λ k. k.point) point_cmp_total) (on_total (λ k. k.name.0) nat_cmp_total)

-- keys that no test tells apart are one
pub key_ties : (x y : VertexKey) → point_eq x.point y.point && eqb x.name.0 y.name.0 ≡ eq_by_cmp key_cmp x y
key_ties x y = ap₂ ◌&&◌ (point_cmp_ties x.point y.point) (number_ties x.name.0 y.name.0) ∙ both_equal (point_cmp x.point y.point) (nat_cmp x.name.0 y.name.0)

pub key_exact : (x y : VertexKey) → key_cmp x y ≡ Equal → x ≡ y
key_exact x y e =
    let both = then_equal (point_cmp x.point y.point) (nat_cmp x.name.0 y.name.0) e in
    let at = same_point x.point y.point both.0 in
    let named = nat_exact x.name.0 y.name.0 both.1 in
    λ i. record { point = at i; name = record { 0 = named i } }

module _ (v : View) where
  abbrev all_names : List VertexId
  all_names = map vertex_id (names v.vertices)

  differs : (n : ℕ) (ns : List ℕ) → AllByRecursion (λ m. n < m) ns → AllByRecursion (λ k. eq_by_cmp key_cmp (vertex_key v (vertex_id n)) k ≡ false) (map (vertex_key v) (map vertex_id ns))
  differs n [] a = tt
  differs n (m ∷ ms) a =
      let k : VertexKey = vertex_key v (vertex_id n) in
      let l : VertexKey = vertex_key v (vertex_id m) in
      (untied key_cmp key_cmp_total k l (λ e. not_tied n m a.0 (then_rest (point_cmp k.point l.point) (nat_cmp n m) e)), differs n ms a.1)

  distinct : (ns : List ℕ) → NamesAscend ns → IsDistinct (eq_by_cmp key_cmp) (map (vertex_key v) (map vertex_id ns))
  unfolding IsDistinct
  distinct [] a = tt
  distinct (n ∷ ns) a = (differs n ns a.0, distinct ns a.1)

  module _ (s : IsGraphSound v) where
    ascends : IsAscending key_cmp (vertex_keys v)
    unfolding vertex_order
    ascends =
        IsAscending-map (λ u w. point_cmp (point_in v u) (point_in v w)) key_cmp (vertex_key v) (vertex_order v) (λ u w m n e. ap (λ o. ordering_then o (nat_cmp u.0 w.0)) e)
        (IsAscending-ascending (λ u w. point_cmp (point_in v u) (point_in v w)) (on_total (point_in v) point_cmp_total) all_names)

    there : (k : VertexKey) → Member k (map (vertex_key v) all_names) → Member k (vertex_keys v)
    there k m =
        let w = of_map (vertex_key v) k all_names m in
        subst (λ x. Member x (vertex_keys v)) (sym w.2) (in_map (vertex_key v) w.0 (vertex_order v) (vertex_ordered v s w.0 (named_vertex v w.0 w.1)))

    back : (k : VertexKey) → Member k (vertex_keys v) → Member k (map (vertex_key v) all_names)
    back k m =
        let w = of_map (vertex_key v) k (vertex_order v) m in
        subst (λ x. Member x (map (vertex_key v) all_names)) (sym w.2) (in_map (vertex_key v) w.0 all_names (vertex_name v w.0 (ordered_vertex v s w.0 w.1)))

    pub sorted_vertices : (ks ms : List VertexKey) → ks ≡ map (vertex_key v) all_names → IsPermutation ks ms → IsSorted key_cmp ms → ms ≡ vertex_keys v
    sorted_vertices ks ms is p o =
        sorted_is key_cmp key_cmp_total (map (vertex_key v) all_names) ms (vertex_keys v) (distinct (names v.vertices) s.named.vertices) (subst (λ us. IsPermutation us ms) is p) o ascends there back
