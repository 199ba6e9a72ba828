-- Sorted keys of darts from the lower to the upper end are in the order of their edges.
use Rattle.std.proofs.Common.{◌≡◌, List, [], ◌∷◌, map, false, nat_eq, is_eq, Ordering, Less, Equal, Greater, refl, sym, ap, ap₂, ◌∙◌, subst, inl, inr}
use Rattle.std.specs.Prelude.{◌↔◌, ◌⊎◌}
use Rattle.std.specs.List.{AllByRecursion, IsDistinct}
use Rattle.std.specs.List.Sorted.{IsPermutation, IsSorted}
use Rattle.std.specs.Ordering.{ordering_then, eq_by_cmp, nat_cmp}
use Rattle.std.proofs.lemmas.Bool.{eq-eqb}
use Rattle.std.proofs.lemmas.Cmp.{tied_itself}
use Rattle.plane_graphs.specs.Ascending.{Member, IsAscending, ascending}
use Rattle.plane_graphs.specs.Graph.{edge_cmp}
use Rattle.plane_graphs.proofs.Ascending.{All-member, IsAscending-ascending}
use Rattle.plane_graphs.proofs.Lists.{clash, in_map, of_map, in_ascending, of_ascending}
use Rattle.plane_graphs.proofs.Meaning.{edge_cmp_exact}
use Rattle.plane_graphs.proofs.Order.{curve_out}
use Rattle.slab_laws.specs.declared.names.DartId.{DartId}
use Rattle.slab_laws.specs.Sound.{IsGraphSound}
use Rattle.slab_laws.specs.View.{View, HasDart, dart_id}
use Rattle.sound_views.proofs.NamedDarts.{by_points}
use Rattle.sound_views.proofs.PulledOrders.{IsAscending-map}
use Rattle.arr_notes.specs.Curves.{IsForward}
use Rattle.record_orders.specs.declared.darts.DartKey.{DartKey}
use Rattle.record_orders.specs.Keys.{dart_key}
use Rattle.record_orders.proofs.DartKeys.{key_cmp, key_cmp_total}
use Rattle.record_orders.proofs.Sorting.{all_members, untied, sorted_is}
use Rattle.record_orders.specs.Edges.{edge_of_key}
use Rattle.integers.proofs.Tests.{then_rest}

-- the first two decide, or both are ties
two_of : (r s t : Ordering) → ordering_then r (ordering_then s t) ≡ Less → (ordering_then r s ≡ Less) ⊎ (ordering_then r s ≡ Equal)
two_of Less s t e = inl refl
two_of Equal Less t e = inl refl
two_of Equal Equal t e = inr refl
two_of Equal Greater t e = cc
two_of Greater s t e = cc

all_three : (r s t : Ordering) → ordering_then r (ordering_then s t) ≡ Equal → ordering_then r s ≡ Equal
all_three Less s t e = cc
all_three Equal Less t e = cc
all_three Equal Equal t e = refl
all_three Equal Greater t e = cc
all_three Greater s t e = cc

key_cmp_exact : (k m : DartKey) → key_cmp k m ≡ Equal → k ≡ m
unfolding edge_cmp
key_cmp_exact k m e =
    let ends = edge_cmp_exact (edge_of_key k) (edge_of_key m) (all_three _ _ (nat_cmp k.name.0 m.name.0) e) in
    let name = curve_out k.name.0 m.name.0 (ap is_eq (then_rest _ _ (then_rest _ _ e))) in
    λ i. record { source = (ends i).low; target = (ends i).high; name = dart_id (name i) }

less_itself : (k : DartKey) → key_cmp k k ≡ Less → ⊥
less_itself k e = let t = tied_itself key_cmp_total k in cc

pub have : (v : View) (ds : List DartId) → AllByRecursion (λ x. IsForward v x) ds → AllByRecursion (λ x. HasDart v x) ds
have v [] f = tt
have v (d ∷ ds) f = (f.0.0, have v ds f.1)

module _ (v : View) (s : IsGraphSound v) where
  -- no two darts have the same ends
  same_ends : (d e : DartId) → HasDart v d → HasDart v e → edge_cmp (edge_of_key (dart_key v d)) (edge_of_key (dart_key v e)) ≡ Equal → d ≡ e
  same_ends d e has_d has_e t =
      let ends = edge_cmp_exact (edge_of_key (dart_key v d)) (edge_of_key (dart_key v e)) t in
      s.turned.differ d e has_d has_e (ap₂ by_points (ap (λ z. z.low) ends) (ap (λ z. z.high) ends))

  told_apart : (d e : DartId) → HasDart v d → HasDart v e → nat_eq d.0 e.0 ≡ false → eq_by_cmp key_cmp (dart_key v d) (dart_key v e) ≡ false
  unfolding edge_cmp
  told_apart d e has_d has_e n =
      untied key_cmp key_cmp_total (dart_key v d) (dart_key v e) (λ t.
      let same : d ≡ e = same_ends d e has_d has_e (all_three _ _ (nat_cmp d.0 e.0) t) in
      clash (ap (λ (x : DartId). nat_eq d.0 x.0) (sym same) ∙ eq-eqb d.0 d.0 refl) n)

  differs : (d : DartId) (ds : List DartId) → HasDart v d → AllByRecursion (λ x. IsForward v x) ds → AllByRecursion (λ x. nat_eq d.0 x.0 ≡ false) ds → AllByRecursion (λ y. eq_by_cmp key_cmp (dart_key v d) y ≡ false) (map (dart_key v) ds)
  differs d [] has f a = tt
  differs d (e ∷ es) has f a = (told_apart d e has f.0.0 a.0, differs d es has f.1 a.1)

  distinct : (ds : List DartId) → AllByRecursion (λ x. IsForward v x) ds → IsDistinct (λ a b. nat_eq a.0 b.0) ds → IsDistinct (eq_by_cmp key_cmp) (map (dart_key v) ds)
  unfolding IsDistinct
  distinct [] f a = tt
  distinct (d ∷ ds) f a = (differs d ds f.0.0 f.1 a.0, distinct ds f.1 a.1)

  has_by : (d : DartId) (ds : List DartId) → AllByRecursion (λ x. IsForward v x) ds → Member d ds → HasDart v d
  has_by d ds f m = (All-member (λ x. IsForward v x) d ds f m).0

  module _ (ds : List DartId) (forward : AllByRecursion (λ x. IsForward v x) ds) (once : IsDistinct (λ a b. nat_eq a.0 b.0) ds) (us ms : List DartKey) (is : us ≡ map (dart_key v) ds) (p : IsPermutation us ms) (o : IsSorted key_cmp ms) where
    abbrev keys : List DartKey
    keys = map (dart_key v) ds

    sorted : ms ≡ ascending key_cmp keys
    sorted =
        sorted_is key_cmp key_cmp_total keys ms (ascending key_cmp keys) (distinct ds forward once) (subst (λ xs. IsPermutation xs ms) is p) o (IsAscending-ascending key_cmp key_cmp_total keys)
        (λ x m. in_ascending key_cmp key_cmp_total key_cmp_exact x keys m)
        (λ x m. of_ascending key_cmp key_cmp_total key_cmp_exact x keys m)

    -- each key is that of one of the darts
    key_of : (k : DartKey) → Member k ms → (d : DartId) × Member d ds × (k ≡ dart_key v d)
    key_of k m = of_map (dart_key v) k ds (of_ascending key_cmp key_cmp_total key_cmp_exact k keys (subst (Member k) sorted m))

    of_key : (d : DartId) → Member d ds → Member (dart_key v d) ms
    of_key d m = subst (Member (dart_key v d)) (sym sorted) (in_ascending key_cmp key_cmp_total key_cmp_exact (dart_key v d) keys (in_map (dart_key v) d ds m))

    pub keys_are : AllByRecursion (λ k. k ≡ dart_key v k.name) ms
    keys_are = all_members (λ k. k ≡ dart_key v k.name) ms (λ k m. let d = key_of k m in d.2 ∙ ap (λ (x : DartKey). dart_key v x.name) (sym d.2))

    pub names_are : (d : DartId) → Member d (map (λ k. k.name) ms) ↔ Member d ds
    names_are d = (
      λ m.
          let k = of_map (λ k. k.name) d ms m in
          let e = key_of k.0 k.1 in
          subst (λ x. Member x ds) (sym (k.2 ∙ ap (λ (x : DartKey). x.name) e.2)) e.1,
      λ m. in_map (λ k. k.name) (dart_key v d) ms (of_key d m),
    )

    by_edges : (x y : DartKey) → Member x ms → Member y ms → key_cmp x y ≡ Less → edge_cmp (edge_of_key x) (edge_of_key y) ≡ Less
    unfolding edge_cmp
    by_edges x y m n h = elim (two_of _ _ (nat_cmp x.name.0 y.name.0) h) [
      | inl e ↦ e
      | inr e ↦
          let d = key_of x m in
          let f = key_of y n in
          let same : d.0 ≡ f.0 = same_ends d.0 f.0 (has_by d.0 ds forward d.1) (has_by f.0 ds forward f.1) (sym (ap₂ (λ a b. edge_cmp (edge_of_key a) (edge_of_key b)) d.2 f.2) ∙ e) in
          let one : y ≡ x = f.2 ∙ ap (dart_key v) (sym same) ∙ sym d.2 in
          absurd (less_itself x (subst (λ z. key_cmp x z ≡ Less) one h))
    ]

    pub edges_ascend : IsAscending edge_cmp (map edge_of_key ms)
    edges_ascend = IsAscending-map key_cmp edge_cmp edge_of_key ms by_edges (subst (λ xs. IsAscending key_cmp xs) (sym sorted) (IsAscending-ascending key_cmp key_cmp_total keys))
