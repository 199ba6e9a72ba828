-- Darts that are sorted by the numbers of their ends are the darts by source, then by target.
use Rattle.std.proofs.Common.{◌≡◌, ℕ, ◌<◌, ◌≤◌, arith, Bool, true, false, cond, List, [], ◌∷◌, map, Ordering, Less, Option, Some, refl, sym, ap, ap₂, ◌∙◌, subst, inl, inr}
use Rattle.std.specs.Prelude.{find, nat_lt, ◌==◌}
use Rattle.std.proofs.Math.Bool.{and_assoc}
use Rattle.std.specs.List.{AllByRecursion, IsDistinct, slice_index_or}
use Rattle.std.specs.List.Sorted.{IsPermutation, IsSorted}
use Rattle.std.specs.Option.{option_map}
use Rattle.std.specs.Ordering.{is_lt, is_eq, int_eq, ordering_then, nat_cmp, eq_by_cmp}
use Rattle.std.specs.Cmp.{IsTotalOrder, then_total, on_total, nat_cmp_total}
use Rattle.exact_plane.specs.Point.{Point}
use Rattle.exact_plane.specs.PointOrder.{point_cmp}
use Rattle.exact_plane.specs.PointOrderLaws.{point_cmp_ties}
use Rattle.plane_graphs.specs.Ascending.{IsAscending, Member}
use Rattle.plane_graphs.proofs.Lists.{in_map, of_map}
use Rattle.slab_laws.specs.Tables.{names, NamesAscend}
use Rattle.slab_laws.specs.declared.names.DartId.{DartId}
use Rattle.slab_laws.specs.declared.names.VertexId.{VertexId}
use Rattle.slab_laws.specs.Skeleton.{same_point}
use Rattle.slab_laws.specs.View.{View, HasVertex, HasDart, dart_id, point_in, source_in}
use Rattle.slab_laws.specs.Sound.{dart_in, IsGraphSound}
use Rattle.sound_views.specs.Orders.{dart_order}
use Rattle.sound_views.proofs.ForwardDarts.{target_has}
use Rattle.sound_views.proofs.PulledOrders.{IsAscending-map}
use Rattle.sound_views.proofs.NamedDarts.{dart_name, named_dart}
use Rattle.sound_views.proofs.NamesOrdered.{dart_ordered, ordered_dart}
use Rattle.record_orders.specs.declared.darts.DartKey.{DartKey}
use Rattle.record_orders.specs.Keys.{dart_key, dart_keys}
use Rattle.record_orders.proofs.DartKeys.{key_cmp as point_key_cmp, ascends as keys_ascend}
use Rattle.record_orders.proofs.Sorting.{untied, sorted_is}
use Rattle.integers.proofs.Tests.{less_nat, then_rest, not_tied, first_less, nat_exact}
use Rattle.arr_text.specs.declared.darts.NumberedDart.{NumberedDart}
use Rattle.arr_text.specs.Numbers.{AreNumbers, number_in, numbered_dart, numbered_darts, first_out, AreBySource}
use Rattle.arr_text.proofs.VertexNumbers.{less_told, same_told, numbers_compare, number_is}
use Rattle.arr_text.proofs.Neighbours.{first_at}
use Rattle.arr_text.proofs.RecordTexts.{ascends_back}

-- by source, then by target, then by name
abbrev pub key_cmp : NumberedDart → NumberedDart → Ordering
key_cmp k m = ordering_then (nat_cmp k.source m.source) (ordering_then (nat_cmp k.target m.target) (nat_cmp k.name.0 m.name.0))

pub key_cmp_total : IsTotalOrder key_cmp
key_cmp_total = then_total (on_total (λ k. k.source) nat_cmp_total) (then_total (on_total (λ k. k.target) nat_cmp_total) (on_total (λ k. k.name.0) nat_cmp_total))

-- ---- by source
no_later : (k m : NumberedDart) → key_cmp k m ≡ Less → k.source ≤ m.source
no_later k m e =
    elim (first_less (nat_cmp k.source m.source) (ordering_then (nat_cmp k.target m.target) (nat_cmp k.name.0 m.name.0)) e) [
      | inl l ↦ let b = less_nat k.source m.source l in omega (arith, b)
      | inr t ↦ let b = nat_exact k.source m.source t in omega (arith, b)
    ]

all_later : (k : NumberedDart) (ms : List NumberedDart) → AllByRecursion (λ m. key_cmp k m ≡ Less) ms → AllByRecursion (λ m. k.source ≤ m.source) ms
all_later k [] a = tt
all_later k (m ∷ ms) a = (no_later k m a.0, all_later k ms a.1)

sources : (ks : List NumberedDart) → IsAscending key_cmp ks → AreBySource ks
sources [] a = tt
sources (k ∷ ks) a = (all_later k ks a.0, sources ks a.1)

-- points are one where they compare alike
tied : (p q : Point) → is_eq (point_cmp p q) ≡ same_point p q
tied p q = sym (point_cmp_ties p q) ∙ sym (and_assoc (int_eq p.x q.x) (int_eq p.y q.y) (int_eq p.w q.w))

module _ (v : View) where
  abbrev all_names : List DartId
  all_names = map dart_id (names v.darts)

  differs : (n : ℕ) (ns : List ℕ) → AllByRecursion (λ m. n < m) ns → AllByRecursion (λ k. eq_by_cmp key_cmp (numbered_dart v (dart_id n)) k ≡ false) (map (numbered_dart v) (map dart_id ns))
  differs n [] a = tt
  differs n (m ∷ ms) a =
      let k : NumberedDart = numbered_dart v (dart_id n) in
      let l : NumberedDart = numbered_dart v (dart_id m) in
      let t : Ordering = nat_cmp k.target l.target in
      (untied key_cmp key_cmp_total k l (λ e. not_tied n m a.0 (then_rest t (nat_cmp n m) (then_rest (nat_cmp k.source l.source) (ordering_then t (nat_cmp n m)) e))), differs n ms a.1)

  distinct : (ns : List ℕ) → NamesAscend ns → IsDistinct (eq_by_cmp key_cmp) (map (numbered_dart v) (map dart_id ns))
  unfolding IsDistinct
  distinct [] a = tt
  distinct (n ∷ ns) a = (differs n ns a.0, distinct ns a.1)

  module _ (s : IsGraphSound v) where
    -- darts compare by numbers as by points
    same_order : (d e : DartId) → HasDart v d → HasDart v e → key_cmp (numbered_dart v d) (numbered_dart v e) ≡ point_key_cmp (dart_key v d) (dart_key v e)
    same_order d e hd he =
        ap₂ (λ (a b : Ordering). ordering_then a (ordering_then b (nat_cmp d.0 e.0))) (numbers_compare v s _ _ (s.linked.source d hd) (s.linked.source e he)) (numbers_compare v s _ _ (target_has v s d hd) (target_has v s e he))

    ascends : IsAscending key_cmp (numbered_darts v)
    ascends =
        IsAscending-map (λ d e. point_key_cmp (dart_key v d) (dart_key v e)) key_cmp (numbered_dart v) (dart_order v) (λ d e m n h. same_order d e (ordered_dart v s d m) (ordered_dart v s e n) ∙ h)
        (ascends_back point_key_cmp (dart_key v) (dart_order v) (keys_ascend v s))

    pub by_source : AreBySource (numbered_darts v)
    by_source = sources (numbered_darts v) ascends

    there : (k : NumberedDart) → Member k (map (numbered_dart v) all_names) → Member k (numbered_darts v)
    there k m =
        let w = of_map (numbered_dart v) k all_names m in
        subst (λ x. Member x (numbered_darts v)) (sym w.2) (in_map (numbered_dart v) w.0 (dart_order v) (dart_ordered v s w.0 (named_dart v w.0 w.1)))

    back : (k : NumberedDart) → Member k (numbered_darts v) → Member k (map (numbered_dart v) all_names)
    back k m =
        let w = of_map (numbered_dart v) k (dart_order v) m in
        subst (λ x. Member x (map (numbered_dart v) all_names)) (sym w.2) (in_map (numbered_dart v) w.0 all_names (dart_name v w.0 (ordered_dart v s w.0 w.1)))

    pub sorted_darts : (ks ms : List NumberedDart) → ks ≡ map (numbered_dart v) all_names → IsPermutation ks ms → IsSorted key_cmp ms → ms ≡ numbered_darts v
    sorted_darts ks ms is p o =
        sorted_is key_cmp key_cmp_total (map (numbered_dart v) all_names) ms (numbered_darts v) (distinct (names v.darts) s.named.darts) (subst (λ us. IsPermutation us ms) is p) o ascends there back

    -- ---- tests
    -- a dart goes up by its numbers where it does by its points
    pub goes_forward : (d : DartId) → HasDart v d → nat_lt (numbered_dart v d).source (numbered_dart v d).target ≡ (dart_in v d).forward
    goes_forward d has = less_told _ _ ∙ ap is_lt (numbers_compare v s _ _ (s.linked.source d has) (target_has v s d has))

    leaves_alike : (d : DartId) (w : VertexId) → HasDart v d → HasVertex v w → ((numbered_dart v d).source == number_in v w) ≡ same_point (dart_key v d).source (point_in v w)
    leaves_alike d w hd hw = same_told _ _ ∙ ap is_eq (numbers_compare v s _ _ (s.linked.source d hd) hw) ∙ tied (point_in v (source_in v d)) (point_in v w)

    one_found : (d : DartId) (a b : Bool) (x : Option NumberedDart) (y : Option DartKey) → a ≡ b → option_map (λ (k : NumberedDart). k.name) x ≡ option_map (λ (k : DartKey). k.name) y
        → option_map (λ (k : NumberedDart). k.name) (cond a (Some (numbered_dart v d)) x) ≡ option_map (λ (k : DartKey). k.name) (cond b (Some (dart_key v d)) y)
    one_found d a true x y e h = rw e refl
    one_found d a false x y e h = rw e h

    found_alike : (w : VertexId) → HasVertex v w → (ds : List DartId) → ((d : DartId) → Member d ds → HasDart v d) → first_out (map (numbered_dart v) ds) (number_in v w) ≡ first_at (map (dart_key v) ds) (point_in v w)
    found_alike w hw [] h = refl
    found_alike w hw (d ∷ ds) h =
        one_found d _ _ (find (λ k. k.source == number_in v w) (map (numbered_dart v) ds)) (find (λ k. same_point k.source (point_in v w)) (map (dart_key v) ds)) (leaves_alike d w (h d (inl refl)) hw)
        (found_alike w hw ds (λ e m. h e (inr m)))

    -- the first dart out of a vertex is found by its number as by its point
    pub first_alike : (w : VertexId) → HasVertex v w → first_out (numbered_darts v) (number_in v w) ≡ first_at (dart_keys v) (point_in v w)
    first_alike w hw = found_alike w hw (dart_order v) (λ d m. ordered_dart v s d m)

    -- as the code looks it up
    pub first_told : (w : VertexId) → HasVertex v w → (ns : List ℕ) → AreNumbers v ns → (n : ℕ) → n ≡ slice_index_or ns w.0 0 → (ks : List NumberedDart) → ks ≡ numbered_darts v → first_out ks n ≡ first_at (dart_keys v) (point_in v w)
    first_told w hw ns a n e ks k = ap₂ first_out k (e ∙ number_is v ns a w hw) ∙ first_alike w hw
