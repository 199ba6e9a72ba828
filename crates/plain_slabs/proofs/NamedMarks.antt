-- The marks of forward darts in order are those of the graph that records draw.
use Rattle.std.proofs.Common.{◌≡◌, ℕ, true, sym, ap, ◌∙◌, subst, List, map, Ordering, Less}
use Rattle.std.specs.Cmp.{on_total}
use Rattle.std.specs.List.{AllByRecursion, flat_map}
use Rattle.std.specs.List.Sorted.{IsStrictlyIncreasing}
use Rattle.std.specs.Ordering.{ordering_then, nat_cmp}
use Rattle.std.proofs.lemmas.Cmp.{tied_itself}
use Rattle.std.proofs.lemmas.Map.Keys.{sorted_from_strictly_increasing}
use Rattle.exact_plane.specs.Point.{Point}
use Rattle.exact_plane.specs.PointOrder.{point_cmp}
use Rattle.exact_plane.specs.PointOrderLaws.{point_cmp_total}
use Rattle.plane_graphs.specs.Ascending.{Member, IsAscending}
use Rattle.plane_graphs.specs.Graph.{Mark, mark, mark_cmp}
use Rattle.plane_graphs.proofs.Ascending.{All-member, IsAscending-ascending, ascending_unique, from_std}
use Rattle.plane_graphs.proofs.Lists.{in_map, of_map, in_filter, in_flat_map, of_flat_map, IsAscending-filter}
use Rattle.plane_graphs.proofs.Order.{mark_cmp_total}
use Rattle.slab_laws.specs.declared.names.CurveId.{CurveId}
use Rattle.slab_laws.specs.declared.names.DartId.{DartId}
use Rattle.slab_laws.specs.Rotation.{dart_cmp}
use Rattle.slab_laws.specs.Sound.{IsGraphSound, dart_in}
use Rattle.slab_laws.specs.Tables.{names}
use Rattle.slab_laws.specs.View.{View, dart_id, point_in, source_in, target_in}
use Rattle.slab_faces.proofs.DartOrder.{dart_cmp_total}
use Rattle.sound_views.specs.Orders.{dart_order}
use Rattle.sound_views.proofs.NamedDarts.{source_by, target_by}
use Rattle.sound_views.proofs.NamesOrdered.{dart_ordered}
use Rattle.sound_views.proofs.PulledOrders.{IsAscending-map}
use Rattle.arr_notes.specs.Curves.{Curves}
use Rattle.arr_notes.specs.RecordGraph.{drawn_graph}
use Rattle.sound_views.specs.RecordGraphLaws.{IsMarkOf}
use Rattle.sound_views.proofs.GraphHolds.{graphs_hold}
use Rattle.record_orders.specs.declared.darts.DartKey.{DartKey}
use Rattle.record_orders.specs.Keys.{dart_key, dart_keys}
use Rattle.subdivision_rows.specs.ByName.{numbers_of}
use Rattle.plain_slabs.specs.ByName.{goes_forward, forward_keys, key_marks}
use Rattle.plain_slabs.proofs.FlatLists.{flat_ascends}
use Rattle.plain_slabs.proofs.ReadKeys.{forward_member}
use Rattle.integers.proofs.Tests.{less_then}

-- by source, then by target
abbrev ends_cmp : (k m : DartKey) → Ordering
ends_cmp k m = ordering_then (point_cmp k.source m.source) (point_cmp k.target m.target)

-- marks of one edge go by their curves
same_ends : (p q : Point) (x y : ℕ) → nat_cmp x y ≡ Less → mark_cmp (mark p q x) (mark p q y) ≡ Less
unfolding mark_cmp
same_ends p q x y l = (λ i. ordering_then (tied_itself point_cmp_total p i) (ordering_then (tied_itself point_cmp_total q i) (nat_cmp x y))) ∙ l

pub graph_marks_ascend : (v : View) (h : Curves) → IsAscending mark_cmp (drawn_graph v h).marks
unfolding drawn_graph
graph_marks_ascend v h = IsAscending-ascending mark_cmp mark_cmp_total _

module _ (v : View) where
  by_ends : (d e : DartId) → dart_cmp (dart_in v d) (dart_in v e) ≡ ends_cmp (dart_key v d) (dart_key v e)
  by_ends d e =
      let p = point_in v (source_in v d) in
      let q = point_in v (target_in v d) in
      let x = point_in v (source_in v e) in
      let y = point_in v (target_in v e) in
      λ i. ordering_then (point_cmp (source_by p q i) (source_by x y i)) (point_cmp (target_by p q i) (target_by x y i))

  keys_ascend : IsAscending ends_cmp (forward_keys v)
  unfolding dart_order
  keys_ascend =
      IsAscending-filter ends_cmp goes_forward (dart_keys v)
      (IsAscending-map (λ d e. dart_cmp (dart_in v d) (dart_in v e)) ends_cmp (dart_key v) (dart_order v) (λ d e m n h. sym (by_ends d e) ∙ h)
      (IsAscending-ascending (λ d e. dart_cmp (dart_in v d) (dart_in v e)) (on_total (dart_in v) dart_cmp_total) (map dart_id (names v.darts))))

module _ (v : View) (c : DartId → List CurveId) where
  marks_apart : (k m : DartKey) → ends_cmp k m ≡ Less → (a b : Mark) → Member a (key_marks c k) → Member b (key_marks c m) → mark_cmp a b ≡ Less
  unfolding mark_cmp
  marks_apart k m l a b i j =
      let x = of_map (mark k.source k.target) a (numbers_of c k.name) i in
      let y = of_map (mark m.source m.target) b (numbers_of c m.name) j in
      (λ t. mark_cmp (x.2 t) (y.2 t)) ∙ less_then (point_cmp k.source m.source) (point_cmp k.target m.target) (nat_cmp x.0 y.0) l

  key_ascends : (k : DartKey) → IsStrictlyIncreasing (numbers_of c k.name) → IsAscending mark_cmp (key_marks c k)
  key_ascends k up =
      IsAscending-map nat_cmp mark_cmp (mark k.source k.target) (numbers_of c k.name) (λ x y m n l. same_ends k.source k.target x y l)
      (from_std nat_cmp (numbers_of c k.name) (sorted_from_strictly_increasing (numbers_of c k.name) up))

  module _ (s : IsGraphSound v) where
    there : (m : Mark) → Member m (flat_map (key_marks c) (forward_keys v)) → Member m (drawn_graph v (numbers_of c)).marks
    there m i =
        let w = of_flat_map (key_marks c) m (forward_keys v) i in
        let k : DartKey = w.0 in
        let f = forward_member v s k w.1 in
        let x = of_map (mark k.source k.target) m (numbers_of c k.name) w.2 in
        ((graphs_hold v (numbers_of c) s).marks m).1 (
          k.name,
          record {
            forward = (f.has, subst (λ n. goes_forward n ≡ true) f.key f.forward);
            low = ap (λ (n : DartKey). n.source) (sym f.key) ∙ ap (λ (n : Mark). n.low) (sym x.2);
            high = ap (λ (n : DartKey). n.target) (sym f.key) ∙ ap (λ (n : Mark). n.high) (sym x.2);
            curve = subst (λ y. Member y (numbers_of c k.name)) (ap (λ (n : Mark). n.curve) (sym x.2)) x.1;
          },
        )

    back : (m : Mark) → Member m (drawn_graph v (numbers_of c)).marks → Member m (flat_map (key_marks c) (forward_keys v))
    back m i =
        let w = ((graphs_hold v (numbers_of c) s).marks m).0 i in
        let d : DartId = w.0 in
        let o : IsMarkOf v (numbers_of c) m d = w.1 in
        let k : DartKey = dart_key v d in
        let is : mark k.source k.target m.curve ≡ m = λ t. record { low = o.low t; high = o.high t; curve = m.curve } in
        in_flat_map (key_marks c) k m (forward_keys v)
        (in_filter goes_forward k (dart_keys v) (in_map (dart_key v) d (dart_order v) (dart_ordered v s d o.forward.0)) o.forward.1)
        (subst (λ n. Member n (key_marks c k)) is (in_map (mark k.source k.target) m.curve (numbers_of c d) o.curve))

    pub marks_are : AllByRecursion (λ k. IsStrictlyIncreasing (numbers_of c k.name)) (forward_keys v) → flat_map (key_marks c) (forward_keys v) ≡ (drawn_graph v (numbers_of c)).marks
    marks_are up =
        ascending_unique mark_cmp mark_cmp_total (flat_map (key_marks c) (forward_keys v)) (drawn_graph v (numbers_of c)).marks
        (flat_ascends ends_cmp mark_cmp (key_marks c) (forward_keys v) (λ k m. key_ascends k (All-member (λ k. IsStrictlyIncreasing (numbers_of c k.name)) k (forward_keys v) up m)) marks_apart (keys_ascend v))
        (graph_marks_ascend v (numbers_of c)) there back
