-- The sources of darts on the boundaries of the unbounded face, in the order of their points, each once.
use Rattle.std.proofs.Common.{◌≡◌, ◌&&◌, eqb, refl, sym, ap, subst, ◌∙◌, List, [], ◌∷◌, map, Bool, Ordering, Less, Equal, Greater}
use Rattle.std.specs.List.Retain.{IsFiltered, DiffersFromLast}
use Rattle.std.specs.List.Sorted.{IsPermutation, IsSorted}
use Rattle.std.specs.Cmp.{IsTotalOrder, then_total, on_total, int_cmp_total}
use Rattle.std.specs.Ordering.{eq_by_cmp, int_cmp, int_eq, ordering_then, nat_cmp}
use Rattle.std.proofs.lemmas.Cmp.{tied_itself}
use Rattle.integers.proofs.Classes.{then_equal}
use Rattle.integers.proofs.Compare.{equal_out, less_out}
use Rattle.integers.proofs.Tests.{both_equal}
use Rattle.exact_plane.specs.PointOrder.{point_cmp}
use Rattle.exact_plane.specs.PointOrderLaws.{same_point as point_cmp_exact}
use Rattle.exact_plane.proofs.WholeOrders.{before_by_whole}
use Rattle.plane_graphs.specs.Ascending.{IsAscending, Member, ascending}
use Rattle.plane_graphs.proofs.Arranged.{arranged}
use Rattle.plane_graphs.proofs.Ascending.{IsAscending-ascending, IsAscending-map}
use Rattle.plane_graphs.proofs.Lists.{in_ascending, of_ascending, in_map, map_map, of_map}
use Rattle.slab_laws.specs.declared.names.DartId.{DartId}
use Rattle.slab_laws.specs.Skeleton.{HasWeight}
use Rattle.slab_laws.specs.Sound.{IsGraphSound}
use Rattle.slab_laws.specs.View.{View, Faces, HasDart, point_in, source_in}
use Rattle.record_orders.specs.declared.vertices.VertexKey.{VertexKey}
use Rattle.record_orders.proofs.VertexKeys.{key_cmp, key_cmp_total, key_exact, key_ties}
use Rattle.lower_envelope.specs.Edges.{AreOuterDarts}
use Rattle.lower_envelope.specs.declared.boundary.EndKey.{EndKey}
use Rattle.lower_envelope.specs.Corners.{AreOuterEnds, source_key, end_key}

-- with the whole parts before them
abbrev pub end_cmp : EndKey → EndKey → Ordering
end_cmp k m = ordering_then (int_cmp k.whole m.whole) (key_cmp k.vertex m.vertex)

end_cmp_total : IsTotalOrder end_cmp
end_cmp_total = then_total (on_total (λ k. k.whole) int_cmp_total) (on_total (λ k. k.vertex) key_cmp_total)

pub end_ties : (x y : EndKey) → int_eq x.whole y.whole && ((int_eq x.vertex.point.x y.vertex.point.x && (int_eq x.vertex.point.y y.vertex.point.y && int_eq x.vertex.point.w y.vertex.point.w)) && eqb x.vertex.name.0 y.vertex.name.0) ≡ eq_by_cmp end_cmp x y
end_ties x y = ap (λ b. int_eq x.whole y.whole && b) (key_ties x.vertex y.vertex) ∙ both_equal (int_cmp x.whole y.whole) (key_cmp x.vertex y.vertex)

end_exact : (k m : EndKey) → end_cmp k m ≡ Equal → k ≡ m
end_exact k m e =
    let t = then_equal (int_cmp k.whole m.whole) (key_cmp k.vertex m.vertex) e in
    let w = equal_out k.whole m.whole t.0 in
    let p = key_exact k.vertex m.vertex t.1 in
    λ i. record { whole = w i; vertex = p i }

same_list : (ks : List EndKey) → map (λ k. k) ks ≡ ks
same_list [] = refl
same_list (k ∷ ks) = ap (λ ms. k ∷ ms) (same_list ks)

module _ (v : View) (s : IsGraphSound v) where
  weight : (d : DartId) → HasDart v d → HasWeight (source_key v d).point
  weight d has = (s.drawn.proper (source_in v d) (s.linked.source d has)).positive

  module _ (a b : DartId) (A : HasDart v a) (B : HasDart v b) where
    -- no two vertices have one point, so the names never decide
    by_names : key_cmp (source_key v a) (source_key v b) ≡ Less → point_cmp (source_key v a).point (source_key v b).point ≡ Less
    by_names e = go (point_cmp (source_key v a).point (source_key v b).point) refl e
      where
        go : (o : Ordering) → point_cmp (source_key v a).point (source_key v b).point ≡ o → ordering_then (point_cmp (source_key v a).point (source_key v b).point) (nat_cmp (source_in v a).0 (source_in v b).0) ≡ Less → point_cmp (source_key v a).point (source_key v b).point ≡ Less
        go Less q h = q
        go Equal q h =
            let p : point_in v (source_in v a) ≡ point_in v (source_in v b) = point_cmp_exact (source_key v a).point (source_key v b).point q in
            let same : source_key v a ≡ source_key v b = ap (λ u. record { point = point_in v u; name = u }) (s.drawn.points (source_in v a) (source_in v b) (s.linked.source a A) (s.linked.source b B) p) in
            let t = tied_itself key_cmp_total (source_key v b) in
            let l : key_cmp (source_key v b) (source_key v b) ≡ Less = subst (λ x. key_cmp x (source_key v b) ≡ Less) same e in
            absurd cc
        go Greater q h = let l = rw q at h in absurd cc

    -- nor do whole parts tell another order than points
    by_wholes : end_cmp (end_key v a) (end_key v b) ≡ Less → point_cmp (source_key v a).point (source_key v b).point ≡ Less
    by_wholes e = go (int_cmp (end_key v a).whole (end_key v b).whole) refl e
      where
        go : (o : Ordering) → int_cmp (end_key v a).whole (end_key v b).whole ≡ o → ordering_then (int_cmp (end_key v a).whole (end_key v b).whole) (key_cmp (source_key v a) (source_key v b)) ≡ Less → point_cmp (source_key v a).point (source_key v b).point ≡ Less
        go Less q h = before_by_whole (source_key v a).point (source_key v b).point (weight a A) (weight b B) (less_out (end_key v a).whole (end_key v b).whole q)
        go Equal q h = by_names ((λ i. ordering_then (sym q i) (key_cmp (source_key v a) (source_key v b))) ∙ h)
        go Greater q h = let l = rw q at h in absurd cc

module _ (v : View) (s : IsGraphSound v) (ds : List DartId) (have : (d : DartId) → Member d ds → HasDart v d) where
  abbrev keys : List EndKey
  keys = ascending end_cmp (map (end_key v) ds)

  of_dart : (x : EndKey) → Member x keys → (d : DartId) × Member d ds × (x ≡ end_key v d)
  of_dart x m = of_map (end_key v) x ds (of_ascending end_cmp end_cmp_total end_exact x (map (end_key v) ds) m)

  by_points : (x y : EndKey) → Member x keys → Member y keys → end_cmp x y ≡ Less → point_cmp x.vertex.point y.vertex.point ≡ Less
  by_points x y X Y e =
      let a = of_dart x X in
      let b = of_dart y Y in
      (λ i. point_cmp (a.2 i).vertex.point (b.2 i).vertex.point) ∙ by_wholes v s a.0 b.0 (have a.0 a.1) (have b.0 b.1) ((λ i. end_cmp (sym a.2 i) (sym b.2 i)) ∙ e)

  module _ (f : Faces) (outer : AreOuterDarts v f ds) where
    ends : AreOuterEnds v f (map (λ e. e.vertex) keys)
    ends = record {
      ascend =
          subst (IsAscending point_cmp) (sym (map_map (λ (e : EndKey). e.vertex) (λ (k : VertexKey). k.point) keys))
          (IsAscending-map end_cmp point_cmp (λ e. e.vertex.point) keys by_points (IsAscending-ascending end_cmp end_cmp_total (map (end_key v) ds)));
      just = λ k. (
        λ m. (let r = of_map (λ (e : EndKey). e.vertex) k keys m in let a = of_dart r.0 r.1 in (a.0, (outer a.0).0 a.1, r.2 ∙ ap (λ (e : EndKey). e.vertex) a.2)),
        λ r. subst (λ x. Member x (map (λ (e : EndKey). e.vertex) keys)) (sym r.2)
            (in_map (λ (e : EndKey). e.vertex) (end_key v r.0) keys (in_ascending end_cmp end_cmp_total end_exact (end_key v r.0) (map (end_key v) ds) (in_map (end_key v) r.0 ds ((outer r.0).1 r.1)))),
      );
    }

    pub sorted_ends : (old mid out : List EndKey) (E : EndKey → EndKey → Bool) → old ≡ map (end_key v) ds → IsPermutation old mid → ((x y : EndKey) → E x y ≡ eq_by_cmp end_cmp x y) → IsSorted end_cmp mid → IsFiltered (DiffersFromLast E) [] mid out → AreOuterEnds v f (map (λ e. e.vertex) out)
    sorted_ends old mid out E is moved ties sorted filtered =
        let a = arranged (λ k. k) end_cmp end_cmp_total end_exact old mid moved E out ties sorted filtered in
        subst (λ es. AreOuterEnds v f (map (λ (e : EndKey). e.vertex) es)) (sym (sym (same_list out) ∙ a ∙ ap (ascending end_cmp) (same_list old ∙ is))) ends
