-- Vertices in the order of their points, each once.
use Rattle.std.proofs.Common.{◌≡◌, ℕ, ◌<◌, length, get_or, Bool, List, [], ◌∷◌, map, Ordering, Less, Equal, Greater, ◌&&◌, ◌++◌, append_assoc, refl, sym, ap, ap₂, ◌∙◌, subst, inl, inr}
use Rattle.std.specs.List.{AllByRecursion, flat_map}
use Rattle.std.specs.List.Sorted.{IsPermutation, IsSorted}
use Rattle.std.specs.List.Retain.{IsFiltered, DiffersFromLast}
use Rattle.std.specs.Ordering.{ordering_then, nat_cmp, eq_by_cmp}
use Rattle.std.specs.Prelude.{Result, Ok, Err, IfOk}
use Rattle.std.proofs.lemmas.Cmp.{tied_itself}
use Rattle.std.proofs.lemmas.List.{map-id}
use Rattle.std.proofs.lemmas.List.Elements.{Contains-get_or}
use Rattle.exact_plane.specs.PointOrder.{point_cmp}
use Rattle.exact_plane.specs.PointOrderLaws.{same_point}
use Rattle.plane_graphs.specs.Ascending.{IsAscending, Member, ascending}
use Rattle.plane_graphs.proofs.Ascending.{All-member, IsAscending-ascending, to_member}
use Rattle.plane_graphs.proofs.Lists.{in_map, of_map, in_flat_map, of_flat_map, in_ascending, of_ascending}
use Rattle.slab_laws.specs.declared.names.VertexId.{VertexId}
use Rattle.slab_laws.specs.Sound.{IsGraphSound}
use Rattle.slab_laws.specs.View.{View, HasVertex, HasDart, point_in, source_in, target_in}
use Rattle.sound_views.proofs.PulledOrders.{IsAscending-map}
use Rattle.record_orders.specs.declared.darts.DartKey.{DartKey}
use Rattle.record_orders.specs.declared.vertices.VertexKey.{VertexKey}
use Rattle.record_orders.specs.Keys.{vertex_key}
use Rattle.record_orders.proofs.VertexKeys.{key_cmp, key_cmp_total, key_exact}
use Rattle.record_orders.proofs.Sorting.{all_members}
use Rattle.plane_graphs.proofs.Arranged.{arranged}
use Rattle.segment_remove.specs.Ends.{two_ends, AreEnds}

never : (x : VertexKey) → key_cmp x x ≡ Less → ⊥
never x e = let t = tied_itself key_cmp_total x in cc

greater : (o : Ordering) → ordering_then Greater o ≡ Less → ⊥
greater o e = cc

module _ (v : View) (s : IsGraphSound v) (ks : List DartKey) (have : AllByRecursion (λ k. HasDart v k.name) ks) (us ms ns : List VertexKey) (is : us ≡ flat_map (two_ends v) ks) (E : VertexKey → VertexKey → Bool) (ties : (x y : VertexKey) → E x y ≡ eq_by_cmp key_cmp x y)
    (moved : IsPermutation us ms) (sorted : IsSorted key_cmp ms) (filtered : IsFiltered (DiffersFromLast E) [] ms ns) where
  ns_are : ns ≡ ascending key_cmp (flat_map (two_ends v) ks)
  ns_are =
      sym (map-id ns)
      ∙ arranged (λ (k : VertexKey). k) key_cmp key_cmp_total key_exact us ms moved E ns ties sorted filtered
      ∙ ap (ascending key_cmp) (map-id us ∙ is)

  ups : IsAscending key_cmp ns
  ups = subst (IsAscending key_cmp) (sym ns_are) (IsAscending-ascending key_cmp key_cmp_total (flat_map (two_ends v) ks))

  there : (k : VertexKey) → Member k (flat_map (two_ends v) ks) → Member k ns
  there k m = subst (Member k) (sym ns_are) (in_ascending key_cmp key_cmp_total key_exact k (flat_map (two_ends v) ks) m)

  -- each is the end of an edge, with its point
  key_is : (k : VertexKey) → Member k ns → HasVertex v k.name × (k.point ≡ point_in v k.name)
  key_is k m =
      let e = of_flat_map (two_ends v) k ks (of_ascending key_cmp key_cmp_total key_exact k (flat_map (two_ends v) ks) (subst (Member k) ns_are m)) in
      let d = member_has e.0 e.1 in
      elim e.2 [
        | inl i ↦ at_end k (source_in v e.0.name) i (s.linked.source e.0.name d)
        | inr j ↦ elim j [ inl i ↦ at_end k (target_in v e.0.name) i (s.linked.source _ (s.twinned.has e.0.name d)) | inr z ↦ absurd z ]
      ]
    where
      member_has : (d : DartKey) → Member d ks → HasDart v d.name
      member_has d m = All-member (λ k. HasDart v k.name) d ks have m

      at_end : (k : VertexKey) (w : VertexId) → k ≡ vertex_key v w → HasVertex v w → HasVertex v k.name × (k.point ≡ point_in v k.name)
      at_end k w i h = (subst (λ z. HasVertex v z) (sym (ap (λ z. z.name) i)) h, ap (λ z. z.point) i ∙ ap (λ z. point_in v z.name) (sym i))

  names_have : AllByRecursion (λ w. HasVertex v w) (map (λ k. k.name) ns)
  names_have = all_members (λ w. HasVertex v w) (map (λ k. k.name) ns) (λ w m. let k = of_map (λ k. k.name) w ns m in subst (HasVertex v) (sym k.2) (key_is k.0 k.1).0)

  -- two keys with one point have one vertex
  less_point : (x y : VertexKey) → Member x ns → Member y ns → key_cmp x y ≡ Less → point_cmp (point_in v x.name) (point_in v y.name) ≡ Less
  less_point x y m n e =
      let a = key_is x m in
      let b = key_is y n in
      by (point_cmp (point_in v x.name) (point_in v y.name)) refl a b
    where
      by : (o : Ordering) → point_cmp (point_in v x.name) (point_in v y.name) ≡ o → HasVertex v x.name × (x.point ≡ point_in v x.name) → HasVertex v y.name × (y.point ≡ point_in v y.name) → point_cmp (point_in v x.name) (point_in v y.name) ≡ Less
      by Less t a b = t
      by Equal t a b =
          let one = s.drawn.points x.name y.name a.0 b.0 (same_point (point_in v x.name) (point_in v y.name) t) in
          let same : x ≡ y = λ i. record { point = (a.1 ∙ ap (point_in v) one ∙ sym b.1) i; name = one i } in
          absurd (never x (subst (λ z. key_cmp x z ≡ Less) (sym same) e))
      by Greater t a b =
          let first : point_cmp x.point y.point ≡ Greater = ap₂ point_cmp a.1 b.1 ∙ t in
          absurd (greater (nat_cmp x.name.0 y.name.0) (sym (ap (λ z. ordering_then z (nat_cmp x.name.0 y.name.0)) first) ∙ e))

  names_ascend : IsAscending point_cmp (map (point_in v) (map (λ k. k.name) ns))
  names_ascend =
      IsAscending-map (λ u w. point_cmp (point_in v u) (point_in v w)) point_cmp (point_in v) (map (λ k. k.name) ns) (λ u w m n e. e)
      (IsAscending-map key_cmp (λ u w. point_cmp (point_in v u) (point_in v w)) (λ k. k.name) ns less_point ups)

  pub ends_are : (ws : List VertexId) → ws ≡ map (λ k. k.name) ns → AreEnds v ks ws
  ends_are ws named = subst (AreEnds v ks) (sym named) (record {
    have = names_have;
    ascend = names_ascend;
    ends = λ k m. (
      in_map (λ k. k.name) (vertex_key v (source_in v k.name)) ns (there _ (in_flat_map (two_ends v) k (vertex_key v (source_in v k.name)) ks m (inl refl))),
      in_map (λ k. k.name) (vertex_key v (target_in v k.name)) ns (there _ (in_flat_map (two_ends v) k (vertex_key v (target_in v k.name)) ks m (inr (inl refl)))),
    );
  })

pub one_ends : (v : View) (ks js : List DartKey) (us ws : List VertexId) → js ≡ ks → ws ≡ us → AreEnds v js us → AreEnds v ks ws
one_ends v ks js us ws keys names are = subst (λ z. AreEnds v z ws) keys (subst (AreEnds v js) (sym names) are)

-- ---- both ends of one more edge
pub two_pushed : (v : View) (k : DartKey) (now mid new : List VertexKey) (u w : VertexId) (x y : VertexKey) → u ≡ source_in v k.name → x ≡ vertex_key v u → mid ≡ now ++ x ∷ [] → w ≡ target_in v k.name → y ≡ vertex_key v w → new ≡ mid ++ y ∷ [] → new ≡ now ++ two_ends v k
two_pushed v k now mid new u w x y i e m j f n = n ∙ ap (λ z. z ++ y ∷ []) m ∙ append_assoc now (x ∷ []) (y ∷ []) ∙ ap₂ (λ a b. now ++ a ∷ b ∷ []) (e ∙ ap (vertex_key v) i) (f ∙ ap (vertex_key v) j)

pub one_has : {X : Type 0} (P : X → Type 0) (xs : List X) (i : ℕ) (x : X) → AllByRecursion P xs → i < length xs → x ≡ get_or xs i x → P x
one_has P xs i x all h e = subst P (sym e) (All-member P (get_or xs i x) xs all (to_member xs (get_or xs i x) (Contains-get_or xs i x h)))

pub if_ok : {A E : Type 0} (r : Result A E) (P Q : A → Type 0) → ((a : A) → P a → Q a) → IfOk r P → IfOk r Q
if_ok (Ok a) P Q f h = f a h
if_ok (Err e) P Q f h = h
