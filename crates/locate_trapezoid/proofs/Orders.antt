-- The list of all edges, and of all vertices without edges.
use Rattle.std.proofs.Common.{◌≡◌, ℕ, ◌<◌, ◌≤◌, ◌+◌, Bool, true, false, cond, arith, refl, sym, ap, ◌∙◌, ◌⊎◌, inl, inr, subst, List, [], ◌∷◌, ◌++◌, length, get_or}
use Rattle.std.specs.List.{Contains}
use Rattle.std.specs.Ordering.{is_lt}
use Rattle.std.proofs.lemmas.Bool.{cases_lt}
use Rattle.std.proofs.lemmas.List.{append-nil, get_or_default}
use Rattle.std.proofs.lemmas.List.Elements.{Contains-append_left, Contains-push, Contains-push_cases}
use Rattle.exact_plane.specs.PointOrder.{point_cmp}
use Rattle.slab_laws.specs.declared.names.DartId.{DartId}
use Rattle.slab_laws.specs.declared.names.VertexId.{VertexId}
use Rattle.slab_laws.specs.Sound.{IsGraphSound}
use Rattle.slab_laws.specs.View.{View, HasVertex, HasDart}
use Rattle.slab_faces.proofs.Member.{member_in, in_member, map_in, map_out}
use Rattle.sound_views.proofs.NamesOrdered.{vertices_are_ordered, darts_are_ordered}
use Rattle.sound_views.specs.Orders.{vertex_order, dart_order}
use Rattle.record_orders.specs.Keys.{vertex_key, vertex_keys, dart_key, dart_keys}
use Rattle.record_orders.specs.declared.darts.DartKey.{DartKey}
use Rattle.record_orders.specs.declared.vertices.VertexKey.{VertexKey}
use Rattle.locate_trapezoid.specs.declared.node.Test.{Test}
use Rattle.locate_trapezoid.specs.Counted.{IsTest}
use Rattle.locate_trapezoid.specs.Graphs.{AreTests}

-- ---- of some keys each was added, or is left out
module _ {K : Type 0} (v : View) (keys : List K) (test : K → Test) (IsOut : K → Type 0) where
  pub record IsAddedSoFar (old ts : List Test) (i : ℕ) : Type 0 where
    pub known : AreTests v ts
    pub kept : (t : Test) → Contains old t → Contains ts t
    pub there : (j : ℕ) (k : K) → j < i → get_or keys j k ≡ k → Contains ts (test k) ⊎ IsOut k

  pub none_added : (old : List Test) → AreTests v old → IsAddedSoFar old old 0
  none_added old h = record { known = h; kept = λ t x. x; there = λ j k x. absurd (omega (arith)) }

  pub one_added : (old ts us : List Test) (i : ℕ) (k : K) (b : Bool) → i < length keys → k ≡ get_or keys i k → us ≡ ts ++ cond b (test k ∷ []) [] → (b ≡ true → IsTest v (test k)) → (b ≡ false → IsOut k) → IsAddedSoFar old ts i → IsAddedSoFar old us (i + 1)
  one_added old ts us i k b l e h is out so = subst (λ l. IsAddedSoFar old l (i + 1)) (sym h) (by b is out)
    where
      it : (j : ℕ) (x : K) → j < i + 1 → (j < i → ⊥) → get_or keys j x ≡ x → k ≡ x
      it j x m n f = let z : i ≡ j = omega (arith, n) in e ∙ get_or_default keys i k x l ∙ ap (λ n. get_or keys n x) z ∙ f

      by : (b : Bool) → (b ≡ true → IsTest v (test k)) → (b ≡ false → IsOut k) → IsAddedSoFar old (ts ++ cond b (test k ∷ []) []) (i + 1)
      by true is out = record {
        known = λ u x. elim (Contains-push_cases ts (test k) u x) [ inl y ↦ so.known u y | inr y ↦ subst (IsTest v) y (is refl) ];
        kept = λ t x. Contains-append_left ts (test k ∷ []) t (so.kept t x);
        there = λ j x m f. elim (cases_lt j i) [
          | inl y ↦ elim (so.there j x y f) [ inl z ↦ inl (Contains-append_left ts (test k ∷ []) (test x) z) | inr z ↦ inr z ]
          | inr y ↦ inl (subst (λ z. Contains (ts ++ (test k ∷ [])) (test z)) (it j x m (λ z. omega (arith)) f) (Contains-push ts (test k)))
        ];
      }
      by false is out = subst (λ l. IsAddedSoFar old l (i + 1)) (sym (append-nil ts)) (record {
        known = so.known;
        kept = so.kept;
        there = λ j x m f. elim (cases_lt j i) [
          | inl y ↦ so.there j x y f
          | inr y ↦ inr (subst IsOut (it j x m (λ z. omega (arith)) f) (out refl))
        ];
      })

  -- where a key is one of them
  pub all_added : (old ts : List Test) (i : ℕ) (k : K) → length keys ≤ i → Contains keys k → IsAddedSoFar old ts i → Contains ts (test k) ⊎ IsOut k
  all_added old ts i k h c so = so.there c.0 k (let x = c.1 in omega (arith)) c.2

-- ---- the keys of darts and of vertices
module _ (v : View) (s : IsGraphSound v) where
  pub dart_of_key : (k : DartKey) → Contains (dart_keys v) k → HasDart v k.name × (k ≡ dart_key v k.name)
  dart_of_key k c =
      let m = map_out (dart_key v) (dart_order v) k (in_member (dart_keys v) k c) in
      let e : m.0 ≡ k.name = ap (λ (x : DartKey). x.name) m.2 in
      (subst (HasDart v) e ((darts_are_ordered v m.0 s).1 (member_in (dart_order v) m.0 m.1)), sym m.2 ∙ ap (dart_key v) e)

  pub key_of_dart : (d : DartId) → HasDart v d → Contains (dart_keys v) (dart_key v d)
  key_of_dart d h = member_in (dart_keys v) (dart_key v d) (map_in (dart_key v) (dart_order v) d (in_member (dart_order v) d ((darts_are_ordered v d s).0 h)))

  pub vertex_of_key : (k : VertexKey) → Contains (vertex_keys v) k → HasVertex v k.name
  vertex_of_key k c =
      let m = map_out (vertex_key v) (vertex_order v) k (in_member (vertex_keys v) k c) in
      subst (HasVertex v) (ap (λ (x : VertexKey). x.name) m.2) ((vertices_are_ordered v m.0 s).1 (member_in (vertex_order v) m.0 m.1))

  pub key_of_vertex : (w : VertexId) → HasVertex v w → Contains (vertex_keys v) (vertex_key v w)
  key_of_vertex w h = member_in (vertex_keys v) (vertex_key v w) (map_in (vertex_key v) (vertex_order v) w (in_member (vertex_order v) w ((vertices_are_ordered v w s).0 h)))

-- whether the dart of a key goes forward
abbrev pub is_ahead : DartKey → Bool
is_ahead k = is_lt (point_cmp k.source k.target)
