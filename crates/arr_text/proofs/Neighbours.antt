-- The first dart out of a vertex, and the way round from it.
use Rattle.std.proofs.Common.{◌≡◌, ℕ, Bool, true, false, cond, List, [], ◌∷◌, length, Option, Some, None, Ordering, Less, Equal, Greater, refl, sym, ap, ◌∙◌, subst, inl, inr, ◌⊎◌, arith}
use Rattle.std.specs.Prelude.{find}
use Rattle.std.specs.Option.{option_map}
use Rattle.std.specs.Ordering.{is_lt, ordering_then, ordering_reverse, nat_cmp}
use Rattle.std.proofs.lemmas.Cmp.{tied_itself}
use Rattle.exact_plane.specs.Point.{Point}
use Rattle.exact_plane.specs.PointOrder.{point_cmp}
use Rattle.exact_plane.specs.PointOrderLaws.{point_cmp_total}
use Rattle.plane_graphs.specs.Ascending.{IsAscending, Member}
use Rattle.plane_graphs.proofs.Ascending.{All-member}
use Rattle.plane_graphs.proofs.Lists.{in_map, of_map}
use Rattle.slab_laws.specs.declared.names.DartId.{DartId}
use Rattle.slab_laws.specs.declared.names.VertexId.{VertexId}
use Rattle.slab_laws.specs.Skeleton.{same_point}
use Rattle.slab_laws.specs.Darts.{source, target, darts}
use Rattle.slab_laws.specs.Rotation.{rotation}
use Rattle.slab_laws.specs.Sound.{skeleton_of, dart_in, IsGraphSound}
use Rattle.slab_laws.specs.View.{View, HasVertex, HasDart, point_in}
use Rattle.sound_views.specs.Orders.{dart_order}
use Rattle.sound_views.proofs.NamedDarts.{names_are_darts}
use Rattle.sound_views.proofs.NamesOrdered.{dart_ordered, ordered_dart}
use Rattle.sound_views.proofs.IsolatedVertices.{bare_is_bare}
use Rattle.sound_views.specs.VertexRounds.{round}
use Rattle.sound_views.specs.VertexRoundLaws.{HasLeastTarget}
use Rattle.sound_views.proofs.RoundTurned.{round_is_rotation, none_round}
use Rattle.arr_text.proofs.FaceNames.{darts_counted}
use Rattle.record_orders.specs.declared.darts.DartKey.{DartKey}
use Rattle.record_orders.specs.Keys.{dart_key, dart_keys}
use Rattle.record_orders.proofs.DartKeys.{key_cmp, ascends}
use Rattle.integers.proofs.Decisions.{clash}
use Rattle.slab_faces.proofs.Parity.{same_point_is, same_point_refl}

-- ---- what is found first
-- the first of the darts that goes out of a point
abbrev pub first_at : List DartKey → Point → Option DartId
first_at ks p = option_map (λ k. k.name) (find (λ k. same_point k.source p) ks)

module _ (p : Point) where
  abbrev leaves : DartKey → Bool
  leaves k = same_point k.source p

  abbrev Follows : DartKey → DartKey → Type 0
  Follows k m = (m ≡ k) ⊎ (key_cmp k m ≡ Less)

  found_by : (k x m : DartKey) (xs : List DartKey) (b : Bool) → leaves x ≡ b → IsAscending key_cmp (x ∷ xs) → cond b (Some x) (find leaves xs) ≡ Some k → Member m (x ∷ xs) → leaves m ≡ true
      → (find leaves xs ≡ Some k → Member m xs → Follows k m) → Follows k m
  found_by k x m xs true t a e (inl i) h f = let same : x ≡ k = cc in inl (i ∙ same)
  found_by k x m xs true t a e (inr n) h f = let same : x ≡ k = cc in inr (subst (λ (y : DartKey). key_cmp y m ≡ Less) same (All-member _ m xs a.0 n))
  found_by k x m xs false t a e (inl i) h f = absurd (clash (leaves x) (subst (λ (y : DartKey). leaves y ≡ true) i h) t)
  found_by k x m xs false t a e (inr n) h f = f e n

  -- of ascending keys, those that leave the point come no earlier than the one that is found
  found_first : (k m : DartKey) (ks : List DartKey) → IsAscending key_cmp ks → find leaves ks ≡ Some k → Member m ks → leaves m ≡ true → Follows k m
  found_first k m [] a e n h = absurd n
  found_first k m (x ∷ xs) a e n h = found_by k x m xs (leaves x) refl a e n h (λ e' n'. found_first k m xs a.1 e' n' h)

  there_by : (k x : DartKey) (xs : List DartKey) (b : Bool) → leaves x ≡ b → cond b (Some x) (find leaves xs) ≡ Some k → (find leaves xs ≡ Some k → Member k xs × (leaves k ≡ true)) → Member k (x ∷ xs) × (leaves k ≡ true)
  there_by k x xs true t e f = let same : x ≡ k = cc in (inl (sym same), subst (λ (y : DartKey). leaves y ≡ true) same t)
  there_by k x xs false t e f = let r = f e in (inr r.0, r.1)

  found_there : (k : DartKey) (ks : List DartKey) → find leaves ks ≡ Some k → Member k ks × (leaves k ≡ true)
  found_there k [] e = absurd cc
  found_there k (x ∷ xs) e = there_by k x xs (leaves x) refl e (found_there k xs)

  some_by : (x m : DartKey) (xs : List DartKey) (b : Bool) → leaves x ≡ b → cond b (Some x) (find leaves xs) ≡ None → Member m (x ∷ xs) → leaves m ≡ true → (find leaves xs ≡ None → Member m xs → ⊥) → ⊥
  some_by x m xs true t e n h f = absurd cc
  some_by x m xs false t e (inl i) h f = clash (leaves x) (subst (λ (y : DartKey). leaves y ≡ true) i h) t
  some_by x m xs false t e (inr n) h f = f e n

  none_leaves : (m : DartKey) (ks : List DartKey) → find leaves ks ≡ None → Member m ks → leaves m ≡ true → ⊥
  none_leaves m [] e n h = absurd n
  none_leaves m (x ∷ xs) e n h = some_by x m xs (leaves x) refl e n h (λ e' n'. none_leaves m xs e' n' h)

-- ---- targets of keys
reversed : (p q : Point) → point_cmp p q ≡ Less → is_lt (point_cmp q p) ≡ false
reversed p q e = ap is_lt (point_cmp_total.antisymm q p ∙ ap ordering_reverse e)

equal_not_less : (p q : Point) → point_cmp p q ≡ Equal → is_lt (point_cmp q p) ≡ false
equal_not_less p q e = ap is_lt (point_cmp_total.antisymm q p ∙ ap ordering_reverse e)

target_by : (k m : DartKey) (o : Ordering) → point_cmp k.target m.target ≡ o → ordering_then o (nat_cmp k.name.0 m.name.0) ≡ Less → is_lt (point_cmp m.target k.target) ≡ false
target_by k m Less e h = reversed k.target m.target e
target_by k m Equal e h = equal_not_less k.target m.target e
target_by k m Greater e h = absurd cc

least_by : (k m : DartKey) → k.source ≡ m.source → (m ≡ k) ⊎ (key_cmp k m ≡ Less) → is_lt (point_cmp m.target k.target) ≡ false
least_by k m e (inl same) = subst (λ (y : DartKey). is_lt (point_cmp m.target y.target) ≡ false) same (ap is_lt (tied_itself point_cmp_total m.target))
least_by k m e (inr less) =
    let tied : point_cmp k.source m.source ≡ Equal = ap (λ (q : Point). point_cmp k.source q) (sym e) ∙ tied_itself point_cmp_total k.source in
    target_by k m (point_cmp k.target m.target) refl (ap (λ (o : Ordering). ordering_then o (ordering_then (point_cmp k.target m.target) (nat_cmp k.name.0 m.name.0))) (sym tied) ∙ less)

-- ---- keys of a view
module _ (v : View) (s : IsGraphSound v) where
  key_there : (d : DartId) → HasDart v d → Member (dart_key v d) (dart_keys v)
  key_there d has = in_map (dart_key v) d (dart_order v) (dart_ordered v s d has)

  module _ (p : Point) where
    -- the dart that is found
    pub record Found (d : DartId) : Type 0 where
      pub has : HasDart v d
      pub leaves_it : source (dart_in v d) ≡ p
      pub least : HasLeastTarget (skeleton_of v) (dart_in v d)

    key_of : (d : DartId) (o : Option DartKey) → Some d ≡ option_map (λ k. k.name) o → (k : DartKey) × (o ≡ Some k) × (k.name ≡ d)
    key_of d None e = absurd cc
    key_of d (Some k) e = (k, refl, cc)

    source_is : (d : DartId) → HasDart v d → source (dart_in v d) ≡ (dart_key v d).source
    source_is d has = names_are_darts.source v d s has

    pub found : (d : DartId) → Some d ≡ first_at (dart_keys v) p → Found d
    found d e =
        let w = key_of d (find (leaves p) (dart_keys v)) e in
        let r = found_there p w.0 (dart_keys v) w.1 in
        let u = of_map (dart_key v) w.0 (dart_order v) r.0 in
        let same : u.0 ≡ d = ap (λ (k : DartKey). k.name) (sym u.2) ∙ w.2 in
        let key : w.0 ≡ dart_key v d = u.2 ∙ ap (dart_key v) same in
        let has : HasDart v d = subst (λ (x : DartId). HasDart v x) same (ordered_dart v s u.0 u.1) in
        let at : (dart_key v d).source ≡ p = same_point_is (dart_key v d).source p (subst (λ (k : DartKey). same_point k.source p ≡ true) key r.1) in
        record {
          has = has;
          leaves_it = source_is d has ∙ at;
          least = λ h c i.
              let n = names_are_darts.there v h s c in
              let other = names_are_darts.target v n.0 s n.1 in
              let mine = names_are_darts.target v d s has in
              let there : (dart_key v n.0).source ≡ p = sym (source_is n.0 n.1) ∙ ap source n.2 ∙ i ∙ source_is d has ∙ at in
              let told : same_point (dart_key v n.0).source p ≡ true = subst (λ (q : Point). same_point (dart_key v n.0).source q ≡ true) there (same_point_refl (dart_key v n.0).source) in
              let f = found_first p w.0 (dart_key v n.0) (dart_keys v) (ascends v s) w.1 (key_there n.0 n.1) told in
              let g = subst (λ (k : DartKey). (dart_key v n.0 ≡ k) ⊎ (key_cmp k (dart_key v n.0) ≡ Less)) key f in
              let l = least_by (dart_key v d) (dart_key v n.0) (at ∙ sym there) g in
              ap (λ (q : Point). is_lt (point_cmp q (target (dart_in v d)))) (sym (ap target n.2)) ∙ ap (λ (q : Point). is_lt (point_cmp q (target (dart_in v d)))) other ∙ ap (λ (q : Point). is_lt (point_cmp (dart_key v n.0).target q)) mine ∙ l;
        }

    pub way_round : (d : DartId) (n : ℕ) → Some d ≡ first_at (dart_keys v) p → n ≡ length (dart_order v) → round (darts (skeleton_of v)) n (dart_in v d) (dart_in v d) ≡ rotation (darts (skeleton_of v)) p
    way_round d n e i =
        let f = found d e in
        round_is_rotation (skeleton_of v) (dart_in v d) n s.plane (names_are_darts.known v d s f.has) f.least (let c : n ≡ length (darts (skeleton_of v)) = i ∙ darts_counted v s in omega arith) ∙ ap (rotation (darts (skeleton_of v))) f.leaves_it

  no_key : (o : Option DartKey) → None ≡ option_map (λ (k : DartKey). k.name) o → o ≡ None
  no_key None e = refl
  no_key (Some k) e = absurd cc

  pub nobody : (w : VertexId) → HasVertex v w → None ≡ first_at (dart_keys v) (point_in v w) → rotation (darts (skeleton_of v)) (point_in v w) ≡ []
  nobody w has e =
      let none = no_key (find (leaves (point_in v w)) (dart_keys v)) e in
      none_round (skeleton_of v) (point_in v w) s.plane ((bare_is_bare v w s has).1 (λ d out.
      none_leaves (point_in v w) (dart_key v d) (dart_keys v) none (key_there d out.0) (subst (λ (q : Point). same_point (dart_key v d).source q ≡ true) (ap (point_in v) out.1) (same_point_refl (dart_key v d).source))))
