-- The keys of the outer cycles, put in order, are those of the ranked faces after the first.
use Rattle.std.proofs.Common.{◌≡◌, ℕ, ◌+◌, ◌<◌, Bool, true, false, cond, arith, refl, sym, ap, ◌∙◌, subst, inl, inr, List, [], ◌∷◌, map, Ordering, Less, Equal, Greater, is_lt}
use Rattle.std.specs.Prelude.{filter, ◌==◌}
use Rattle.std.specs.Cmp.{IsTotalOrder}
use Rattle.std.specs.List.{AllByRecursion, IsDistinct, position_or_len}
use Rattle.std.specs.List.Sorted.{IsPermutation}
use Rattle.std.specs.Ordering.{ordering_reverse}
use Rattle.std.proofs.lemmas.Bool.{false_from_ne_true, eqb-true, eq-eqb}
use Rattle.std.proofs.lemmas.Cmp.{on_total, then_total}
use Rattle.std.proofs.lemmas.List.Sorted.{Contains-permutation, IsPermutation-sym}
use Rattle.std.proofs.lemmas.Map.Keys.{IsDistinct-IsPermutation}
use Rattle.integers.proofs.Tests.{turned_test}
use Rattle.exact_plane.specs.PointOrderLaws.{point_cmp_total}
use Rattle.plane_graphs.specs.Ascending.{Member, IsAscending}
use Rattle.plane_graphs.proofs.Ascending.{to_member, from_member, All-member, IsAscending-map, ascending_unique}
use Rattle.plane_graphs.proofs.Lists.{clash, of_map, in_map, of_filter, in_filter}
use Rattle.plane_graphs.proofs.Sorting.{all_members}
use Rattle.slab_laws.specs.declared.names.CycleId.{CycleId}
use Rattle.slab_laws.specs.declared.names.DartId.{DartId}
use Rattle.slab_laws.specs.declared.names.FaceId.{FaceId}
use Rattle.slab_laws.specs.Darts.{source, target}
use Rattle.slab_laws.specs.FaceLists.{Lists, AreDartsOn}
use Rattle.slab_laws.specs.FacesSound.{lead_in, IsSound, IsOuterOf}
use Rattle.slab_laws.specs.Sound.{dart_in}
use Rattle.slab_laws.proofs.KindLemmas.{outer_kind}
use Rattle.slab_laws.specs.Tables.{names, NamesAscend}
use Rattle.slab_laws.specs.View.{View, Faces, HasFace, cycle_id, cycle_in, kind_in, face_in}
use Rattle.sound_views.proofs.NameTables.{has_name, name_has}
use Rattle.record_orders.specs.CycleKeys.{same_face}
use Rattle.dcel_records.specs.declared.ranks.RankKey.{RankKey}
use Rattle.dcel_records.specs.RankOrders.{key_cmp, AreInKeyOrder, AreRanked}
use Rattle.face_ranks.specs.OuterKeys.{cycle_rank_key, is_outer_in, outer_keys, outer_keys_of}
use Rattle.face_ranks.specs.Ranks.{rank_in}
use Rattle.face_ranks.proofs.AscendingPlaces.{place_here, place_later, place_of_map}
use Rattle.face_changes.proofs.FacesByPairs.{by_number}
use Rattle.face_ranks.proofs.RankedOuter.{IsLeadOf, by_ends, ends_total, outer_in, Compared, compared, face_beside, outers, outers_ascend, outer_lead, lead_listed, one_outer, first, no_outer_first}
use Rattle.face_ranks.proofs.RankedOuter.Compared.{same, less, more}
use Rattle.face_ranks.proofs.RankOrder.{faces_exact, lead_on, rank_bounded}

pub key_total : IsTotalOrder key_cmp
key_total = then_total (on_total (λ (k : RankKey). k.source) point_cmp_total) (on_total (λ (k : RankKey). k.target) point_cmp_total)

not_both : (c : Ordering) → c ≡ Less → c ≡ Equal → ⊥
not_both c i j = cc

-- the keys have one face
abbrev pub same_key_face : RankKey → RankKey → Bool
same_key_face a b = a.face.0 == b.face.0

-- the rank of a face is the place of its key
ranked_place : (rank : FaceId → ℕ) (n : ℕ) (ks : List RankKey) (a : FaceId) → AreRanked rank n ks → Member a (map (λ k. k.face) ks) → rank a ≡ n + position_or_len (λ k. same_face a k.face) ks
unfolding AreRanked
ranked_place rank n [] a r m = absurd m
ranked_place rank n (k ∷ ks) a r m = step (same_face a k.face) refl m (λ i. ranked_place rank (n + 1) ks a r.1 i)
  where
    step : (b : Bool) → same_face a k.face ≡ b → Member a (map (λ k. k.face) (k ∷ ks)) → (Member a (map (λ k. k.face) ks) → rank a ≡ n + 1 + position_or_len (λ k. same_face a k.face) ks) → rank a ≡ n + position_or_len (λ k. same_face a k.face) (k ∷ ks)
    step true t m f =
        let e = ap rank (faces_exact.path a k.face t) in
        let p = place_here (λ (k : RankKey). same_face a k.face) k ks t in
        let q = r.0 in
        omega arith
    step false t (inl e) f = clash (subst (λ x. same_face a x ≡ true) e (faces_exact.itself a)) t
    step false t (inr i) f =
        let ih = f i in
        let p = place_later (λ (k : RankKey). same_face a k.face) k ks t in
        omega arith

module _ (v : View) (f : Faces) (l : Lists) (s : IsSound v f) (on : AreDartsOn v f l) where
  -- the key of a cycle, by its least dart
  abbrev pub dart_key : DartId → RankKey
  dart_key d = record { source = source (dart_in v d); target = target (dart_in v d); face = face_beside v f s d }

  -- those of the ranked faces after the first
  abbrev pub ranked_keys : List RankKey
  ranked_keys = map dart_key (outers v f s)

  pub key_of : (a : FaceId) (d : DartId) → IsLeadOf v f a d → cycle_rank_key v f l (cycle_in f d) ≡ dart_key d
  key_of a d k =
      let x = on (cycle_in f d) k.outer.0 in
      let e : lead_in v (l.dart_on (cycle_in f d)) ≡ dart_in v d = (s.cycled.orbits (l.dart_on (cycle_in f d)) d x.0 k.has).0 x.1 ∙ sym k.least in
      λ i. record { source = source (e i); target = target (e i); face = face_in f (cycle_in f d) }

  outer_of : (c : CycleId) → Member c (map cycle_id (names f.cycles)) → is_outer_in f c ≡ true → IsOuterOf f (face_in f c) c
  outer_of c m t =
      let n = of_map cycle_id c (names f.cycles) m in
      (name_has f.cycles c.0 (subst (λ k. Member k (names f.cycles)) (sym (ap (λ (x : CycleId). x.0) n.2)) n.1), refl, outer_kind (kind_in f c) t)

  pub into : (k : RankKey) → Member k (outer_keys v f l) → Member k ranked_keys
  into k m =
      let c = of_map (cycle_rank_key v f l) k (filter (is_outer_in f) (map cycle_id (names f.cycles))) m in
      let r = of_filter (is_outer_in f) c.0 (map cycle_id (names f.cycles)) c.1 in
      let o = outer_of c.0 r.0 r.1 in
      let x = on c.0 o.0 in
      let d = lead_on v f s (face_in f c.0) c.0 o (l.dart_on c.0) x.0 x.1 in
      let one = one_outer v f s (face_in f c.0) (cycle_in f d.0) c.0 d.1.outer o in
      let key : dart_key d.0 ≡ cycle_rank_key v f l (cycle_in f d.0) = sym (key_of (face_in f c.0) d.0 d.1) in
      let is : cycle_rank_key v f l (cycle_in f d.0) ≡ k = ap (cycle_rank_key v f l) one ∙ sym c.2 in
      subst (λ y. Member y ranked_keys) (key ∙ is) (in_map dart_key d.0 (outers v f s) (lead_listed v f s (face_in f c.0) d.0 d.1))

  pub back : (k : RankKey) → Member k ranked_keys → Member k (outer_keys v f l)
  back k m =
      let d = of_map dart_key k (outers v f s) m in
      let L = outer_lead v f s d.0 d.1 in
      let c = cycle_in f d.0 in
      subst (λ y. Member y (outer_keys v f l)) (key_of (face_beside v f s d.0) d.0 L ∙ sym d.2)
      (in_map (cycle_rank_key v f l) c (filter (is_outer_in f) (map cycle_id (names f.cycles)))
      (in_filter (is_outer_in f) c (map cycle_id (names f.cycles)) (in_map cycle_id c.0 (names f.cycles) (has_name f.cycles c.0 L.outer.0)) (outer_in (kind_in f c) L.outer.2)))

  -- no two of the cycles have one face
  apart_from : (ns : List ℕ) → NamesAscend ns → ((n : ℕ) → Member n ns → Member n (names f.cycles)) → IsDistinct same_key_face (outer_keys_of v f l (map cycle_id ns))
  unfolding IsDistinct
  apart_from [] a h = tt
  apart_from (n ∷ ns) a h = step (is_outer_in f (cycle_id n)) refl (apart_from ns a.1 (λ m i. h m (inr i)))
    where
      listed : (m : ℕ) → Member m (n ∷ ns) → Member (cycle_id m) (map cycle_id (names f.cycles))
      listed m i = in_map cycle_id m (names f.cycles) (h m i)

      other : is_outer_in f (cycle_id n) ≡ true → (k : RankKey) → Member k (outer_keys_of v f l (map cycle_id ns)) → same_key_face (cycle_rank_key v f l (cycle_id n)) k ≡ false
      other t k i =
          let c = of_map (cycle_rank_key v f l) k (filter (is_outer_in f) (map cycle_id ns)) i in
          let r = of_filter (is_outer_in f) c.0 (map cycle_id ns) c.1 in
          let m = of_map cycle_id c.0 ns r.0 in
          let O = outer_of (cycle_id n) (listed n (inl refl)) t in
          let K = outer_of c.0 (subst (λ x. Member x (map cycle_id (names f.cycles))) (sym m.2) (listed m.0 (inr m.1))) r.1 in
          false_from_ne_true _ (λ q.
          let face : face_in f (cycle_id n) ≡ face_in f c.0 = by_number _ _ (eqb-true (face_in f (cycle_id n)).0 k.face.0 q) ∙ ap (λ (x : RankKey). x.face) c.2 in
          let one = one_outer v f s (face_in f c.0) (cycle_id n) c.0 (subst (λ x. IsOuterOf f x (cycle_id n)) face O) K in
          let number : n ≡ m.0 = ap (λ (x : CycleId). x.0) (one ∙ m.2) in
          let lower : n < m.0 = All-member (λ k. n < k) m.0 ns a.0 m.1 in
          absurd (omega arith))

      step : (b : Bool) → is_outer_in f (cycle_id n) ≡ b → IsDistinct same_key_face (outer_keys_of v f l (map cycle_id ns)) → IsDistinct same_key_face (map (cycle_rank_key v f l) (cond b (cycle_id n ∷ filter (is_outer_in f) (map cycle_id ns)) (filter (is_outer_in f) (map cycle_id ns))))
      step true t d = (all_members _ (outer_keys_of v f l (map cycle_id ns)) (other t), d)
      step false t d = d

  pub keys_apart : IsDistinct same_key_face (outer_keys v f l)
  keys_apart = apart_from (names f.cycles) s.complete.cycles_ascend (λ n i. i)

  pub keys_have : AllByRecursion (λ k. HasFace f k.face) (outer_keys v f l)
  keys_have = all_members _ (outer_keys v f l) (λ k m. let d = of_map dart_key k (outers v f s) (into k m) in subst (λ (x : RankKey). HasFace f x.face) (sym d.2) (s.complete.face_has (cycle_in f d.0) (outer_lead v f s d.0 d.1).outer.0))

  -- ---- in order
  pub ranked_ascend : IsAscending key_cmp ranked_keys
  ranked_ascend = IsAscending-map (by_ends v) key_cmp dart_key (outers v f s) (λ d e m n h. h) (outers_ascend v f s)

  -- keys of two darts that the order doesn't tell apart are one
  pub tied_same : (k m : RankKey) → Member k ranked_keys → Member m ranked_keys → key_cmp k m ≡ Equal → k ≡ m
  tied_same k m K M e =
      let x = of_map dart_key k (outers v f s) K in
      let y = of_map dart_key m (outers v f s) M in
      let h : by_ends v x.0 y.0 ≡ Equal = subst (λ z. key_cmp z (dart_key y.0) ≡ Equal) x.2 (subst (λ z. key_cmp k z ≡ Equal) y.2 e) in
      by x.0 y.0 x.2 y.2 h (compared (by_ends v) (outers v f s) (outers_ascend v f s) x.0 y.0 x.1 y.1)
    where
      by : (x y : DartId) → k ≡ dart_key x → m ≡ dart_key y → by_ends v x y ≡ Equal → Compared (by_ends v) x y → k ≡ m
      by x y p q h (same i) = p ∙ ap dart_key i ∙ sym q
      by x y p q h (less i) = absurd (not_both (by_ends v x y) i h)
      by x y p q h (more i) = absurd (not_both (by_ends v y x) i ((ends_total v).antisymm y x ∙ ap ordering_reverse h))

  pub tied_face : (k m : RankKey) → Member k ranked_keys → Member m ranked_keys → key_cmp k m ≡ Equal → same_key_face k m ≡ true
  tied_face k m K M e = eq-eqb k.face.0 m.face.0 (ap (λ (x : RankKey). x.face.0) (tied_same k m K M e))

  ascend : (ks : List RankKey) → AreInKeyOrder ks → IsDistinct same_key_face ks → ((k : RankKey) → Member k ks → Member k ranked_keys) → IsAscending key_cmp ks
  unfolding AreInKeyOrder IsDistinct
  ascend [] o d h = tt
  ascend (k ∷ ks) o d h = (
    all_members _ ks (λ m i. step m (key_cmp k m) refl (All-member (λ x. is_lt (key_cmp x k) ≡ false) m ks o.0 i) (All-member (λ x. same_key_face k x ≡ false) m ks d.0 i) (tied_face k m (h k (inl refl)) (h m (inr i)))),
    ascend ks o.1 d.1 (λ m i. h m (inr i)),
  )
    where
      step : (m : RankKey) (c : Ordering) → key_cmp k m ≡ c → is_lt (key_cmp m k) ≡ false → same_key_face k m ≡ false → (key_cmp k m ≡ Equal → same_key_face k m ≡ true) → key_cmp k m ≡ Less
      step m Less e a b t = e
      step m Equal e a b t = clash (t e) b
      step m Greater e a b t = clash (ap is_lt (key_total.antisymm m k ∙ ap ordering_reverse e)) a

  -- the keys in order
  pub in_order : (ks : List RankKey) → IsPermutation (outer_keys v f l) ks → AreInKeyOrder ks → ks ≡ ranked_keys
  in_order ks p o =
      let there : (k : RankKey) → Member k ks → Member k ranked_keys = λ k m. into k (to_member (outer_keys v f l) k (Contains-permutation ks (outer_keys v f l) k (IsPermutation-sym (outer_keys v f l) ks p) (from_member ks k m))) in
      ascending_unique key_cmp key_total ks ranked_keys
      (ascend ks o (IsDistinct-IsPermutation same_key_face (λ x y. turned_test x.face.0 y.face.0) (outer_keys v f l) ks p keys_apart) there)
      ranked_ascend there
      (λ k m. to_member ks k (Contains-permutation (outer_keys v f l) ks k p (from_member (outer_keys v f l) k (back k m))))

  -- so each bounded face has its rank
  pub ranks_given : (rank : FaceId → ℕ) (ks : List RankKey) → IsPermutation (outer_keys v f l) ks → AreInKeyOrder ks → AreRanked rank 1 ks → (a : FaceId) (d : DartId) → IsLeadOf v f a d → rank a ≡ rank_in v f a
  ranks_given rank ks p o r a d k =
      let e = in_order ks p o in
      let i = ranked_place rank 1 ranked_keys a (subst (AreRanked rank 1) e r) (subst (λ x. Member x (map (λ y. y.face) ranked_keys)) k.outer.1 (in_map (λ (y : RankKey). y.face) (dart_key d) ranked_keys (in_map dart_key d (outers v f s) (lead_listed v f s a d k)))) in
      i ∙ ap (λ n. 1 + n) (place_of_map dart_key (λ (y : RankKey). same_face a y.face) (outers v f s)) ∙ sym (rank_bounded v f s a d k)

  -- none of them is of the first face
  pub no_key_first : (a : FaceId) → a ≡ first v f s → AllByRecursion (λ k. k.face ≡ a → ⊥) (outer_keys v f l)
  no_key_first a is =
      all_members _ (outer_keys v f l) (λ k m e.
      let d = of_map dart_key k (outers v f s) (into k m) in
      let L = (outer_lead v f s d.0 d.1).outer in
      no_outer_first v f s (cycle_in f d.0) (subst (λ x. IsOuterOf f x (cycle_in f d.0)) (sym (ap (λ (x : RankKey). x.face) d.2) ∙ e ∙ is) L))
