-- The rank of a face is told by counting the keys that come before its own.
use Rattle.std.proofs.Common.{◌≡◌, ℕ, ◌+◌, Bool, true, false, cond, arith, refl, sym, ap, ◌∙◌, subst, inl, inr, List, [], ◌∷◌, Ordering, Less, Equal, Greater, is_lt}
use Rattle.std.specs.Prelude.{None, Some, find}
use Rattle.std.specs.Cmp.{IsTotalOrder}
use Rattle.std.specs.List.{count_by, IsDistinct, position_or_len}
use Rattle.std.specs.Ordering.{match_ordering, ordering_reverse}
use Rattle.std.proofs.lemmas.Bool.{false_from_ne_true}
use Rattle.std.proofs.lemmas.Cmp.{tied_itself}
use Rattle.std.proofs.lemmas.List.Sums.{sum_by-cons}
use Rattle.plane_graphs.specs.Ascending.{place, ascending, Member, IsAscending}
use Rattle.plane_graphs.proofs.Ascending.{All-member, Member-ascending, ascending_is, to_member}
use Rattle.plane_graphs.proofs.Lists.{clash, of_map, in_map}
use Rattle.slab_laws.specs.declared.names.DartId.{DartId}
use Rattle.slab_laws.specs.declared.names.FaceId.{FaceId}
use Rattle.slab_laws.specs.FaceLists.{Lists, AreDartsOn}
use Rattle.slab_laws.specs.FacesSound.{IsSound, IsOuterOf}
use Rattle.slab_laws.specs.View.{View, Faces, HasFace, cycle_in}
use Rattle.slab_faces.proofs.EveryFace.{none_counted}
use Rattle.record_orders.specs.CycleKeys.{same_face}
use Rattle.dcel_records.specs.declared.ranks.RankKey.{RankKey}
use Rattle.dcel_records.specs.RankOrders.{key_cmp}
use Rattle.face_ranks.specs.OuterKeys.{cycle_rank_key, outer_keys}
use Rattle.face_ranks.specs.Ranks.{place_from_one, rank_among, rank_in}
use Rattle.face_ranks.proofs.AscendingPlaces.{place_here, place_later, place_of_map}
use Rattle.face_ranks.proofs.KeysRanked.{key_total, same_key_face, keys_apart, ranked_keys, dart_key, key_of, into, back, ranked_ascend, tied_same, tied_face}
use Rattle.face_ranks.proofs.RankOrder.{faces_exact, lead_on, rank_unbounded, rank_bounded}
use Rattle.face_ranks.proofs.RankedOuter.{IsLeadOf, face_beside, outers, outer_lead, lead_listed, one_outer, Bound, bound}
use Rattle.face_ranks.proofs.RankedOuter.Bound.{unbounded, bounded}

-- ---- the first that passes a test
module _ {X : Type 0} (q : X → Bool) where
  find_none : (xs : List X) → ((z : X) → Member z xs → q z ≡ false) → find q xs ≡ None
  find_none [] h = refl
  find_none (x ∷ xs) h = rw (h x (inl refl)) (find_none xs (λ z m. h z (inr m)))

  find_only : (k : X) (xs : List X) → Member k xs → q k ≡ true → ((z : X) → Member z xs → q z ≡ true → z ≡ k) → find q xs ≡ Some k
  find_only k [] m t only = absurd m
  find_only k (x ∷ xs) m t only = step (q x) refl m (λ n. find_only k xs n t (λ z i. only z (inr i)))
    where
      step : (b : Bool) → q x ≡ b → Member k (x ∷ xs) → (Member k xs → find q xs ≡ Some k) → find q (x ∷ xs) ≡ Some k
      step true e n ih = rw e (ap (λ (z : X). Some z) (only x (inl refl) e))
      step false e (inl i) ih = clash (subst (λ z. q z ≡ true) i t) e
      step false e (inr n) ih = rw e (ih n)

module _ {X : Type 0} (cmp : X → X → Ordering) (o : IsTotalOrder cmp) where
  -- ---- what stands in order is counted as it is
  module _ (p : X → Bool) where
    one : X → ℕ
    one x = cond (p x) 1 0

    placed : (x : X) (t : Ordering) (y : X) (ys zs : List X) → cmp x y ≡ t → ¬ (cmp x y ≡ Equal) → count_by p zs ≡ cond (p x) 1 0 + count_by p ys → count_by p (match_ordering t (x ∷ y ∷ ys) (y ∷ ys) (y ∷ zs)) ≡ cond (p x) 1 0 + count_by p (y ∷ ys)
    placed x Less y ys zs e n h = sum_by-cons (λ z. cond (p z) 1 0) x (y ∷ ys)
    placed x Equal y ys zs e n h = absurd (n e)
    placed x Greater y ys zs e n h =
        let a = sum_by-cons (λ z. cond {A = ℕ} (p z) 1 0) y zs in
        let b = sum_by-cons (λ z. cond {A = ℕ} (p z) 1 0) y ys in
        omega (arith, a, b, h)

    place_counted : (x : X) (ys : List X) → ((y : X) → Member y ys → ¬ (cmp x y ≡ Equal)) → count_by p (place cmp x ys) ≡ cond (p x) 1 0 + count_by p ys
    unfolding place
    place_counted x [] n = sum_by-cons (λ z. cond (p z) 1 0) x []
    place_counted x (y ∷ ys) n = placed x (cmp x y) y ys (place cmp x ys) refl (n y (inl refl)) (place_counted x ys (λ z m. n z (inr m)))

    ascending_counted : (same : X → X → Bool) (xs : List X) → IsDistinct same xs → ((x y : X) → Member x xs → Member y xs → cmp x y ≡ Equal → same x y ≡ true) → count_by p (ascending cmp xs) ≡ count_by p xs
    unfolding ascending IsDistinct
    ascending_counted same [] d t = refl
    ascending_counted same (x ∷ xs) d t =
        place_counted x (ascending cmp xs) (λ y m e. let M = Member-ascending cmp o y xs m in clash (t x y (inl refl) (inr M) e) (All-member (λ z. same x z ≡ false) y xs d.0 M))
        ∙ ap (λ n. cond (p x) 1 0 + n) (ascending_counted same xs d.1 (λ y z m n. t y z (inr m) (inr n)))
        ∙ sym (sum_by-cons (λ z. cond (p z) 1 0) x xs)

  -- ---- a place in an ascending list is the number of those before it
  not_before : (x y : X) → cmp x y ≡ Less → is_lt (cmp y x) ≡ false
  not_before x y h = ap is_lt (o.antisymm y x ∙ ap ordering_reverse h)

  not_itself : (x y : X) → x ≡ y → cmp x y ≡ Less → ⊥
  not_itself x y e h = let t = tied_itself o x in let k : cmp x x ≡ Less = subst (λ z. cmp x z ≡ Less) (sym e) h in absurd cc

  place_is_count : (q : X → Bool) (k : X) (xs : List X) → IsAscending cmp xs → Member k xs → q k ≡ true → ((z : X) → Member z xs → q z ≡ true → z ≡ k) → position_or_len q xs ≡ count_by (λ z. is_lt (cmp z k)) xs
  place_is_count q k [] a m t only = absurd m
  place_is_count q k (x ∷ xs) a (inl e) t only =
      let here = place_here q x xs (subst (λ z. q z ≡ true) e t) in
      let c = sum_by-cons (λ z. cond {A = ℕ} (is_lt (cmp z k)) 1 0) x xs in
      let own : cond {A = ℕ} (is_lt (cmp x k)) 1 0 ≡ 0 = ap (λ b. cond {A = ℕ} (is_lt b) 1 0) (subst (λ z. cmp z k ≡ Equal) e (tied_itself o k)) in
      let rest = none_counted (λ z. is_lt (cmp z k)) xs (λ z Z. subst (λ y. is_lt (cmp z y) ≡ false) (sym e) (not_before x z (All-member (λ y. cmp x y ≡ Less) z xs a.0 (to_member xs z Z)))) in
      omega (arith, here, c, own, rest)
  place_is_count q k (x ∷ xs) a (inr m) t only =
      let less = All-member (λ y. cmp x y ≡ Less) k xs a.0 m in
      let later = place_later q x xs (false_from_ne_true (q x) (λ s. not_itself x k (only x (inl refl) s) less)) in
      let c = sum_by-cons (λ z. cond {A = ℕ} (is_lt (cmp z k)) 1 0) x xs in
      let first : cond {A = ℕ} (is_lt (cmp x k)) 1 0 ≡ 1 = ap (λ b. cond {A = ℕ} (is_lt b) 1 0) less in
      let ih = place_is_count q k xs a.1 m t (λ z i. only z (inr i)) in
      omega (arith, later, c, first, ih)

-- ---- the ranks
module _ (v : View) (f : Faces) (l : Lists) (s : IsSound v f) (on : AreDartsOn v f l) where
  -- a key of a face is of a dart on an outer cycle of it
  key_outer : (a : FaceId) (k : RankKey) → Member k (outer_keys v f l) → same_face a k.face ≡ true → (x : DartId) × (k ≡ dart_key v f l s on x) × IsLeadOf v f (face_beside v f s x) x × IsOuterOf f a (cycle_in f x)
  key_outer a k m t =
      let x = of_map (dart_key v f l s on) k (outers v f s) (into v f l s on k m) in
      let lead = outer_lead v f s x.0 x.1 in
      (x.0, x.2, lead, subst (λ b. IsOuterOf f b (cycle_in f x.0)) (sym (faces_exact.path a k.face t ∙ ap (λ (y : RankKey). y.face) x.2)) lead.outer)

  in_order : ascending key_cmp (outer_keys v f l) ≡ ranked_keys v f l s on
  in_order =
      sym (ascending_is key_cmp key_total (outer_keys v f l) (ranked_keys v f l s on) (λ x y m n e. tied_same v f l s on x y (into v f l s on x m) (into v f l s on y n) e)
      (ranked_ascend v f l s on) (back v f l s on) (into v f l s on))

  -- those before a key are as many in any order
  count_in_order : (k : RankKey) → count_by (λ m. is_lt (key_cmp m k)) (outer_keys v f l) ≡ count_by (λ m. is_lt (key_cmp m k)) (ranked_keys v f l s on)
  count_in_order k =
      sym (ascending_counted key_cmp key_total (λ m. is_lt (key_cmp m k)) same_key_face (outer_keys v f l) (keys_apart v f l s on) (λ x y m n e. tied_face v f l s on x y (into v f l s on x m) (into v f l s on y n) e))
      ∙ ap (count_by (λ m. is_lt (key_cmp m k))) in_order

  module _ (a : FaceId) (d : DartId) (lead : IsLeadOf v f a d) where
    own : RankKey
    own = dart_key v f l s on d

    listed : Member own (ranked_keys v f l s on)
    unfolding own
    listed = in_map (dart_key v f l s on) d (outers v f s) (lead_listed v f s a d lead)

    is_own : same_face a own.face ≡ true
    unfolding own
    is_own = subst (λ b. same_face a b ≡ true) (sym lead.outer.1) (faces_exact.itself a)

    only_own : (k : RankKey) → Member k (outer_keys v f l) → same_face a k.face ≡ true → k ≡ own
    unfolding own
    only_own k m t =
        let x = key_outer a k m t in
        x.1 ∙ sym (key_of v f l s on (face_beside v f s x.0) x.0 x.2) ∙ ap (cycle_rank_key v f l) (one_outer v f s a (cycle_in f x.0) (cycle_in f d) x.3 lead.outer) ∙ key_of v f l s on a d lead

    counted : rank_among (outer_keys v f l) a ≡ rank_in v f a
    unfolding own
    counted =
        ap (place_from_one (outer_keys v f l)) (find_only (λ k. same_face a k.face) own (outer_keys v f l) (back v f l s on own listed) is_own only_own)
        ∙ ap (λ n. 1 + n) (count_in_order own ∙ sym (place_is_count key_cmp key_total (λ k. same_face a k.face) own (ranked_keys v f l s on) (ranked_ascend v f l s on) listed is_own (λ k m t. only_own k (back v f l s on k m) t)) ∙ place_of_map (dart_key v f l s on) (λ (k : RankKey). same_face a k.face) (outers v f s))
        ∙ sym (rank_bounded v f s a d lead)

  pub all_counted : (a : FaceId) → HasFace f a → rank_among (outer_keys v f l) a ≡ rank_in v f a
  all_counted a has = by (bound v f s a has)
    where
      by : Bound v f s a → rank_among (outer_keys v f l) a ≡ rank_in v f a
      by (unbounded e none) =
          ap (place_from_one (outer_keys v f l)) (find_none (λ k. same_face a k.face) (outer_keys v f l) (λ k m. false_from_ne_true _ (λ t. let x = key_outer a k m t in none (cycle_in f x.0) x.3)))
          ∙ sym (rank_unbounded v f s a has none)
      by (bounded c o u) =
          let x = s.complete.dart_has c o.0 in
          let d = lead_on v f s a c o x.0 x.1 x.2 in
          counted a d.0 d.1
