-- Keys in order, and the ranks that their faces are given.
use Rattle.std.proofs.Common.{◌≡◌, ◌≢◌, ℕ, zero, suc, ◌+◌, ◌<◌, ◌≤◌, ◌==◌, Bool, false, List, [], ◌∷◌, ◌++◌, length, take, get_or, take_all, Ordering, Less, Equal, Greater, Some, is_some, option_map, refl, sym, ap, subst, ◌∙◌, arith, inl, inr}
use Rattle.std.specs.List.{AllByRecursion, IsDistinct}
use Rattle.std.specs.List.Sorted.{IsPermutation, IsSorted}
use Rattle.std.specs.Ordering.{is_lt, ordering_then, nat_cmp}
use Rattle.std.specs.Cmp.{IsTotalOrder, then_total, on_total}
use Rattle.std.proofs.lemmas.Bool.{cases_eq, true≢false}
use Rattle.std.proofs.lemmas.List.{length-take-le, take_more}
use Rattle.std.proofs.lemmas.List.Sorted.{ranks_by, sorted_far, Contains-permutation, IsPermutation-sym}
use Rattle.integers.proofs.Tests.{same_number, turned_test}
use Rattle.exact_plane.specs.PointOrder.{point_cmp}
use Rattle.exact_plane.specs.PointOrderLaws.{point_cmp_total}
use Rattle.plane_graphs.proofs.Ascending.{All-member, to_member, from_member}
use Rattle.plane_graphs.proofs.Sorting.{all_members, member_at}
use Rattle.slab.specs.Slab.{Slab, get, ContainsKey, with_value, Updates}
use Rattle.slab.proofs.SlabLemmas.{Updates-with_value}
use Rattle.slab_laws.specs.declared.names.FaceId.{FaceId}
use Rattle.chain_laws.specs.Rows.{tabled}
use Rattle.chain_laws.proofs.Tabled.{row-tabled}
use Rattle.slab_laws.specs.Tables.{row_at}
use Rattle.slab_laws.specs.View.{face_id}
use Rattle.dcel_records.specs.declared.ranks.RankKey.{RankKey}
use Rattle.dcel_records.specs.declared.rows.StoredFace.{StoredFace}
use Rattle.dcel_records.specs.RankOrders.{key_cmp, AreInKeyOrder, AreRanked}
use Rattle.dcel_records.specs.RecordsView.{rank_or}
use Rattle.dcel_records.specs.StoredRows.{rank_at, unranked, IsReranked}
use Rattle.dcel_records.proofs.Relinked.{some_same}
use Rattle.dcel_records.proofs.Removing.{len_written}

-- ---- lists
pub all_permuted : {X : Type 0} (P Q : X → Type 0) (xs ys : List X) → IsPermutation xs ys → ((x : X) → P x → Q x) → AllByRecursion P xs → AllByRecursion Q ys
all_permuted P Q xs ys p f a = all_members Q ys (λ y m. f y (All-member P y xs a (to_member xs y (Contains-permutation ys xs y (IsPermutation-sym xs ys p) (from_member ys y m)))))

all_placed : {X : Type 0} (P : X → Type 0) (xs : List X) → ((j : ℕ) (d : X) → j < length xs → P (get_or xs j d)) → AllByRecursion P xs
all_placed P [] h = tt
all_placed P (x ∷ xs) h = (h 0 x (omega arith), all_placed P xs (λ j d l. h (suc j) d (omega (arith, l))))

-- an element of a list whose elements differ differs from those before it
apart : {X : Type 0} (same : X → X → Bool) (xs : List X) (i : ℕ) (d : X) → i < length xs → IsDistinct same xs → AllByRecursion (λ x. same x (get_or xs i d) ≡ false) (take i xs)
unfolding IsDistinct
apart same [] i d l h = absurd (omega (arith, l))
apart same (x ∷ xs) zero d l h = tt
apart same (x ∷ xs) (suc i) d l h = (All-member (λ y. same x y ≡ false) (get_or xs i d) xs h.0 (member_at xs i d (omega (arith, l))), apart same xs i d (omega (arith, l)) h.1)

-- ---- the order
key_cmp_total : IsTotalOrder key_cmp
key_cmp_total = then_total (on_total (λ k. k.source) point_cmp_total) (on_total (λ k. k.target) point_cmp_total)

in_order : (ks : List RankKey) → ((i j : ℕ) (d : RankKey) → i ≤ j → j < length ks → is_lt (key_cmp (get_or ks j d) (get_or ks i d)) ≡ false) → AreInKeyOrder ks
unfolding AreInKeyOrder
in_order [] h = tt
in_order (k ∷ ks) h = (all_placed _ ks (λ j d l. h 0 (suc j) d (omega arith) (omega (arith, l))), in_order ks (λ i j d m l. h (suc i) (suc j) d (omega (arith, m)) (omega (arith, l))))

-- what isn't less by all parts isn't less by the first two
not_less : (a b c : Ordering) → is_lt (ordering_then a (ordering_then b c)) ≡ false → is_lt (ordering_then a b) ≡ false
not_less Less b c h = h
not_less Equal Less c h = h
not_less Equal Equal c h = refl
not_less Equal Greater c h = refl
not_less Greater b c h = refl

-- how keys are sorted: the names of the faces decide last
abbrev pub whole_cmp : RankKey → RankKey → Ordering
whole_cmp a b = ordering_then (point_cmp a.source b.source) (ordering_then (point_cmp a.target b.target) (nat_cmp a.face.0 b.face.0))

less_by_ends : (a b : RankKey) → is_lt (whole_cmp a b) ≡ false → is_lt (key_cmp a b) ≡ false
less_by_ends a b = not_less (point_cmp a.source b.source) (point_cmp a.target b.target) (nat_cmp a.face.0 b.face.0)

pub sorted_keys : (ks : List RankKey) → IsSorted whole_cmp ks → AreInKeyOrder ks
sorted_keys ks s = in_order ks (sorted_far (λ a b. is_lt (key_cmp a b)) (ranks_by key_cmp_total (λ k. k)) ks (λ k d l h. less_by_ends (get_or ks (k + 1) d) (get_or ks k d) (s k d l h)))

-- ---- ranks
ranked_more : (rank : FaceId → ℕ) (n : ℕ) (ks : List RankKey) (k : RankKey) → AreRanked rank n ks → rank k.face ≡ n + length ks → AreRanked rank n (ks ++ k ∷ [])
unfolding AreRanked
ranked_more rank n [] k r e = (omega (arith, e), tt)
ranked_more rank n (m ∷ ms) k r e = (r.0, ranked_more rank (n + 1) ms k r.1 (omega (arith, e)))

ranked_same : (rank other : FaceId → ℕ) (n : ℕ) (ks : List RankKey) → AllByRecursion (λ k. other k.face ≡ rank k.face) ks → AreRanked rank n ks → AreRanked other n ks
unfolding AreRanked
ranked_same rank other n [] h r = tt
ranked_same rank other n (k ∷ ks) h r = (h.0 ∙ r.0, ranked_same rank other (n + 1) ks h.1 r.1)

abbrev pub same_face : RankKey → RankKey → Bool
same_face a b = a.face.0 == b.face.0

pub face_flips : (a b : RankKey) → same_face a b ≡ same_face b a
face_flips a b = turned_test a.face.0 b.face.0

abbrev pub row_ranked : ℕ → StoredFace → StoredFace
row_ranked n r = record { first_cycle = r.first_cycle; first_bare = r.first_bare; rank = n }

pub none_ranked : (fs : Slab StoredFace) → IsReranked fs fs
none_ranked fs = record { rests = λ k. refl; len = refl; capacity = refl }

pub ranked_none : (rank : FaceId → ℕ) (ks : List RankKey) → AreRanked rank 1 (take 0 ks)
unfolding AreRanked
ranked_none rank ks = tt

pub ranked_all : (rank : FaceId → ℕ) (ks : List RankKey) (i : ℕ) → length ks ≤ i → AreRanked rank 1 (take i ks) → AreRanked rank 1 ks
ranked_all rank ks i l r = subst (λ ms. AreRanked rank 1 ms) (take_all i ks l) r

-- one face more has a rank
pub one_ranked : (old s : Slab StoredFace) (a n : ℕ) (q : StoredFace) → get s a ≡ Some q → IsReranked old s → IsReranked old (with_value s a (row_ranked n q))
one_ranked old s a n q g r = record { rests = λ j. same j ∙ r.rests j; len = len_written s a q (row_ranked n q) g ∙ r.len; capacity = r.capacity }
  where
    u : Updates s (with_value s a (row_ranked n q)) a (Some (row_ranked n q))
    u = Updates-with_value s a (row_ranked n q) (ap is_some g)

    same : (j : ℕ) → option_map unranked (get (with_value s a (row_ranked n q)) j) ≡ option_map unranked (get s j)
    same j = elim (cases_eq j a) [
      | inl z ↦ ap (λ m. option_map unranked (get (with_value s a (row_ranked n q)) m)) z ∙ ap (option_map unranked) u.changed ∙ sym (ap (option_map unranked) g) ∙ ap (λ m. option_map unranked (get s m)) (sym z)
      | inr ne ↦ ap (option_map unranked) (u.others j ne)
    ]

pub zero_written : (s : Slab StoredFace) (q : StoredFace) → get s 0 ≡ Some q → rank_at (with_value s 0 (row_ranked 0 q)) (face_id 0) ≡ 0
zero_written s q g = ap (λ o. rank_or (option_map (λ r. r.rank) o)) (Updates-with_value s 0 (row_ranked 0 q) (ap is_some g)).changed

module _ (old s : Slab StoredFace) (ks : List RankKey) (i : ℕ) (k : RankKey) (e : k ≡ get_or ks i k) (l : i < length ks) where
  pub key_there : IsReranked old s → AllByRecursion (λ m. ContainsKey old m.face.0) ks → ContainsKey s k.face.0
  key_there r a = some_same unranked (get s k.face.0) (get old k.face.0) (r.rests k.face.0) ∙ subst (λ (m : RankKey). ContainsKey old m.face.0) (sym e) (All-member (λ m. ContainsKey old m.face.0) (get_or ks i k) ks a (member_at ks i k l))

  module _ (q : StoredFace) (g : get s k.face.0 ≡ Some q) where
    abbrev written : Slab StoredFace
    written = with_value s k.face.0 (row_ranked (i + 1) q)

    u : Updates s written k.face.0 (Some (row_ranked (i + 1) q))
    u = Updates-with_value s k.face.0 (row_ranked (i + 1) q) (ap is_some g)

    pub rank_written : IsReranked old s → IsReranked old written
    rank_written = one_ranked old s k.face.0 (i + 1) q g

    pub zero_kept : (AllByRecursion (λ m. m.face ≢ face_id 0) ks → rank_at s (face_id 0) ≡ 0) → AllByRecursion (λ m. m.face ≢ face_id 0) ks → rank_at written (face_id 0) ≡ 0
    zero_kept h z =
        let ne = All-member (λ (m : RankKey). m.face ≢ face_id 0) (get_or ks i k) ks z (member_at ks i k l) in
        ap (λ o. rank_or (option_map (λ r. r.rank) o)) (u.others 0 (λ w. ne (ap (λ (m : RankKey). m.face) (sym e) ∙ (λ j. record { 0 = sym w j })))) ∙ h z

    kept : (m : RankKey) → same_face m (get_or ks i k) ≡ false → rank_at written m.face ≡ rank_at s m.face
    kept m b = ap (λ o. rank_or (option_map (λ r. r.rank) o)) (u.others m.face.0 (λ w. true≢false (sym (same_number k.face.0) ∙ ap (λ n. n == k.face.0) (sym w) ∙ ap (λ (x : RankKey). m.face.0 == x.face.0) e ∙ b)))

    pub ranks_written : (IsDistinct same_face ks → AreRanked (rank_at s) 1 (take i ks)) → IsDistinct same_face ks → AreRanked (rank_at written) 1 (take (i + 1) ks)
    ranks_written h z = subst (λ ms. AreRanked (rank_at written) 1 ms) (sym taken) (ranked_more (rank_at written) 1 (take i ks) k (ranked_same (rank_at s) (rank_at written) 1 (take i ks) others (h z)) here)
      where
        taken : take (i + 1) ks ≡ take i ks ++ k ∷ []
        taken = take_more ks i k l ∙ ap (λ m. take i ks ++ m ∷ []) (sym e)

        here : rank_at written k.face ≡ 1 + length (take i ks)
        here = let a = ap (λ o. rank_or (option_map (λ r. r.rank) o)) u.changed in let b = length-take-le i ks (omega (arith, l)) in omega (arith, a, b)

        others : AllByRecursion (λ m. rank_at written m.face ≡ rank_at s m.face) (take i ks)
        others = all_members _ (take i ks) (λ m y. kept m (All-member (λ x. same_face x (get_or ks i k) ≡ false) m (take i ks) (apart same_face ks i k l z) y))

-- what a caller sees of the rank
pub rank_seen : (fs : Slab StoredFace) (a : FaceId) → rank_or (row_at (tabled (λ r. r.rank) fs) a.0) ≡ rank_at fs a
rank_seen fs a = ap rank_or (row-tabled (λ r. r.rank) fs a.0)

pub ranked_seen : (fs : Slab StoredFace) (n : ℕ) (ks : List RankKey) → AreRanked (rank_at fs) n ks → AreRanked (λ a. rank_or (row_at (tabled (λ r. r.rank) fs) a.0)) n ks
ranked_seen fs n ks r = ranked_same (rank_at fs) (λ a. rank_or (row_at (tabled (λ r. r.rank) fs) a.0)) n ks (all_members _ ks (λ k m. rank_seen fs k.face)) r
