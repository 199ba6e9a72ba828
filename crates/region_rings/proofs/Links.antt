-- The end that is met next: it follows one only, and of all ends of the vertex it is met first.
use Rattle.std.proofs.Common.{◌≡◌, ◌≢◌, ℕ, zero, suc, ◌+◌, ◌<◌, ◌≤◌, Bool, true, false, cond, not, ◌&&◌, ◌||◌, inl, inr, arith, refl, sym, ap, ◌∙◌, subst, Equal, List, map, length, get_or, is_lt, Contains}
use Rattle.std.specs.List.{range_with_len}
use Rattle.std.specs.List.Sorted.{IsPermutation}
use Rattle.std.specs.Cmp.{tied_itself}
use Rattle.std.proofs.lemmas.Bool.{cases_lt}
use Rattle.std.proofs.lemmas.Bool.Decides.{nat_tests}
use Rattle.std.proofs.lemmas.List.Elements.{Contains-append_left, Contains-append_right, Contains-append_cases}
use Rattle.std.proofs.lemmas.List.Sorted.{Contains-permutation, IsPermutation-sym}
use lib.Dec.{ltb}
use Rattle.exact_plane.specs.Point.{Point}
use Rattle.plane_graphs.proofs.Ascending.{to_member, from_member}
use Rattle.plane_graphs.proofs.Lists.{in_map, of_map}
use Rattle.plane_graphs.proofs.Sorting.{any_default}
use Rattle.dart_orbits.proofs.Ranges.{in_range, range_in}
use Rattle.region_rings.specs.declared.spokes.Spoke.{Spoke}
use Rattle.polygon_sets.specs.ClosedBorders.{way, way_before, is_sooner, IsNextSide, no_dart, dart_at}
use Rattle.region_rings.specs.Spokes.{spoke, out_spoke, in_spoke, spokes_by, turn_cmp, spoke_cmp, no_spoke, spoke_in, AreSpokes}
use Rattle.region_rings.specs.Nexts.{vertex_at, IsFirstAt, IsFollower, beside, round, AreLinked, AreNexts}
use Rattle.region_rings.proofs.KeyOrder.{before_is}
use Rattle.region_rings.proofs.SpokeOrder.{spoke_cmp_total, between, order_is, one_place, same_place}

-- ---- numbers
met_beside : (i j c : ℕ) → j ≡ i + 1 → c ≢ j → cond (ltb i j) (not (ltb i c) || ltb j c) (not (ltb i c) && ltb j c) ≡ true
met_beside i j c e ne = grind (arith, nat_tests)

met_round : (i j c : ℕ) → j ≤ i → j ≤ c → c ≤ i → c ≢ j → cond (ltb i j) (not (ltb i c) || ltb j c) (not (ltb i c) && ltb j c) ≡ true
met_round i j c l m k ne = grind (arith, nat_tests)

module _ (ds : List (Point × Point)) where
  -- ---- what stands in the list
  pub data IsOf (s : Spoke) : Type 0 where
    goes_out : (k : ℕ) → k < length ds → s ≡ out_spoke ds k → IsOf s
    comes_in : (k : ℕ) → k < length ds → s ≡ in_spoke ds k → IsOf s

  of_part : (f : ℕ → Spoke) (s : Spoke) → Contains (map f (range_with_len 0 (length ds))) s → (k : ℕ) × (k < length ds) × (s ≡ f k)
  of_part f s m = let x = of_map f s (range_with_len 0 (length ds)) (to_member (map f (range_with_len 0 (length ds))) s m) in (x.0, in_range (length ds) x.0 x.1, x.2)

  in_part : (f : ℕ → Spoke) (k : ℕ) → k < length ds → Contains (map f (range_with_len 0 (length ds))) (f k)
  in_part f k l = from_member (map f (range_with_len 0 (length ds))) (f k) (in_map f k (range_with_len 0 (length ds)) (range_in (length ds) k l))

  module _ (ss : List Spoke) (all : IsPermutation (spokes_by ds) ss) where
    pub known : (i : ℕ) → i < length ss → IsOf (spoke_in ss i)
    known i l =
        let s = spoke_in ss i in
        let m : Contains ss s = (i, l, any_default ss i s no_spoke l) in
        elim (Contains-append_cases (map (out_spoke ds) (range_with_len 0 (length ds))) (map (in_spoke ds) (range_with_len 0 (length ds))) s (Contains-permutation ss (spokes_by ds) s (IsPermutation-sym (spokes_by ds) ss all) m)) [
          | inl a ↦ (let x = of_part (out_spoke ds) s a in goes_out x.0 x.1 x.2)
          | inr a ↦ (let x = of_part (in_spoke ds) s a in comes_in x.0 x.1 x.2)
        ]

    stands : (s : Spoke) → Contains (spokes_by ds) s → (i : ℕ) × (i < length ss) × (spoke_in ss i ≡ s)
    stands s m = let x = Contains-permutation (spokes_by ds) ss s all m in (x.0, x.1, any_default ss x.0 no_spoke s x.1 ∙ x.2)

    pub out_there : (k : ℕ) → k < length ds → (i : ℕ) × (i < length ss) × (spoke_in ss i ≡ out_spoke ds k)
    out_there k l = stands (out_spoke ds k) (Contains-append_left (map (out_spoke ds) (range_with_len 0 (length ds))) (map (in_spoke ds) (range_with_len 0 (length ds))) (out_spoke ds k) (in_part (out_spoke ds) k l))

    pub in_there : (k : ℕ) → k < length ds → (i : ℕ) × (i < length ss) × (spoke_in ss i ≡ in_spoke ds k)
    in_there k l = stands (in_spoke ds k) (Contains-append_right (map (out_spoke ds) (range_with_len 0 (length ds))) (map (in_spoke ds) (range_with_len 0 (length ds))) (in_spoke ds k) (in_part (in_spoke ds) k l))

module _ (ds : List (Point × Point)) (ss : List Spoke) (h : AreSpokes ds ss) where
  pub true_or_false : {A : Type 0} → true ≡ false → A
  true_or_false e = absurd cc

  out_is : (s : Spoke) → IsOf ds s → s.is_out ≡ true → (s.dart < length ds) × (s ≡ out_spoke ds s.dart)
  out_is s (goes_out k l e) o = let d : k ≡ s.dart = sym (ap (λ (x : Spoke). x.dart) e) in (subst (λ (n : ℕ). n < length ds) d l, subst (λ (n : ℕ). s ≡ out_spoke ds n) d e)
  out_is s (comes_in k l e) o = true_or_false (sym o ∙ ap (λ (x : Spoke). x.is_out) e)

  in_is : (s : Spoke) → IsOf ds s → s.is_out ≡ false → (s.dart < length ds) × (s ≡ in_spoke ds s.dart)
  in_is s (goes_out k l e) o = true_or_false (sym (ap (λ (x : Spoke). x.is_out) e) ∙ o)
  in_is s (comes_in k l e) o = let d : k ≡ s.dart = sym (ap (λ (x : Spoke). x.dart) e) in (subst (λ (n : ℕ). n < length ds) d l, subst (λ (n : ℕ). s ≡ in_spoke ds n) d e)

  pub out_at : (i : ℕ) → i < length ss → (spoke_in ss i).is_out ≡ true → ((spoke_in ss i).dart < length ds) × (spoke_in ss i ≡ out_spoke ds (spoke_in ss i).dart)
  out_at i l o = out_is (spoke_in ss i) (known ds ss h.all i l) o

  pub in_at : (i : ℕ) → i < length ss → (spoke_in ss i).is_out ≡ false → ((spoke_in ss i).dart < length ds) × (spoke_in ss i ≡ in_spoke ds (spoke_in ss i).dart)
  in_at i l o = in_is (spoke_in ss i) (known ds ss h.all i l) o

  pub one_in : (i j : ℕ) → i < length ss → j < length ss → (spoke_in ss i).is_out ≡ false → (spoke_in ss j).is_out ≡ false → (spoke_in ss i).dart ≡ (spoke_in ss j).dart → i ≡ j
  one_in i j l m o p e = same_place ss h.ascending i j l m ((in_at i l o).1 ∙ ap (in_spoke ds) e ∙ sym (in_at j m p).1)

  -- ---- which follows
  pub of_vertex : (i j : ℕ) → IsFollower ss i j → vertex_at ss j ≡ vertex_at ss i
  of_vertex i j (beside e l s) = s
  of_vertex i j (round f n) = f.same j (omega arith) f.upto

  -- of the round of a vertex the places go from the first to the last
  from_first : (i j c : ℕ) → i < length ss → c < length ss → IsFirstAt ss i j → vertex_at ss c ≡ vertex_at ss i → j ≤ c
  from_first i j c l m f s = elim (cases_lt c j) [
    | inr a ↦ a
    | inl a ↦ absurd (before j refl a)
  ]
    where
      low : (k : ℕ) → j ≡ k + 1 → c < j → ⊥
      low k e a = let u = f.upto in f.first k e (between ss h.ascending c k i (omega arith) (omega arith) l s ∙ s ∙ sym (f.same j (omega arith) f.upto))

      before : (k : ℕ) → j ≡ k → c < j → ⊥
      before zero e a = omega arith
      before (suc k) e a = low k (omega arith) a

  to_last : (i c : ℕ) → i < length ss → c < length ss → (i + 1 < length ss → vertex_at ss (i + 1) ≢ vertex_at ss i) → vertex_at ss c ≡ vertex_at ss i → c ≤ i
  to_last i c l m n s = elim (cases_lt i c) [
    | inr a ↦ a
    | inl a ↦ absurd (n (omega arith) (between ss h.ascending i (i + 1) c (omega arith) (omega arith) m (sym s)))
  ]

  sooner_at : (i j c : ℕ) → i < length ss → c < length ss → IsFollower ss i j → vertex_at ss c ≡ vertex_at ss i → c ≢ j → cond (ltb i j) (not (ltb i c) || ltb j c) (not (ltb i c) && ltb j c) ≡ true
  sooner_at i j c l m (beside e k s) t ne = met_beside i j c e ne
  sooner_at i j c l m (round f n) t ne = met_round i j c f.upto (from_first i j c l m f t) (to_last i c l m n t) ne

  by_ways : (v a b : Point) (o p : Bool) (k m : ℕ) → is_lt (turn_cmp (spoke v a o k) (spoke v b p m)) ≡ way_before v a b
  by_ways v a b o p k m = before_is (way v a) (way v b)

  way_is : (i c : ℕ) (v a b : Point) (o p : Bool) (k m : ℕ) → i < length ss → c < length ss → spoke_in ss i ≡ spoke v a o k → spoke_in ss c ≡ spoke v b p m → ltb i c ≡ way_before v a b
  way_is i c v a b o p k m l n e f =
      sym (order_is ss h.ascending i c l n (ap (λ (x : Spoke). x.at) e ∙ sym (ap (λ (x : Spoke). x.at) f)))
      ∙ (λ t. is_lt (turn_cmp (e t) (f t))) ∙ by_ways v a b o p k m

  -- the follower is met before all others
  pub met_first : (i j c : ℕ) (v a b p : Point) (o q r : Bool) (k m n : ℕ) → i < length ss → j < length ss → c < length ss → IsFollower ss i j → c ≢ j → spoke_in ss i ≡ spoke v a o k → spoke_in ss j ≡ spoke v b q m → spoke_in ss c ≡ spoke v p r n → is_sooner v a b p ≡ true
  met_first i j c v a b p o q r k m n l w z f ne e g u =
      let x = way_is i j v a b o q k m l w e g in
      let y = way_is i c v a p o r k n l z e u in
      let t = way_is j c v b p q r m n w z g u in
      (λ s. cond (sym x s) (not (sym y s) || sym t s) (not (sym y s) && sym t s))
      ∙ sooner_at i j c l z f (ap (λ (s : Spoke). s.at) u ∙ sym (ap (λ (s : Spoke). s.at) e)) ne

  -- an end follows one only
  not_both : (i k j : ℕ) → i < k → k < length ss → IsFirstAt ss k j → j ≤ i → (i + 1 < length ss → vertex_at ss (i + 1) ≢ vertex_at ss i) → ⊥
  not_both i k j l m f u n = n (omega arith) (f.same (i + 1) (omega arith) (omega arith) ∙ sym (f.same i u (omega arith)))

  not_mixed : (i k j : ℕ) → j ≡ i + 1 → vertex_at ss j ≡ vertex_at ss i → IsFirstAt ss k j → ⊥
  not_mixed i k j e s f = f.first i e (sym s)

  pub follows_one : (i k j : ℕ) → i < length ss → k < length ss → IsFollower ss i j → IsFollower ss k j → i ≡ k
  follows_one i k j l m (beside e a s) (beside f b t) = omega arith
  follows_one i k j l m (beside e a s) (round f n) = absurd (not_mixed i k j e s f)
  follows_one i k j l m (round f n) (beside e a s) = absurd (not_mixed k i j e s f)
  follows_one i k j l m (round f n) (round g o) = elim (cases_lt i k) [
    | inl a ↦ absurd (not_both i k j a m g f.upto n)
    | inr a ↦ elim (cases_lt k i) [
      | inl b ↦ absurd (not_both k i j b l f g.upto o)
      | inr b ↦ omega arith
    ]
  ]

  -- ---- the darts
  module _ (nexts : List ℕ) (linked : AreLinked ds ss nexts) where
    next : ℕ → ℕ
    next k = get_or nexts k 0

    record IsJoined (k : ℕ) : Type 0 where
      from : ℕ
      at : ℕ
      from_in : from < length ss
      at_in : at < length ss
      follows : IsFollower ss from at
      comes : spoke_in ss from ≡ in_spoke ds k
      goes : spoke_in ss at ≡ out_spoke ds (get_or nexts k 0)
      below : get_or nexts k 0 < length ds

    joined : (k : ℕ) → k < length ds → IsJoined k
    joined k l =
        let i = in_there ds ss h.all k l in
        let d : (spoke_in ss i.0).dart ≡ k = ap (λ (x : Spoke). x.dart) i.2 in
        let w = linked.each i.0 i.1 (ap (λ (x : Spoke). x.is_out) i.2) in
        let o = out_at w.at w.within w.out in
        let e : (spoke_in ss w.at).dart ≡ get_or nexts k 0 = w.dart ∙ ap (λ n. get_or nexts n 0) d in
        record {
          from = i.0;
          at = w.at;
          from_in = i.1;
          at_in = w.within;
          follows = w.follows;
          comes = i.2;
          goes = o.1 ∙ ap (out_spoke ds) e;
          below = subst (λ (n : ℕ). n < length ds) e o.0;
        }

    rule_of : (k : ℕ) → IsJoined k → IsNextSide ds (dart_at ds k) (dart_at ds (get_or nexts k 0))
    rule_of k w =
        let d = dart_at ds k in
        let e = dart_at ds (get_or nexts k 0) in
        let one : e.0 ≡ d.1 = sym (ap (λ (x : Spoke). x.at) w.goes) ∙ of_vertex w.from w.at w.follows ∙ ap (λ (x : Spoke). x.at) w.comes in
        let out : spoke_in ss w.at ≡ spoke d.1 e.1 true (get_or nexts k 0) = w.goes ∙ ap (λ (v : Point). spoke v e.1 true (get_or nexts k 0)) one in
        record {
          joined = sym one;
          first = λ p end ne. elim end [
            | inl m ↦ (
                let there : dart_at ds m.0 ≡ (d.1, p) = any_default ds m.0 no_dart (d.1, p) m.1 ∙ m.2 in
                let c = out_there ds ss h.all m.0 m.1 in
                let is : spoke_in ss c.0 ≡ spoke d.1 p true m.0 = c.2 ∙ ap (λ (x : Point × Point). spoke x.0 x.1 true m.0) there in
                met_first w.from w.at c.0 d.1 d.0 e.1 p false true true k (get_or nexts k 0) m.0 w.from_in w.at_in c.1 w.follows
                (λ q. ne (ap (λ (x : Point × Point). x.1) (sym there) ∙ ap (λ n. (dart_at ds n).1) (sym (ap (λ (x : Spoke). x.dart) is) ∙ ap (λ n. (spoke_in ss n).dart) q ∙ ap (λ (x : Spoke). x.dart) out)))
                w.comes out is)
            | inr m ↦ (
                let there : dart_at ds m.0 ≡ (p, d.1) = any_default ds m.0 no_dart (p, d.1) m.1 ∙ m.2 in
                let c = in_there ds ss h.all m.0 m.1 in
                let is : spoke_in ss c.0 ≡ spoke d.1 p false m.0 = c.2 ∙ ap (λ (x : Point × Point). spoke x.1 x.0 false m.0) there in
                met_first w.from w.at c.0 d.1 d.0 e.1 p false true false k (get_or nexts k 0) m.0 w.from_in w.at_in c.1 w.follows
                (λ q. true_or_false (sym (ap (λ (x : Spoke). x.is_out) out) ∙ ap (λ n. (spoke_in ss n).is_out) (sym q) ∙ ap (λ (x : Spoke). x.is_out) is))
                w.comes out is)
          ];
        }

    one_before : (j k : ℕ) → IsJoined j → IsJoined k → get_or nexts j 0 ≡ get_or nexts k 0 → j ≡ k
    one_before j k a b e =
        let at : a.at ≡ b.at = same_place ss h.ascending a.at b.at a.at_in b.at_in (a.goes ∙ ap (out_spoke ds) e ∙ sym b.goes) in
        let from : a.from ≡ b.from = follows_one a.from b.from b.at a.from_in b.from_in (subst (IsFollower ss a.from) at a.follows) b.follows in
        sym (ap (λ (x : Spoke). x.dart) a.comes) ∙ ap (λ n. (spoke_in ss n).dart) from ∙ ap (λ (x : Spoke). x.dart) b.comes

    tied : (d e : Point × Point) (j k : ℕ) → d ≡ e → spoke_cmp (spoke d.0 d.1 true j) (spoke e.0 e.1 true k) ≡ Equal
    tied d e j k q = (λ i. spoke_cmp (spoke (q i).0 (q i).1 true j) (spoke e.0 e.1 true k)) ∙ tied_itself spoke_cmp_total (spoke e.0 e.1 true k)

    once : (j k : ℕ) → j < length ds → k < length ds → dart_at ds j ≡ dart_at ds k → j ≡ k
    once j k l m e =
        let a = out_there ds ss h.all j l in
        let b = out_there ds ss h.all k m in
        let same = one_place ss h.ascending a.0 b.0 a.1 b.1 ((λ i. spoke_cmp (a.2 i) (b.2 i)) ∙ tied (dart_at ds j) (dart_at ds k) j k e) in
        sym (ap (λ (x : Spoke). x.dart) a.2) ∙ ap (λ n. (spoke_in ss n).dart) same ∙ ap (λ (x : Spoke). x.dart) b.2

    pub are_nexts : AreNexts ds nexts
    are_nexts = record {
      counted = linked.counted;
      permuted = record {
        within = λ k l. (let c = linked.counted in let K : k < length ds = omega arith in let b = (joined k K).below in omega arith);
        one = λ j k l m e. (let c = linked.counted in let J : j < length ds = omega arith in let K : k < length ds = omega arith in one_before j k (joined j J) (joined k K) e);
      };
      rule = λ k l. rule_of k (joined k l);
      apart = once;
    }
