-- The order in which sides begin: what begins before a side comes before it.
use Rattle.std.proofs.Common.{◌≡◌, ◌⊎◌, ℕ, zero, suc, ◌+◌, ◌<◌, ◌≤◌, List, [], ◌∷◌, true, false, length, take, get_or, refl, sym, ap, ◌∙◌, subst, inl, inr, ⊎_elim, add-one, arith, is_lt, Ordering, Less}
use Rattle.std.specs.Cmp.{IsTotalOrder, back_total, on_total}
use Rattle.std.specs.Ordering.{ordering_then}
use Rattle.std.proofs.lemmas.Bool.{cases_lt}
use Rattle.std.proofs.lemmas.Cmp.{then_total}
use Rattle.std.proofs.lemmas.List.MinMax.{ranks_by}
use Rattle.std.proofs.lemmas.List.Sorted.{Contains-permutation, IsPermutation-sym, sorted_far}
use Rattle.exact_plane.specs.Point.{Point}
use Rattle.exact_plane.specs.PointOrder.{point_cmp}
use Rattle.exact_plane.specs.PointOrderLaws.{and_true, point_cmp_total}
use Rattle.exact_plane.specs.Segment.{Segment}
use Rattle.plane_graphs.specs.Ascending.{Member}
use Rattle.plane_graphs.specs.Line.{precedes}
use Rattle.plane_graphs.proofs.Ascending.{from_member, to_member}
use Rattle.plane_graphs.proofs.Lists.{any_out, clash, decide, in_map, of_map}
use Rattle.plane_graphs.proofs.Order.{Lt, lt_out}
use Rattle.plane_graphs.proofs.Sorting.{any_default, member_at}
use Rattle.slab_laws.specs.View.{View, Faces}
use Rattle.face_location.specs.Spots.{IsSpotOf}
use Rattle.zone_walk.specs.Zone.{is_on_segment}
use Rattle.path_zone.specs.declared.order.BegunSide.{BegunSide}
use Rattle.path_zone.specs.declared.zoned.ZonedSide.{ZonedSide}
use Rattle.path_zone.specs.Begun.{begin_cmp, AreInSweepOrder}
use Rattle.path_zone.specs.PathZone.{has_behind, is_begun}
use Rattle.path_zone.specs.Zoned.{IsOnOne}

pub begin_total : IsTotalOrder begin_cmp
begin_total = then_total (on_total (λ (b : BegunSide). b.side.lower) point_cmp_total) (back_total (on_total (λ (b : BegunSide). b.side.upper) point_cmp_total))

-- ---- places
module _ {X : Type 0} where
  pub in_take : (xs : List X) (j i : ℕ) (d : X) → j < i → j < length xs → Member (get_or xs j d) (take i xs)
  in_take [] j i d h l = absurd (omega (arith, l))
  in_take (x ∷ xs) j zero d h l = absurd (omega (arith, h))
  in_take (x ∷ xs) zero (suc i) d h l = inl refl
  in_take (x ∷ xs) (suc j) (suc i) d h l = inr (in_take xs j i d (omega (arith, h)) (omega (arith, l)))

  pub of_take : (xs : List X) (i : ℕ) (x : X) → Member x (take i xs) → Member x xs
  of_take [] zero x m = m
  of_take [] (suc i) x m = m
  of_take (y ∷ ys) zero x m = absurd m
  of_take (y ∷ ys) (suc i) x (inl e) = inl e
  of_take (y ∷ ys) (suc i) x (inr m) = inr (of_take ys i x m)

  pub in_take_all : (xs : List X) (i : ℕ) (x : X) → length xs ≤ i → Member x xs → Member x (take i xs)
  in_take_all xs i x l m =
      let c = from_member xs x m in
      let k = c.1 in
      subst (λ y. Member y (take i xs)) c.2 (in_take xs c.0 i x (omega (arith, k, l)) k)

  take_suc : (xs : List X) (i : ℕ) (d x : X) → i < length xs → Member x (take (suc i) xs) → Member x (take i xs) ⊎ (x ≡ get_or xs i d)
  take_suc [] i d x l m = absurd (omega (arith, l))
  take_suc (y ∷ ys) zero d x l (inl e) = inr e
  take_suc (y ∷ ys) zero d x l (inr m) = absurd m
  take_suc (y ∷ ys) (suc i) d x l (inl e) = inl (inl e)
  take_suc (y ∷ ys) (suc i) d x l (inr m) = ⊎_elim (λ k. inl (inr k)) (λ k. inr k) (take_suc ys i d x (omega (arith, l)) m)

  pub take_next : (xs : List X) (i : ℕ) (d x : X) → i < length xs → Member x (take (i + 1) xs) → Member x (take i xs) ⊎ (x ≡ get_or xs i d)
  take_next xs i d x l m = take_suc xs i d x l (subst (λ n. Member x (take n xs)) (add-one i) m)

-- a lower end that comes first decides
less_first : (r t : Ordering) → r ≡ Less → is_lt (ordering_then r t) ≡ true
less_first r t e = ap (λ (o : Ordering). is_lt (ordering_then o t)) e

module _ (v : View) (f : Faces) (ss : List Segment) (bs : List BegunSide) (w : AreInSweepOrder v f ss bs) where
  from_begun : (b : BegunSide) → Member b bs → Member b w.unsorted
  from_begun b m = to_member w.unsorted b (Contains-permutation bs w.unsorted b (IsPermutation-sym w.unsorted bs w.moved) (from_member bs b m))

  to_begun : (b : BegunSide) → Member b w.unsorted → Member b bs
  to_begun b m = to_member bs b (Contains-permutation w.unsorted bs b w.moved (from_member w.unsorted b m))

  pub side_among : (b : BegunSide) → Member b bs → Member b.side ss
  side_among b m = subst (Member b.side) w.begun.sides (in_map (λ (c : BegunSide). c.side) b w.unsorted (from_begun b m))

  -- each side is one of these
  pub begun_with : (s : Segment) → Member s ss → (b : BegunSide) × Member b bs × (s ≡ b.side)
  begun_with s m = let r = of_map (λ (c : BegunSide). c.side) s w.unsorted (subst (Member s) (sym w.begun.sides) m) in (r.0, to_begun r.0 r.1, r.2)

  -- ---- the start of one at a place
  module _ (i : ℕ) (b : BegunSide) (l : i < length bs) (e : b ≡ get_or bs i b) where
    -- one that begins before it has a place before it
    before : (c : BegunSide) → Member c bs → Lt c.side.lower b.side.lower → Member c (take i bs)
    before c m k =
        let p = from_member bs c m in
        ⊎_elim
        (λ (j : p.0 < i). subst (λ (x : BegunSide). Member x (take i bs)) p.2 (in_take bs p.0 i c j p.1))
        (λ (j : i ≤ p.0). clash (less_first (point_cmp c.side.lower b.side.lower) (point_cmp b.side.upper c.side.upper) k.is) (late p j))
        (cases_lt p.0 i)
      where
        any : (d x : BegunSide) → get_or bs i x ≡ get_or bs i d
        any d x = any_default bs i x d l

        late : (p : (j : ℕ) × (j < length bs) × (get_or bs j c ≡ c)) → i ≤ p.0 → is_lt (begin_cmp c b) ≡ false
        late p j =
            subst (λ (x : BegunSide). is_lt (begin_cmp c x) ≡ false) (any b c ∙ sym e)
            (subst (λ (x : BegunSide). is_lt (begin_cmp x (get_or bs i c)) ≡ false) p.2 (sorted_far (λ x y. is_lt (begin_cmp x y)) (ranks_by begin_total (λ x. x)) bs w.sorted i p.0 c j p.1))

    pub start_of : (zs : List ZonedSide) → ((c : BegunSide) → Member c (take i bs) → (x : Point) → is_on_segment c.side x ≡ true → IsOnOne zs x) → IsSpotOf v f b.side.lower b.start ⊎ IsOnOne zs b.side.lower
    start_of zs on =
        ⊎_elim
        (λ y. inr (later y))
        (λ n. inl (w.begun.starts b (from_begun b (subst (λ (x : BegunSide). Member x bs) (sym e) (member_at bs i b l))) n))
        (decide (is_begun ss b.side))
      where
        later : is_begun ss b.side ≡ true → IsOnOne zs b.side.lower
        later y =
            let t = any_out (λ (u : Segment). has_behind u b.side.lower) ss y in
            let h = and_true (precedes t.0.lower b.side.lower) (is_on_segment t.0 b.side.lower) t.2 in
            let c = begun_with t.0 t.1 in
            on c.0 (before c.0 c.1 (subst (λ (u : Segment). Lt u.lower b.side.lower) c.2 (lt_out t.0.lower b.side.lower h.0))) b.side.lower (subst (λ (u : Segment). is_on_segment u b.side.lower ≡ true) c.2 h.1)
