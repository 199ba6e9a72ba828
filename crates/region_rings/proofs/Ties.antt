-- Where two ends at one vertex lead in one direction, the darts aren't a closed border.
use Rattle.std.proofs.Common.{◌≡◌, ℕ, ◌+◌, ◌-◌, ◌<◌, ◌≤◌, Bool, true, false, cond, inl, inr, arith, refl, sym, ap, ◌∙◌, Ordering, Less, Equal, Greater, List, map, length, get_or, is_lt}
use Rattle.std.specs.Prelude.{◌==◌}
use Rattle.std.specs.List.{IsDistinct, range_with_len}
use Rattle.std.specs.List.Sorted.{IsPermutation}
use Rattle.std.specs.Ordering.{ordering_reverse}
use Rattle.std.proofs.lemmas.Bool.{cases_lt}
use Rattle.std.proofs.lemmas.List.{get_or-map, length-map, length-append, get_or_append_left, get_or-append_right}
use Rattle.std.proofs.lemmas.List.FromFn.{get_or-range_with_len, length-range_with_len}
use Rattle.std.proofs.lemmas.Map.Keys.{IsDistinct-from_apart, apart_from_distinct, IsDistinct-IsPermutation}
use Rattle.integers.proofs.Classes.{then_equal}
use Rattle.integers.proofs.Tests.{same_number, other_number, turned_test}
use Rattle.exact_plane.specs.Point.{Point}
use Rattle.exact_plane.specs.PointOrder.{point_cmp}
use Rattle.exact_plane.specs.PointOrderLaws.{same_point}
use Rattle.region_rings.specs.declared.spokes.Spoke.{Spoke}
use Rattle.polygon_sets.specs.ClosedBorders.{way, end_of, IsClosedBorder, dart_at}
use Rattle.region_rings.specs.Nexts.{vertex_at}
use Rattle.region_rings.specs.Spokes.{spoke, out_spoke, in_spoke, spokes_by, turn_cmp, spoke_cmp, no_spoke, spoke_in}
use Rattle.region_rings.proofs.KeyOrder.{before_is}
use Rattle.region_rings.proofs.Links.{IsOf, goes_out, comes_in, known}
use Rattle.region_rings.proofs.SpokeOrder.{turn_cmp_total, spoke_cmp_total}

-- an end by a number of its own
abbrev code : Spoke → ℕ
code s = cond s.is_out (s.dart + s.dart + 1) (s.dart + s.dart)

abbrev same_end : Spoke → Spoke → Bool
same_end s t = code s == code t

zero_more : (i : ℕ) → 0 + i ≡ i
zero_more i = omega arith

module _ (ds : List (Point × Point)) where
  counted : length (map (out_spoke ds) (range_with_len 0 (length ds))) ≡ length ds
  counted = length-map (range_with_len 0 (length ds)) (out_spoke ds) ∙ length-range_with_len 0 (length ds)

  counted_in : length (map (in_spoke ds) (range_with_len 0 (length ds))) ≡ length ds
  counted_in = length-map (range_with_len 0 (length ds)) (in_spoke ds) ∙ length-range_with_len 0 (length ds)

  both_counted : length (spokes_by ds) ≡ length ds + length ds
  both_counted = length-append (map (out_spoke ds) (range_with_len 0 (length ds))) (map (in_spoke ds) (range_with_len 0 (length ds))) ∙ (λ i. counted i + counted_in i)

  of_number : (f : ℕ → Spoke) (i : ℕ) (d : Spoke) → i < length ds → get_or (map f (range_with_len 0 (length ds))) i d ≡ f i
  of_number f i d l =
      let n = length-range_with_len 0 (length ds) in
      let z : get_or (range_with_len 0 (length ds)) i 0 ≡ i = get_or-range_with_len 0 (length ds) i 0 l ∙ zero_more i in
      get_or-map f (range_with_len 0 (length ds)) i 0 d (omega arith) ∙ ap f z

  low : (i : ℕ) (d : Spoke) → i < length ds → code (get_or (spokes_by ds) i d) ≡ i + i + 1
  low i d l =
      let n = counted in
      ap code (get_or_append_left (map (out_spoke ds) (range_with_len 0 (length ds))) (map (in_spoke ds) (range_with_len 0 (length ds))) d i (omega arith) ∙ of_number (out_spoke ds) i d l)

  high : (i : ℕ) (d : Spoke) → length ds ≤ i → i < length (spokes_by ds) → code (get_or (spokes_by ds) i d) ≡ (i - length ds) + (i - length ds)
  high i d l m =
      let b = both_counted in
      ap code (get_or-append_right (map (out_spoke ds) (range_with_len 0 (length ds))) (map (in_spoke ds) (range_with_len 0 (length ds))) (length ds) i d counted l ∙ of_number (in_spoke ds) (i - length ds) d (omega arith))

  differ : (i j : ℕ) (d : Spoke) → i < j → j < length (spokes_by ds) → same_end (get_or (spokes_by ds) i d) (get_or (spokes_by ds) j d) ≡ false
  differ i j d l m = other_number (code (get_or (spokes_by ds) i d)) (code (get_or (spokes_by ds) j d)) (λ q. elim (cases_lt j (length ds)) [
    | inl a ↦ (let x = low i d (omega arith) in let y = low j d a in omega (arith, q, x, y, l))
    | inr a ↦ elim (cases_lt i (length ds)) [
      | inl b ↦ (let x = low i d b in let y = high j d a m in omega (arith, q, x, y, a))
      | inr b ↦ (let x = high i d b (omega arith) in let y = high j d a m in omega (arith, q, x, y, l, a, b))
    ]
  ])

  module _ (ss : List Spoke) (all : IsPermutation (spokes_by ds) ss) where
    distinct : IsDistinct same_end ss
    distinct = IsDistinct-IsPermutation same_end (λ s t. turned_test (code s) (code t)) (spokes_by ds) ss all (IsDistinct-from_apart same_end (spokes_by ds) differ)

    no_two : (i k : ℕ) → i < k → k < length ss → spoke_in ss i ≡ spoke_in ss k → ⊥
    no_two i k l m e =
        let f = apart_from_distinct same_end ss i k no_spoke distinct l m in
        let t : same_end (spoke_in ss i) (spoke_in ss k) ≡ true = ap (λ (s : Spoke). same_end s (spoke_in ss k)) e ∙ same_number (code (spoke_in ss k)) in
        let g : true ≡ false = sym t ∙ f in
        cc

    abbrev end_spoke : ℕ → Bool → Spoke
    end_spoke m o = spoke (end_of (dart_at ds m) o).0 (end_of (dart_at ds m) o).1 o m

    record IsEnd (s : Spoke) : Type 0 where
      number : ℕ
      out : Bool
      within : number < length ds
      is : s ≡ spoke (end_of (dart_at ds number) out).0 (end_of (dart_at ds number) out).1 out number

    as_end : (s : Spoke) → IsOf ds s → IsEnd s
    as_end s (goes_out k l e) = record { number = k; out = true; within = l; is = e }
    as_end s (comes_in k l e) = record { number = k; out = false; within = l; is = e }

    tied_ends : (i k : ℕ) → i < k → k < length ss → spoke_cmp (spoke_in ss i) (spoke_in ss k) ≡ Equal → IsEnd (spoke_in ss i) → IsEnd (spoke_in ss k) → IsClosedBorder ds → ⊥
    tied_ends i k l m e s t closed =
        let a = end_of (dart_at ds s.number) s.out in
        let b = end_of (dart_at ds t.number) t.out in
        let tie = then_equal (point_cmp (vertex_at ss i) (vertex_at ss k)) (turn_cmp (spoke_in ss i) (spoke_in ss k)) e in
        let one : a.0 ≡ b.0 = sym (ap (λ (x : Spoke). x.at) s.is) ∙ same_point (vertex_at ss i) (vertex_at ss k) tie.0 ∙ ap (λ (x : Spoke). x.at) t.is in
        let first : spoke_in ss i ≡ spoke b.0 a.1 s.out s.number = s.is ∙ ap (λ (v : Point). spoke v a.1 s.out s.number) one in
        let back : turn_cmp (spoke_in ss k) (spoke_in ss i) ≡ Equal = turn_cmp_total.antisymm (spoke_in ss k) (spoke_in ss i) ∙ ap ordering_reverse tie.1 in
        let same = closed.apart s.number t.number s.out t.out s.within t.within one (
          sym (before_is (way b.0 a.1) (way b.0 b.1)) ∙ ap is_lt (sym (λ x. turn_cmp (first x) (t.is x)) ∙ tie.1),
          sym (before_is (way b.0 b.1) (way b.0 a.1)) ∙ ap is_lt (sym (λ x. turn_cmp (t.is x) (first x)) ∙ back),
        ) in
        no_two i k l m (s.is ∙ (λ x. spoke (end_of (dart_at ds (same.0 x)) (same.1 x)).0 (end_of (dart_at ds (same.0 x)) (same.1 x)).1 (same.1 x) (same.0 x)) ∙ sym t.is)

    equal_by : (o p : Ordering) → p ≡ ordering_reverse o → is_lt o ≡ false → is_lt p ≡ false → o ≡ Equal
    equal_by Less p e f g = cc
    equal_by Equal p e f g = refl
    equal_by Greater p e f g = (let h : true ≡ false = sym (ap is_lt e) ∙ g in cc)

    -- neighbours that don't ascend, in a list that doesn't fall
    pub not_apart : (k : ℕ) → k + 1 < length ss → is_lt (spoke_cmp (spoke_in ss k) (spoke_in ss (k + 1))) ≡ false → is_lt (spoke_cmp (spoke_in ss (k + 1)) (spoke_in ss k)) ≡ false → IsClosedBorder ds → ⊥
    not_apart k l f g closed =
        let e = equal_by (spoke_cmp (spoke_in ss k) (spoke_in ss (k + 1))) (spoke_cmp (spoke_in ss (k + 1)) (spoke_in ss k)) (spoke_cmp_total.antisymm (spoke_in ss (k + 1)) (spoke_in ss k)) f g in
        tied_ends k (k + 1) (omega arith) l e (as_end (spoke_in ss k) (known ds ss all k (omega arith))) (as_end (spoke_in ss (k + 1)) (known ds ss all (k + 1) l)) closed
