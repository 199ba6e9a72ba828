-- What the parts of an exchange tell of it.
use Rattle.std.proofs.Common.{◌≡◌, ℕ, ◌<◌, ◌≤◌, ◌+◌, ◌-◌, ℤ, pos, ◌<ℤ◌, ◌≤ℤ◌, refl, ap, sym, ◌∙◌, subst, arith, inl, inr, Bool, true, false, ◌&&◌, List, ◌++◌, length, get_or, take, drop, Less, nat_cmp, min}
use Rattle.std.specs.Prelude.{not, int_lt, nat_lt, filter, ◌⊎◌, ◌↔◌}
use Rattle.std.specs.List.Sorted.{IsPartitionPoint}
use Rattle.std.proofs.lemmas.Int.{ints}
use Rattle.std.proofs.lemmas.Bool.{cases_lt, cases_Bool}
use Rattle.std.proofs.lemmas.List.{take-append-drop, get_or-drop, drop-drop, length-take}
use Rattle.std.proofs.lemmas.Bool.Decides.{nat_tests}
use Rattle.std.proofs.lemmas.Cmp.{nat_cmp_total}
use Rattle.integers.proofs.Decisions.{lt_out, ge_out, clash}
use Rattle.integers.proofs.Tests.{nat_exact}
use Rattle.exact_plane.specs.Line.{side_of, IsOn}
use Rattle.exact_plane.specs.Point.{Point}
use Rattle.exact_plane.specs.PointOrder.{point_cmp}
use Rattle.exact_plane.specs.Span.{Span, IsAtMost}
use Rattle.exact_plane.proofs.Orders.{less_at_most, at_most_itself, at_most_both}
use Rattle.plane_graphs.specs.Ascending.{Member, IsAscending, ascending}
use Rattle.plane_graphs.specs.Line.{same_point}
use Rattle.plane_graphs.proofs.Ascending.{IsAscending-ascending, Member-ascending, ascending-Member}
use Rattle.plane_graphs.proofs.Lists.{in_filter, of_filter, in_left, in_right, in_either, IsAscending-filter}
use Rattle.plane_graphs.proofs.Order.{same_out, same_in}
use Rattle.sweep_events.specs.Places.{piece_at, is_below, is_upto, AreSpans, ArePlaces, IsPlacesOf}
use Rattle.sweep_events.specs.Runs.{ends_there}
use Rattle.sweep_events.specs.Status.{IsWaiting, run_cmp}
use Rattle.sweep_events.specs.Sweep.{IsEventAt}
use Rattle.sweep_events.specs.Exchange.{IsSplit, IsExchange}
use Rattle.sweep_status.proofs.Parts.{within_take, within_drop}
use Rattle.sweep_events.proofs.EventSteps.{in_order, not_both}
use Rattle.sweep_events.proofs.StatusCuts.{below_upto}

module _ (pieces : List Span) (q : Point) (xs : List ℕ) (spans : AreSpans pieces) (waiting : IsWaiting (piece_at pieces) (length pieces) q xs)
    (lo hi : ℕ) (lo_in : lo ≤ length xs) (hi_in : hi ≤ length xs)
    (lower_cut : IsPartitionPoint (λ i. is_below pieces q i ≡ true) (λ i. is_below pieces q i ≡ false) xs lo)
    (upper_cut : IsPartitionPoint (λ i. is_upto pieces q i ≡ true) (λ i. is_upto pieces q i ≡ false) xs hi) where
  -- the first cut comes first
  pub in_turn : lo ≤ hi
  in_turn = elim (cases_lt hi lo) [
    | inl h ↦ absurd (clash (is_upto pieces q (get_or xs hi 0)) (below_upto pieces q (get_or xs hi 0) (lower_cut.0 hi 0 (omega arith) h)) (upper_cut.1 hi 0 (omega arith) (omega (arith, h, lo_in))))
    | inr h ↦ h
  ]

  abbrev low : List ℕ
  low = take lo xs

  abbrev old : List ℕ
  old = take (hi - lo) (drop lo xs)

  abbrev high : List ℕ
  high = drop hi xs

  pub parts : xs ≡ take lo xs ++ (take (hi - lo) (drop lo xs) ++ drop hi xs)
  parts =
      sym (take-append-drop lo xs)
      ∙ ap (λ zs. take lo xs ++ zs) (sym (take-append-drop (hi - lo) (drop lo xs)) ∙ ap (λ zs. take (hi - lo) (drop lo xs) ++ zs) (drop-drop (hi - lo) lo xs ∙ ap (λ n. drop n xs) (let t = in_turn in omega (arith, t))))

  low_below : (i : ℕ) → Member i low → pos 0 <ℤ side_of (piece_at pieces i).line q
  low_below i m = lt_out (pos 0) (side_of (piece_at pieces i).line q) (within_take (λ i. is_below pieces q i ≡ true) xs lo (λ j d a b. lower_cut.0 j d a b) i m)

  high_above : (i : ℕ) → Member i high → side_of (piece_at pieces i).line q <ℤ pos 0
  high_above i m = lt_out (side_of (piece_at pieces i).line q) (pos 0) (flip (int_lt (side_of (piece_at pieces i).line q) (pos 0)) (within_drop (λ i. is_upto pieces q i ≡ false) xs hi (λ j d a b. upper_cut.1 j d a b) i m))
    where
      flip : (b : Bool) → not b ≡ false → b ≡ true
      flip true e = refl
      flip false e = cc

  old_upto : (i : ℕ) → Member i old → is_upto pieces q i ≡ true
  old_upto i m = within_take (λ i. is_upto pieces q i ≡ true) (drop lo xs) (hi - lo) (λ j d a b. subst (λ k. is_upto pieces q k ≡ true) (sym (get_or-drop lo xs j d)) (upper_cut.0 (lo + j) d (omega arith) (omega (arith, b)))) i m

  old_dropped : (n : ℕ) (ys : List ℕ) (i : ℕ) → Member i (take n ys) → Member i ys
  old_dropped n ys i m = subst (λ zs. Member i zs) (take-append-drop n ys) (in_left i (take n ys) (drop n ys) m)

  old_through : (i : ℕ) → Member i old → IsOn (piece_at pieces i).line q
  old_through i m =
      let a = ge_out (pos 0) (side_of (piece_at pieces i).line q) (within_drop (λ i. is_below pieces q i ≡ false) xs lo (λ j d a b. lower_cut.1 j d a b) i (old_dropped (hi - lo) (drop lo xs) i m)) in
      let b = ge_out (side_of (piece_at pieces i).line q) (pos 0) (flip (int_lt (side_of (piece_at pieces i).line q) (pos 0)) (old_upto i m)) in
      flat (side_of (piece_at pieces i).line q) a b
    where
      flip : (b : Bool) → not b ≡ true → b ≡ false
      flip true e = cc
      flip false e = refl

      flat : (z : ℤ) → z ≤ℤ pos 0 → pos 0 ≤ℤ z → z ≡ pos 0
      flat z h k = omega (arith, ints)

  split : IsSplit (piece_at pieces) q low old high
  split = record { below = low_below; through = old_through; above = high_above }

  old_waits : (i : ℕ) → Member i old → (i < length pieces) × (point_cmp (piece_at pieces i).lower q ≡ Less) × IsAtMost q (piece_at pieces i).upper
  old_waits i m = (waiting.met i).0 (subst (λ zs. Member i zs) (sym parts) (in_right i (take lo xs) (take (hi - lo) (drop lo xs) ++ drop hi xs) (in_left i (take (hi - lo) (drop lo xs)) (drop hi xs) m)))

  -- what waits for q and passes through it is among those between the cuts
  through_old : (i : ℕ) → i < length pieces → point_cmp (piece_at pieces i).lower q ≡ Less → IsAtMost q (piece_at pieces i).upper → IsOn (piece_at pieces i).line q → Member i old
  through_old i h a b on = elim (in_either i (take lo xs) (take (hi - lo) (drop lo xs) ++ drop hi xs) (subst (λ zs. Member i zs) parts ((waiting.met i).1 (h, a, b)))) [
    | inl m ↦ absurd (not_low (side_of (piece_at pieces i).line q) (low_below i m) on)
    | inr n ↦ elim (in_either i (take (hi - lo) (drop lo xs)) (drop hi xs) n) [
      | inl m ↦ m
      | inr m ↦ absurd (not_high (side_of (piece_at pieces i).line q) (high_above i m) on)
    ]
  ]
    where
      not_low : (z : ℤ) → pos 0 <ℤ z → z ≡ pos 0 → ⊥
      not_low z h e = omega (arith, ints)

      not_high : (z : ℤ) → z <ℤ pos 0 → z ≡ pos 0 → ⊥
      not_high z h e = omega (arith, ints)

  -- ---- the pieces that end at q, and the others
  ends_out : (i : ℕ) → ends_there pieces q i ≡ true → (piece_at pieces i).upper ≡ q
  ends_out i h = same_out (piece_at pieces i).upper q (second (nat_lt i (length pieces)) (same_point (piece_at pieces i).upper q) h)
    where
      second : (a b : Bool) → a && b ≡ true → b ≡ true
      second true b e = e
      second false b e = cc

  ends_in : (i : ℕ) → i < length pieces → (piece_at pieces i).upper ≡ q → ends_there pieces q i ≡ true
  ends_in i h e = both (nat_lt i (length pieces)) (same_point (piece_at pieces i).upper q) (grind (arith, nat_tests, h)) (same_in (piece_at pieces i).upper q e)
    where
      both : (a b : Bool) → a ≡ true → b ≡ true → a && b ≡ true
      both true b e f = f
      both false b e f = cc

  ascended : (ys : List ℕ) (i : ℕ) → Member i ys → Member i (ascending nat_cmp ys)
  ascended ys i m = ascending-Member nat_cmp nat_cmp_total i ys (λ x y a b. nat_exact x y) m

  abbrev passes : List ℕ
  passes = filter (λ i. not (ends_there pieces q i)) (ascending nat_cmp old)

  abbrev ends : List ℕ
  ends = filter (ends_there pieces q) (ascending nat_cmp old)

  of_passes : (i : ℕ) → Member i passes → Member i old × ((piece_at pieces i).upper ≡ q → ⊥)
  of_passes i m =
      let a = of_filter (λ i. not (ends_there pieces q i)) i (ascending nat_cmp old) m in
      let n = Member-ascending nat_cmp nat_cmp_total i old a.0 in
      (n, λ (e : (piece_at pieces i).upper ≡ q). clash (ends_there pieces q i) (ends_in i (old_waits i n).0 e) (flip (ends_there pieces q i) a.1))
    where
      flip : (b : Bool) → not b ≡ true → b ≡ false
      flip true e = cc
      flip false e = refl

  in_passes : (i : ℕ) → Member i old → ((piece_at pieces i).upper ≡ q → ⊥) → Member i passes
  in_passes i m off = in_filter (λ i. not (ends_there pieces q i)) i (ascending nat_cmp old) (ascended old i m) (elim (cases_Bool (ends_there pieces q i)) [ inl e ↦ absurd (off (ends_out i e)) | inr e ↦ ap not e ])

  goes_on : (i : ℕ) → Member i old → ((piece_at pieces i).upper ≡ q → ⊥) → point_cmp q (piece_at pieces i).upper ≡ Less
  goes_on i m off = elim (in_order (piece_at pieces i).upper q) [ inl a ↦ absurd (off (at_most_both (piece_at pieces i).upper q a (old_waits i m).2)) | inr b ↦ b ]

  ends_not : (i : ℕ) → point_cmp q (piece_at pieces i).upper ≡ Less → (piece_at pieces i).upper ≡ q → ⊥
  ends_not i h e = not_both q (piece_at pieces i).upper h (subst (λ (t : Point). IsAtMost t q) (sym e) (at_most_itself q))

  pub passes_places : ArePlaces pieces passes
  passes_places i m = (old_waits i (of_passes i m).0).0

  pub passes_ascend : IsAscending nat_cmp passes
  passes_ascend = IsAscending-filter nat_cmp (λ i. not (ends_there pieces q i)) (ascending nat_cmp old) (IsAscending-ascending nat_cmp nat_cmp_total old)

  module _ (starts : List ℕ) (starting : IsPlacesOf pieces (λ s. s.lower ≡ q) starts) where
    pub starts_places : ArePlaces pieces starts
    starts_places i m = ((starting.member i).0 m).0

    pub starts_apart : (i : ℕ) → Member i passes → Member i starts → ⊥
    starts_apart i m n = not_both (piece_at pieces i).lower q (old_waits i (of_passes i m).0).1 (subst (λ (t : Point). IsAtMost q t) (sym ((starting.member i).0 n).1) (at_most_itself q))

    -- the exchange
    pub exchange_is : (mid after : List ℕ) (count : ℕ) → ((i : ℕ) → Member i mid ↔ (Member i passes ⊎ Member i starts)) → IsAscending (run_cmp (piece_at pieces)) mid → after ≡ take lo xs ++ (mid ++ drop hi xs) → count ≡ length mid → IsExchange pieces q xs after lo (lo + count)
    exchange_is mid after count members sloped e n = record {
      low = take lo xs;
      old = take (hi - lo) (drop lo xs);
      mid = mid;
      high = drop hi xs;
      before_is = parts;
      after_is = e;
      first_is = sym (length-take lo xs ∙ small);
      second_is = ap (λ k. lo + k) n ∙ ap (λ k. k + length mid) (sym (length-take lo xs ∙ small));
      split = split;
      run = λ i. (
        (λ m. elim ((members i).0 m) [ inl a ↦ inl (let w = of_passes i a in (w.0, goes_on i w.0 w.1)) | inr b ↦ inr ((starting.member i).0 b) ]),
        (λ h. (members i).1 (elim h [ inl a ↦ inl (in_passes i a.0 (ends_not i a.1)) | inr b ↦ inr ((starting.member i).1 b) ])),
      );
      sloped = sloped;
    }
      where
        small : min lo (length xs) ≡ lo
        small = omega (arith, lo_in)

    -- the event
    pub event_is : IsEventAt pieces q ends starts passes
    event_is = record {
      ending = record {
        member = λ i. (
          (λ m. let w = of_filter (ends_there pieces q) i (ascending nat_cmp old) m in ((old_waits i (Member-ascending nat_cmp nat_cmp_total i old w.0)).0, ends_out i w.1)),
          (λ h. in_filter (ends_there pieces q) i (ascending nat_cmp old) (ascended old i (ended i h.0 h.1)) (ends_in i h.0 h.1)),
        );
        ascends = IsAscending-filter nat_cmp (ends_there pieces q) (ascending nat_cmp old) (IsAscending-ascending nat_cmp nat_cmp_total old);
      };
      starting = starting;
      passing = record {
        member = λ i. (
          (λ m. let w = of_passes i m in let a = old_waits i w.0 in (a.0, record { on = record { on = old_through i w.0; from = less_at_most (piece_at pieces i).lower q a.1; upto = a.2 }; after = a.1; before = goes_on i w.0 w.1 })),
          (λ h. in_passes i (through_old i h.0 h.1.after h.1.on.upto h.1.on.on) (ends_not i h.1.before)),
        );
        ascends = passes_ascend;
      };
    }
      where
        ended : (i : ℕ) → i < length pieces → (piece_at pieces i).upper ≡ q → Member i old
        ended i h e =
            let s = spans i h in
            through_old i h (subst (λ (t : Point). point_cmp (piece_at pieces i).lower t ≡ Less) e s.way.ascending) (subst (λ (t : Point). IsAtMost t (piece_at pieces i).upper) e (at_most_itself (piece_at pieces i).upper)) (subst (λ (t : Point). IsOn (piece_at pieces i).line t) e s.way.upper_on)
