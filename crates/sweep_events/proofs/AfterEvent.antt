-- After an event: the status with the pieces through the event made anew, and the queue with the meetings at its two seams.
use Rattle.std.proofs.Common.{◌≡◌, ℕ, zero, suc, ◌<◌, ◌-◌, length, get_or, ℤ, pos, ◌<ℤ◌, sym, subst, arith, inl, inr, List, [], ◌∷◌, ◌++◌, Less}
use Rattle.std.specs.Prelude.{◌⊎◌, Option, None, Some}
use Rattle.std.proofs.lemmas.Int.{ints}
use Rattle.exact_plane.specs.Line.{side_of, IsOn}
use Rattle.exact_plane.specs.Point.{Point, IsPoint}
use Rattle.exact_plane.specs.PointOrder.{point_cmp}
use Rattle.exact_plane.specs.PointOrderLaws.{point_cmp_total}
use Rattle.exact_plane.specs.Span.{Span, IsAtMost, IsSpan}
use Rattle.exact_plane.proofs.Orders.{at_most_itself, at_most_both, less_at_most}
use Rattle.exact_plane.proofs.PlaneLaws.{one_line}
use Rattle.plane_graphs.specs.Ascending.{Member, IsAscending}
use Rattle.plane_graphs.proofs.Lists.{ascends_left, ascends_right, in_left, in_right, in_either}
use Rattle.sweep_events.specs.Events.{AreNeighbours, AreMeeting, IsEvent, IsBeyond, IsQueue}
use Rattle.sweep_events.specs.Status.{waiting_cmp, run_cmp, IsMet, IsWaiting, IsStatus}
use Rattle.sweep_events.specs.Exchange.{IsSplit, IsRun}
use Rattle.sweep_events.proofs.Neighbours.{neighbours_in}
use Rattle.sweep_events.proofs.EventSteps.{in_order, rebuilt}

-- ---- parts of a list
module _ {X : Type 0} where
  -- the first and the last element
  abbrev pub IsFirst : List X → X → Type 0
  IsFirst [] u = ⊥
  IsFirst (x ∷ xs) u = x ≡ u

  abbrev pub IsLast : List X → X → Type 0
  IsLast [] u = ⊥
  IsLast (x ∷ []) u = x ≡ u
  IsLast (x ∷ y ∷ ys) u = IsLast (y ∷ ys) u

  -- neighbours stand in one part, or at the seam
  pub data AtSeam (xs ys : List X) (u v : X) : Type 0 where
    in_first : AreNeighbours xs u v → AtSeam xs ys u v
    in_second : AreNeighbours ys u v → AtSeam xs ys u v
    across_both : IsLast xs u → IsFirst ys v → AtSeam xs ys u v

  pub at_seam : (xs ys : List X) (u v : X) → AreNeighbours (xs ++ ys) u v → AtSeam xs ys u v
  at_seam [] ys u v h = in_second h
  at_seam (x ∷ []) [] u v h = absurd h
  at_seam (x ∷ []) (y ∷ ys) u v (inl h) = across_both h.0 h.1
  at_seam (x ∷ []) (y ∷ ys) u v (inr h) = in_second h
  at_seam (x ∷ y ∷ xs) ys u v (inl h) = in_first (inl h)
  at_seam (x ∷ y ∷ xs) ys u v (inr h) = elim (at_seam (y ∷ xs) ys u v h) [ in_first a ↦ in_first (inr a) | in_second a ↦ in_second a | across_both a b ↦ across_both a b ]

  pub neighbours_left : (xs ys : List X) (u v : X) → AreNeighbours xs u v → AreNeighbours (xs ++ ys) u v
  neighbours_left [] ys u v h = absurd h
  neighbours_left (x ∷ []) ys u v h = absurd h
  neighbours_left (x ∷ y ∷ xs) ys u v (inl h) = inl h
  neighbours_left (x ∷ y ∷ xs) ys u v (inr h) = inr (neighbours_left (y ∷ xs) ys u v h)

  pub neighbours_right : (xs ys : List X) (u v : X) → AreNeighbours ys u v → AreNeighbours (xs ++ ys) u v
  neighbours_right [] ys u v h = h
  neighbours_right (x ∷ []) [] u v h = absurd h
  neighbours_right (x ∷ []) (y ∷ ys) u v h = inr h
  neighbours_right (x ∷ z ∷ xs) ys u v h = inr (neighbours_right (z ∷ xs) ys u v h)

-- ---- the status
module _ (piece : ℕ → Span) (n : ℕ) (spans : (i : ℕ) → i < n → IsSpan (piece i)) (q : Point) (low old mid high : List ℕ) where
  module _ (waiting : IsWaiting piece n q (low ++ (old ++ high))) (split : IsSplit piece q low old high) (run : IsRun piece n q old mid) (sloped : IsAscending (run_cmp piece) mid) where
    in_low : (i : ℕ) → Member i low → (i < n) × (point_cmp (piece i).lower q ≡ Less) × IsAtMost q (piece i).upper
    in_low i m = (waiting.met i).0 (in_left i low (old ++ high) m)

    in_old : (i : ℕ) → Member i old → (i < n) × (point_cmp (piece i).lower q ≡ Less) × IsAtMost q (piece i).upper
    in_old i m = (waiting.met i).0 (in_right i low (old ++ high) (in_left i old high m))

    in_high : (i : ℕ) → Member i high → (i < n) × (point_cmp (piece i).lower q ≡ Less) × IsAtMost q (piece i).upper
    in_high i m = (waiting.met i).0 (in_right i low (old ++ high) (in_right i old high m))

    -- what doesn't pass through q doesn't end there
    goes_on : (i : ℕ) → i < n → IsAtMost q (piece i).upper → (IsOn (piece i).line q → ⊥) → point_cmp q (piece i).upper ≡ Less
    goes_on i h k off = elim (in_order (piece i).upper q) [
      | inl a ↦ absurd (off (subst (λ (t : Point). IsOn (piece i).line t) (at_most_both (piece i).upper q a k) (spans i h).way.upper_on))
      | inr b ↦ b
    ]

    off_low : (z : ℤ) → pos 0 <ℤ z → z ≡ pos 0 → ⊥
    off_low z h e = omega (arith, ints)

    off_high : (z : ℤ) → z <ℤ pos 0 → z ≡ pos 0 → ⊥
    off_high z h e = omega (arith, ints)

    low_met : (i : ℕ) → Member i low → (i < n) × IsMet q (piece i)
    low_met i m = let h = in_low i m in (h.0, record { begun = less_at_most (piece i).lower q h.1; unended = goes_on i h.0 h.2 (off_low (side_of (piece i).line q) (split.below i m)) })

    high_met : (i : ℕ) → Member i high → (i < n) × IsMet q (piece i)
    high_met i m = let h = in_high i m in (h.0, record { begun = less_at_most (piece i).lower q h.1; unended = goes_on i h.0 h.2 (off_high (side_of (piece i).line q) (split.above i m)) })

    mid_met : (i : ℕ) → Member i mid → (i < n) × IsMet q (piece i) × IsOn (piece i).line q
    mid_met i m = elim ((run i).0 m) [
      | inl a ↦ (let h = in_old i a.0 in (h.0, record { begun = less_at_most (piece i).lower q h.1; unended = a.1 }, split.through i a.0))
      | inr b ↦ (b.0, record { begun = subst (λ (t : Point). IsAtMost t q) (sym b.1) (at_most_itself q); unended = subst (λ (t : Point). point_cmp t (piece i).upper ≡ Less) b.1 (spans i b.0).way.ascending }, subst (λ (t : Point). IsOn (piece i).line t) b.1 (spans i b.0).way.lower_on)
    ]

    abbrev now : List ℕ
    now = low ++ (mid ++ high)

    met_now : (i : ℕ) → i < n → IsMet q (piece i) → Member i now
    met_now i h m = elim (in_order q (piece i).lower) [
      | inl a ↦ in_right i low (mid ++ high) (in_left i mid high ((run i).1 (inr (h, at_most_both (piece i).lower q m.begun a))))
      | inr b ↦ placed (in_either i low (old ++ high) ((waiting.met i).1 (h, b, less_at_most q (piece i).upper m.unended)))
    ]
      where
        placed : Member i low ⊎ Member i (old ++ high) → Member i now
        placed (inl a) = in_left i low (mid ++ high) a
        placed (inr b) = elim (in_either i old high b) [
          | inl c ↦ in_right i low (mid ++ high) (in_left i mid high ((run i).1 (inl (c, m.unended))))
          | inr c ↦ in_right i low (mid ++ high) (in_right i mid high c)
        ]

    now_met : (i : ℕ) → Member i now → (i < n) × IsMet q (piece i)
    now_met i m = elim (in_either i low (mid ++ high) m) [
      | inl a ↦ low_met i a
      | inr b ↦ elim (in_either i mid high b) [ inl c ↦ (let h = mid_met i c in (h.0, h.1)) | inr c ↦ high_met i c ]
    ]

    -- the status after the event
    pub status_after : IsStatus piece n q (low ++ (mid ++ high))
    status_after = record {
      met = λ i. (now_met i, λ h. met_now i h.0 h.1);
      ascends = rebuilt piece q low mid high
          (λ i m. ((spans i (low_met i m).0).line, split.below i m)) (λ i m. let h = mid_met i m in ((spans i h.0).line, h.2)) (λ i m. ((spans i (high_met i m).0).line, split.above i m))
          (ascends_left (waiting_cmp piece q) low (old ++ high) waiting.ascends) (ascends_right (waiting_cmp piece q) old high (ascends_right (waiting_cmp piece q) low (old ++ high) waiting.ascends)) sloped;
    }

    -- ---- the queue
    module _ (pins : List Point) (last : Option Point) (hq : IsPoint q) (beyond : IsBeyond last q) (queue next : List Point) (known : IsQueue piece n pins last (low ++ (old ++ high)) queue)
        (kept : (r : Point) → Member r queue → point_cmp q r ≡ Less → Member r next)
        (first_seam : (i j : ℕ) (r : Point) → IsLast low i → IsFirst (mid ++ high) j → AreMeeting (piece i) (piece j) r → point_cmp q r ≡ Less → Member r next)
        (second_seam : (i j : ℕ) (r : Point) → IsLast mid i → IsFirst high j → AreMeeting (piece i) (piece j) r → point_cmp q r ≡ Less → Member r next)
        (new : (r : Point) → Member r next → IsEvent piece n pins r × IsBeyond (Some q) r) where
      further : (o : Option Point) → IsBeyond o q → (r : Point) → point_cmp q r ≡ Less → IsBeyond o r
      further None b r h = tt
      further (Some p) b r h = point_cmp_total.trans p q r b h

      -- pieces through q of different lines meet at q alone
      only_here : (i j : ℕ) (r : Point) → Member i mid → Member j mid → AreMeeting (piece i) (piece j) r → point_cmp q r ≡ Less → ⊥
      only_here i j r mi mj m h =
          let a = mid_met i mi in
          let b = mid_met j mj in
          m.lines_differ (one_line (piece i).line (piece j).line q r (spans i a.0).line (spans j b.0).line hq m.point h a.2 b.2 m.on_first.on m.on_second.on)

      from_neighbours : (i j : ℕ) (r : Point) → AreNeighbours (low ++ (old ++ high)) i j → AreMeeting (piece i) (piece j) r → point_cmp q r ≡ Less → Member r next
      from_neighbours i j r h m b = kept r (known.meetings i j r h m (further last beyond r b)) b

      of_seams : (i j : ℕ) (r : Point) → AtSeam low (mid ++ high) i j → AreMeeting (piece i) (piece j) r → point_cmp q r ≡ Less → Member r next
      of_seams i j r (in_first h) m b = from_neighbours i j r (neighbours_left low (old ++ high) i j h) m b
      of_seams i j r (across_both h k) m b = first_seam i j r h k m b
      of_seams i j r (in_second h) m b = elim (at_seam mid high i j h) [
        | in_first a ↦ (let e = neighbours_in mid i j a in absurd (only_here i j r e.0 e.1 m b))
        | in_second a ↦ from_neighbours i j r (neighbours_right low (old ++ high) i j (neighbours_right old high i j a)) m b
        | across_both a c ↦ second_seam i j r a c m b
      ]

      pub queue_after : IsQueue piece n pins (Some q) (low ++ (mid ++ high)) next
      queue_after = record {
        sound = new;
        ends = λ i r h e b. kept r (known.ends i r h e (further last beyond r b)) b;
        pins_in = λ r m b. kept r (known.pins_in r m (further last beyond r b)) b;
        meetings = λ i j r h m b. of_seams i j r (at_seam low (mid ++ high) i j h) m b;
      }

-- ---- the seams by their places
module _ {X : Type 0} where
  last_here : (xs ys : List X) (u d : X) (k : ℕ) → IsLast xs u → suc k ≡ length xs → get_or (xs ++ ys) k d ≡ u
  last_here [] ys u d k h e = absurd h
  last_here (x ∷ []) ys u d zero h e = h
  last_here (x ∷ []) ys u d (suc k) h e = absurd (omega (arith, e))
  last_here (x ∷ y ∷ xs) ys u d zero h e = absurd (omega (arith, e))
  last_here (x ∷ y ∷ xs) ys u d (suc k) h e = last_here (y ∷ xs) ys u d k h (omega (arith, e))

  some_last : (xs : List X) (u : X) → IsLast xs u → 0 < length xs
  some_last [] u h = absurd h
  some_last (x ∷ xs) u h = omega arith

  pub last_at : (xs ys : List X) (u d : X) → IsLast xs u → (0 < length xs) × (get_or (xs ++ ys) (length xs - 1) d ≡ u)
  last_at xs ys u d h = let p = some_last xs u h in (p, last_here xs ys u d (length xs - 1) h (omega (arith, p)))

  pub first_at : (xs ys : List X) (v d : X) → IsFirst ys v → (length xs < length (xs ++ ys)) × (get_or (xs ++ ys) (length xs) d ≡ v)
  first_at [] [] v d h = absurd h
  first_at [] (y ∷ ys) v d h = (omega arith, h)
  first_at (x ∷ xs) ys v d h = let r = first_at xs ys v d h in (omega (arith, r.0), r.1)
