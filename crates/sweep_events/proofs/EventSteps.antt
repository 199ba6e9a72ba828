-- From one event to the next: the status stays in order up to the event, the pieces through the event stand side by side, and with these in order of slope it is in order after the event.
use Rattle.std.proofs.Common.{◌≡◌, ℕ, ℤ, pos, ◌<ℤ◌, ◌≤ℤ◌, refl, ap, sym, ◌∙◌, subst, arith, inl, inr, List, ◌++◌, Ordering, Less, Equal, Greater}
use Rattle.std.specs.Prelude.{◌⊎◌, ◌<◌, Bool, true, false}
use Rattle.std.specs.Ordering.{nat_cmp, int_cmp, int_eq, ordering_then, ordering_reverse, is_le}
use Rattle.integers.proofs.Decisions.{eq_out, ne_out}
use Rattle.integers.proofs.Signs.{weak}
use Rattle.exact_plane.specs.PointOrderLaws.{point_cmp_total, same_point}
use Rattle.exact_plane.proofs.Orders.{less_at_most}
use Rattle.std.proofs.lemmas.Int.{ints}
use Rattle.exact_plane.specs.Line.{Line, side_of, IsLine, IsOn}
use Rattle.exact_plane.specs.Point.{Point, IsPoint}
use Rattle.exact_plane.specs.PointOrder.{point_cmp}
use Rattle.exact_plane.specs.Span.{Span, LiesOn, IsAtMost, IsSpan}
use Rattle.plane_graphs.specs.Ascending.{Member, IsAscending}
use Rattle.plane_graphs.proofs.Lists.{in_either}
pub use Rattle.sweep_status.proofs.Parts.{ascends_by, append_ascends}
use Rattle.sweep_events.specs.Front.{lean, before_cmp, after_cmp, level_cmp}
use Rattle.sweep_events.specs.Status.{status_cmp, waiting_cmp, run_cmp, IsMet, IsWaiting, IsStatus}
use Rattle.sweep_events.proofs.FrontOrder.{then_assoc, keeps, tied_one_line, itself_before, upper_side, lower_side, not_meeting, opposite_after, through_after}
use Rattle.sweep_events.proofs.Neighbours.{NeighboursMeet, neighbours_meet}

-- ---- points in order
pub in_order : (p q : Point) → IsAtMost p q ⊎ (point_cmp q p ≡ Less)
in_order p q = at (point_cmp p q) refl
  where
    at : (o : Ordering) → point_cmp p q ≡ o → IsAtMost p q ⊎ (point_cmp q p ≡ Less)
    at Less e = inl (less_at_most p q e)
    at Equal e = inl (ap is_le e)
    at Greater e = inr (point_cmp_total.antisymm q p ∙ ap ordering_reverse e)

pub not_both : (p q : Point) → point_cmp p q ≡ Less → IsAtMost q p → ⊥
not_both p q h k = clash (point_cmp q p) (point_cmp_total.antisymm q p ∙ ap ordering_reverse h) k
  where
    clash : (o : Ordering) → o ≡ Greater → is_le o ≡ true → ⊥
    clash Less e f = cc
    clash Equal e f = cc
    clash Greater e f = cc

pub less_chain : (p q r : Point) → point_cmp p q ≡ Less → IsAtMost q r → point_cmp p r ≡ Less
less_chain p q r h k = at (point_cmp q r) refl k
  where
    at : (o : Ordering) → point_cmp q r ≡ o → is_le (point_cmp q r) ≡ true → point_cmp p r ≡ Less
    at Less e k = point_cmp_total.trans p q r h e
    at Equal e k = subst (λ (t : Point). point_cmp p t ≡ Less) (same_point q r e) h
    at Greater e k = cc

pub chain_less : (p q r : Point) → IsAtMost p q → point_cmp q r ≡ Less → point_cmp p r ≡ Less
chain_less p q r h k = at (point_cmp p q) refl h
  where
    at : (o : Ordering) → point_cmp p q ≡ o → is_le (point_cmp p q) ≡ true → point_cmp p r ≡ Less
    at Less e h = point_cmp_total.trans p q r e k
    at Equal e h = subst (λ (t : Point). point_cmp t r ≡ Less) (sym (same_point p q e)) k
    at Greater e h = cc

-- ---- lines are one or not
pub decide_line : (l m : Line) → (l ≡ m) ⊎ ((l ≡ m) → ⊥)
decide_line l m = at (int_eq l.a m.a) (int_eq l.b m.b) (int_eq l.c m.c) refl refl refl
  where
    at : (x y z : Bool) → int_eq l.a m.a ≡ x → int_eq l.b m.b ≡ y → int_eq l.c m.c ≡ z → (l ≡ m) ⊎ ((l ≡ m) → ⊥)
    at true true true e f g = let a = eq_out l.a m.a e in let b = eq_out l.b m.b f in let c = eq_out l.c m.c g in inl (λ i. record { a = a i; b = b i; c = c i })
    at false y z e f g = inr (λ (h : l ≡ m). ne_out l.a m.a e (ap (λ (k : Line). k.a) h))
    at true false z e f g = inr (λ (h : l ≡ m). ne_out l.b m.b f (ap (λ (k : Line). k.b) h))
    at true true false e f g = inr (λ (h : l ≡ m). ne_out l.c m.c g (ap (λ (k : Line). k.c) h))

module _ (piece : ℕ → Span) where
  -- ---- up to the event q
  module _ (p q : Point) (hp : IsPoint p) (hq : IsPoint q) (pq : point_cmp p q ≡ Less) (n : ℕ)
      (clear : (i j : ℕ) → i < n → j < n → ((piece i).line ≡ (piece j).line → ⊥) → (r : Point) → IsPoint r → LiesOn (piece i) r → LiesOn (piece j) r → point_cmp p r ≡ Less → point_cmp r q ≡ Less → ⊥) where
    -- pieces in order just after p are in order just before q
    pub waits : (i j : ℕ) → i < n → j < n → IsSpan (piece i) → IsSpan (piece j) → IsMet p (piece i) → IsMet p (piece j) → IsAtMost q (piece i).upper → IsAtMost q (piece j).upper → status_cmp piece p i j ≡ Less → waiting_cmp piece q i j ≡ Less
    waits i j ni nj hi hj mi mj ui uj h = at (after_cmp p (piece i).line (piece j).line) refl h
      where
        at : (o : Ordering) → after_cmp p (piece i).line (piece j).line ≡ o → ordering_then o (nat_cmp i j) ≡ Less → waiting_cmp piece q i j ≡ Less
        at Less e k = ap (λ o. ordering_then o (nat_cmp i j)) (keeps (piece i) (piece j) hi hj p q hp hq pq mi.begun mj.begun ui uj (clear i j ni nj) e)
        at Equal e k =
            let s = tied_one_line (piece i) (piece j) p hi hj hp e in
            ap (λ (l : Line). ordering_then (before_cmp q l (piece j).line) (nat_cmp i j)) s ∙ ap (λ o. ordering_then o (nat_cmp i j)) (itself_before (piece j).line q) ∙ k
        at Greater e k = cc

    all_wait : (xs : List ℕ) → ((i : ℕ) → Member i xs → i < n) → ((i : ℕ) → Member i xs → IsSpan (piece i)) → ((i : ℕ) → Member i xs → IsMet p (piece i)) → ((i : ℕ) → Member i xs → IsAtMost q (piece i).upper) → IsAscending (status_cmp piece p) xs → IsAscending (waiting_cmp piece q) xs
    all_wait xs within spans met up' = ascends_by (status_cmp piece p) (waiting_cmp piece q) xs (λ i j m n. waits i j (within i m) (within j n) (spans i m) (spans j n) (met i m) (met j n) (up' i m) (up' j n))

    -- the status is what waits for the next event
    pub waiting_next : (xs : List ℕ) → ((i : ℕ) → i < n → IsSpan (piece i)) → ((i : ℕ) → i < n → IsMet p (piece i) → IsAtMost q (piece i).upper) → ((i : ℕ) → i < n → point_cmp p (piece i).lower ≡ Less → IsAtMost q (piece i).lower) → IsStatus piece n p xs → IsWaiting piece n q xs
    waiting_next xs spans ends starts s = record {
      met = λ i. (
        (λ m. let h = (s.met i).0 m in (h.0, ends_before (piece i).lower h.1.begun, ends i h.0 h.1)),
        (λ h. (s.met i).1 (h.0, record { begun = began i h.0 h.1; unended = less_chain p q (piece i).upper pq h.2 })),
      );
      ascends = all_wait xs (λ i m. ((s.met i).0 m).0) (λ i m. spans i ((s.met i).0 m).0) (λ i m. ((s.met i).0 m).1) (λ i m. let h = (s.met i).0 m in ends i h.0 h.1) s.ascends;
    }
      where
        ends_before : (l : Point) → IsAtMost l p → point_cmp l q ≡ Less
        ends_before l h = chain_less l p q h pq

        began : (i : ℕ) → i < n → point_cmp (piece i).lower q ≡ Less → IsAtMost (piece i).lower p
        began i h k = elim (in_order (piece i).lower p) [ inl a ↦ a | inr b ↦ absurd (not_both (piece i).lower q k (starts i h b)) ]

  -- ---- at the event q
  module _ (q : Point) where
    -- what passes below q stands before what passes through it, and both before what passes above
    pub falls : (i j : ℕ) → IsLine (piece i).line → IsLine (piece j).line → waiting_cmp piece q i j ≡ Less → (side_of (piece i).line q ≤ℤ pos 0 → side_of (piece j).line q ≤ℤ pos 0) × (pos 0 ≤ℤ side_of (piece j).line q → pos 0 ≤ℤ side_of (piece i).line q)
    falls i j hi hj h =
        let l = (piece i).line in
        let m = (piece j).line in
        let u = ordering_then (int_cmp (lean l m) (pos 0)) (nat_cmp i j) in
        let k : ordering_then (level_cmp q l m) u ≡ Less = sym (then_assoc (level_cmp q l m) (int_cmp (lean l m) (pos 0)) (nat_cmp i j)) ∙ h in
        (upper_side l m q u hi hj k, lower_side l m q u hi hj k)

    abbrev pub Through : ℕ → Type 0
    Through i = IsOn (piece i).line q

    pub between : (xs : List ℕ) → ((i : ℕ) → Member i xs → IsLine (piece i).line) → (i j k : ℕ) → Member i xs → Member j xs → Member k xs → waiting_cmp piece q i j ≡ Less → waiting_cmp piece q j k ≡ Less → Through i → Through k → Through j
    between xs lines i j k mi mj mk a b hi hk =
        let x = (falls i j (lines i mi) (lines j mj) a).0 (zero_low (side_of (piece i).line q) hi) in
        let y = (falls j k (lines j mj) (lines k mk) b).1 (zero_high (side_of (piece k).line q) hk) in
        omega (arith, ints)
      where
        zero_low : (z : ℤ) → z ≡ pos 0 → z ≤ℤ pos 0
        zero_low z e = omega (arith, ints)

        zero_high : (z : ℤ) → z ≡ pos 0 → pos 0 ≤ℤ z
        zero_high z e = omega (arith, ints)

    -- two pieces of different lines that wait for q and meet there: so do two neighbours
    pub neighbours_at : (xs : List ℕ) → ((i : ℕ) → Member i xs → IsLine (piece i).line) → IsAscending (waiting_cmp piece q) xs → (i j : ℕ) → Member i xs → Member j xs → Through i → Through j → ((piece i).line ≡ (piece j).line → ⊥) →
        NeighboursMeet Through (λ i j. (piece i).line ≡ (piece j).line) xs
    neighbours_at xs lines a = neighbours_meet (waiting_cmp piece q) Through (λ i. (piece i).line) decide_line xs a (between xs lines)

    -- the pieces below q, through it in order of slope, and above it
    pub rebuilt : (low mid high : List ℕ) → ((i : ℕ) → Member i low → IsLine (piece i).line × (pos 0 <ℤ side_of (piece i).line q)) → ((i : ℕ) → Member i mid → IsLine (piece i).line × IsOn (piece i).line q) → ((i : ℕ) → Member i high → IsLine (piece i).line × (side_of (piece i).line q <ℤ pos 0)) →
        IsAscending (waiting_cmp piece q) low → IsAscending (waiting_cmp piece q) high → IsAscending (run_cmp piece) mid → IsAscending (status_cmp piece q) (low ++ (mid ++ high))
    rebuilt low mid high hl hm hh al ah am =
        append_ascends (status_cmp piece q) low (mid ++ high)
        (ascends_by (waiting_cmp piece q) (status_cmp piece q) low (λ i j m n. not_meeting (piece i).line (piece j).line q (nat_cmp i j) (off_low (side_of (piece i).line q) (hl i m).1)) al)
        (append_ascends (status_cmp piece q) mid high
        (ascends_by (run_cmp piece) (status_cmp piece q) mid (λ i j m n h. ap (λ o. ordering_then o (nat_cmp i j)) (through_after (piece i).line (piece j).line q (hm i m).1 (hm j n).1) ∙ h) am)
        (ascends_by (waiting_cmp piece q) (status_cmp piece q) high (λ i j m n. not_meeting (piece i).line (piece j).line q (nat_cmp i j) (off_high (side_of (piece i).line q) (hh i m).1)) ah)
        (λ i j m n. opposite_after (piece i).line (piece j).line q (nat_cmp i j) (hm i m).0 (hh j n).0 (zero_high (side_of (piece i).line q) (hm i m).1) (low_weak (side_of (piece j).line q) (hh j n).1) (inr (hh j n).1)))
        (λ i j m n. elim (in_either j mid high n) [
          | inl b ↦ opposite_after (piece i).line (piece j).line q (nat_cmp i j) (hl i m).0 (hm j b).0 (weak (hl i m).1) (zero_low (side_of (piece j).line q) (hm j b).1) (inl (hl i m).1)
          | inr c ↦ opposite_after (piece i).line (piece j).line q (nat_cmp i j) (hl i m).0 (hh j c).0 (weak (hl i m).1) (low_weak (side_of (piece j).line q) (hh j c).1) (inl (hl i m).1)
        ])
      where
        zero_low : (z : ℤ) → z ≡ pos 0 → z ≤ℤ pos 0
        zero_low z e = omega (arith, ints)

        zero_high : (z : ℤ) → z ≡ pos 0 → pos 0 ≤ℤ z
        zero_high z e = omega (arith, ints)

        low_weak : (z : ℤ) → z <ℤ pos 0 → z ≤ℤ pos 0
        low_weak z h = omega (arith, ints)

        off_low : (z : ℤ) → pos 0 <ℤ z → z ≡ pos 0 → ⊥
        off_low z h e = omega (arith, ints)

        off_high : (z : ℤ) → z <ℤ pos 0 → z ≡ pos 0 → ⊥
        off_high z h e = omega (arith, ints)
