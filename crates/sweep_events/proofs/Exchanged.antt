-- An exchange at the next event takes a sweep to the sweep after it.
use Rattle.std.proofs.Common.{◌≡◌, ℕ, ◌<◌, ◌-◌, refl, sym, ◌∙◌, subst, inl, List, [], ◌∷◌, ◌++◌, length, get_or, append_assoc, length-append, Less}
use Rattle.std.specs.Prelude.{Option, None, Some}
use Rattle.exact_plane.specs.Point.{Point, IsPoint}
use Rattle.exact_plane.specs.PointOrder.{point_cmp}
use Rattle.exact_plane.specs.Span.{IsAtMost}
use Rattle.plane_graphs.specs.Ascending.{Member}
use Rattle.sweep_events.specs.Events.{AreMeeting, IsEvent, IsPointAfter, IsNext, IsQueue, IsStatusAfter}
use Rattle.sweep_events.specs.Places.{piece_at}
use Rattle.sweep_events.specs.Seams.{MeetAtSeam}
use Rattle.sweep_events.specs.Status.{IsWaiting, IsStatus}
use Rattle.sweep_events.specs.Sweep.{Swept, IsSweep, IsNextOf, IsOver, HasSlab}
use Rattle.sweep_events.specs.Exchange.{IsExchange}
use Rattle.sweep_events.proofs.AfterEvent.{IsFirst, IsLast, status_after, queue_after, last_at, first_at}
use Rattle.sweep_events.proofs.EventsListed.{next_event, no_event, slab_after}
use Rattle.sweep_events.proofs.Queue.{event_point, waits_for}
use Rattle.sweep_events.proofs.EventSteps.{not_both}

-- what waits for the next event is the status after the last one
pub waiting_of : (s : Swept) (queue : List Point) → IsSweep s queue → (q : Point) → IsNextOf s q → IsWaiting (piece_at s.pieces) (length s.pieces) q s.status
waiting_of s queue h q next = at s.last h.last_point h.status h.queued next
  where
    at : (o : Option Point) → IsPointAfter o → IsStatusAfter (piece_at s.pieces) (length s.pieces) o s.status → IsQueue (piece_at s.pieces) (length s.pieces) s.pins o s.status queue → IsNext (piece_at s.pieces) (length s.pieces) s.pins o q → IsWaiting (piece_at s.pieces) (length s.pieces) q s.status
    at None hp status known n =
        subst (λ (xs : List ℕ). IsWaiting (piece_at s.pieces) (length s.pieces) q xs) (sym status)
        (record {
          met = λ i. ((λ m. absurd m), (λ k. absurd (not_both (piece_at s.pieces i).lower q k.1 (n.first (piece_at s.pieces i).lower (inl (record { place = i; within = k.0; is_end = inl refl })) tt))));
          ascends = tt;
        })
    at (Some p) hp status known n = waits_for (piece_at s.pieces) (length s.pieces) s.pins h.spans h.pinned p hp s.status queue status known q n

-- the sweep after the event
abbrev pub moved : Swept → Point → List ℕ → Swept
moved s q after = record { pieces = s.pieces; pins = s.pins; last = Some q; status = after }

module _ (s : Swept) (queue : List Point) (h : IsSweep s queue) (q : Point) (next : IsNextOf s q) (after : List ℕ) (first second : ℕ) (exchange : IsExchange s.pieces q s.status after first second)
    (later : List Point)
    (kept : (r : Point) → Member r queue → point_cmp q r ≡ Less → Member r later)
    (first_there : (r : Point) → MeetAtSeam s.pieces after first r → point_cmp q r ≡ Less → Member r later)
    (second_there : (r : Point) → MeetAtSeam s.pieces after second r → point_cmp q r ≡ Less → Member r later)
    (new : (r : Point) → Member r later → IsEvent (piece_at s.pieces) (length s.pieces) s.pins r × (point_cmp q r ≡ Less)) where
  hq : IsPoint q
  hq = event_point (piece_at s.pieces) (length s.pieces) s.pins h.spans h.pinned q next.event

  waiting : IsWaiting (piece_at s.pieces) (length s.pieces) q (exchange.low ++ (exchange.old ++ exchange.high))
  waiting = subst (λ (xs : List ℕ). IsWaiting (piece_at s.pieces) (length s.pieces) q xs) exchange.before_is (waiting_of s queue h q next)

  known : IsQueue (piece_at s.pieces) (length s.pieces) s.pins s.last (exchange.low ++ (exchange.old ++ exchange.high)) queue
  known = subst (λ (xs : List ℕ). IsQueue (piece_at s.pieces) (length s.pieces) s.pins s.last xs queue) exchange.before_is h.queued

  at_first : (i j : ℕ) (r : Point) → IsLast exchange.low i → IsFirst (exchange.mid ++ exchange.high) j → AreMeeting (piece_at s.pieces i) (piece_at s.pieces j) r → point_cmp q r ≡ Less → Member r later
  at_first i j r a b m k = first_there r (subst (λ (xs : List ℕ). MeetAtSeam s.pieces xs first r) (sym exchange.after_is) (subst (λ n. MeetAtSeam s.pieces (exchange.low ++ (exchange.mid ++ exchange.high)) n r) (sym exchange.first_is) (seam (last_at exchange.low (exchange.mid ++ exchange.high) i 0 a) (first_at exchange.low (exchange.mid ++ exchange.high) j 0 b)))) k
    where
      seam : (0 < length exchange.low) × (get_or (exchange.low ++ (exchange.mid ++ exchange.high)) (length exchange.low - 1) 0 ≡ i) → (length exchange.low < length (exchange.low ++ (exchange.mid ++ exchange.high))) × (get_or (exchange.low ++ (exchange.mid ++ exchange.high)) (length exchange.low) 0 ≡ j) → MeetAtSeam s.pieces (exchange.low ++ (exchange.mid ++ exchange.high)) (length exchange.low) r
      seam x y = record { above = x.0; within = y.0; meet = subst (λ u. AreMeeting (piece_at s.pieces u) (piece_at s.pieces (get_or (exchange.low ++ (exchange.mid ++ exchange.high)) (length exchange.low) 0)) r) (sym x.1) (subst (λ v. AreMeeting (piece_at s.pieces i) (piece_at s.pieces v) r) (sym y.1) m) }

  last_of_both : (xs ys : List ℕ) (u : ℕ) → IsLast ys u → IsLast (xs ++ ys) u
  last_of_both [] ys u h = h
  last_of_both (x ∷ []) [] u h = absurd h
  last_of_both (x ∷ []) (y ∷ ys) u h = h
  last_of_both (x ∷ z ∷ xs) ys u h = last_of_both (z ∷ xs) ys u h

  at_second : (i j : ℕ) (r : Point) → IsLast exchange.mid i → IsFirst exchange.high j → AreMeeting (piece_at s.pieces i) (piece_at s.pieces j) r → point_cmp q r ≡ Less → Member r later
  at_second i j r a b m k =
      second_there r
      (subst (λ (xs : List ℕ). MeetAtSeam s.pieces xs second r) (append_assoc exchange.low exchange.mid exchange.high ∙ sym exchange.after_is)
      (subst (λ n. MeetAtSeam s.pieces ((exchange.low ++ exchange.mid) ++ exchange.high) n r) (length-append exchange.low exchange.mid ∙ sym exchange.second_is)
      (seam (last_at (exchange.low ++ exchange.mid) exchange.high i 0 (last_of_both exchange.low exchange.mid i a)) (first_at (exchange.low ++ exchange.mid) exchange.high j 0 b)))) k
    where
      seam : (0 < length (exchange.low ++ exchange.mid)) × (get_or ((exchange.low ++ exchange.mid) ++ exchange.high) (length (exchange.low ++ exchange.mid) - 1) 0 ≡ i) → (length (exchange.low ++ exchange.mid) < length ((exchange.low ++ exchange.mid) ++ exchange.high)) × (get_or ((exchange.low ++ exchange.mid) ++ exchange.high) (length (exchange.low ++ exchange.mid)) 0 ≡ j) → MeetAtSeam s.pieces ((exchange.low ++ exchange.mid) ++ exchange.high) (length (exchange.low ++ exchange.mid)) r
      seam x y = record { above = x.0; within = y.0; meet = subst (λ u. AreMeeting (piece_at s.pieces u) (piece_at s.pieces (get_or ((exchange.low ++ exchange.mid) ++ exchange.high) (length (exchange.low ++ exchange.mid)) 0)) r) (sym x.1) (subst (λ v. AreMeeting (piece_at s.pieces i) (piece_at s.pieces v) r) (sym y.1) m) }

  -- the sweep after the event is one
  pub moved_sweep : IsSweep (moved s q after) later
  moved_sweep = record {
    spans = h.spans;
    pinned = h.pinned;
    last_point = hq;
    status = subst (λ (xs : List ℕ). IsStatus (piece_at s.pieces) (length s.pieces) q xs) (sym exchange.after_is)
        (status_after (piece_at s.pieces) (length s.pieces) h.spans q exchange.low exchange.old exchange.mid exchange.high waiting exchange.split exchange.run exchange.sloped);
    queued = subst (λ (xs : List ℕ). IsQueue (piece_at s.pieces) (length s.pieces) s.pins (Some q) xs later) (sym exchange.after_is)
        (queue_after (piece_at s.pieces) (length s.pieces) h.spans q exchange.low exchange.old exchange.mid exchange.high waiting exchange.split exchange.run exchange.sloped s.pins s.last hq next.beyond queue later known kept at_first at_second new);
  }

-- ---- what a sweep's queue tells
module _ (s : Swept) (queue : List Point) (h : IsSweep s queue) where
  pub next_is : (q : Point) → Member q queue → ((r : Point) → Member r queue → IsAtMost q r) → IsNextOf s q
  next_is = next_event (piece_at s.pieces) (length s.pieces) s.pins h.spans h.pinned s.last s.status queue h.last_point h.status h.queued

  pub is_over : queue ≡ [] → IsOver s
  is_over = no_event (piece_at s.pieces) (length s.pieces) s.pins h.spans h.pinned s.last s.status queue h.last_point h.status h.queued

  pub has_slab : HasSlab s
  has_slab q e final =
      slab_after (piece_at s.pieces) (length s.pieces) s.pins h.spans h.pinned q (subst (λ (o : Option Point). IsPointAfter o) e h.last_point) s.status queue
      (subst (λ (o : Option Point). IsStatusAfter (piece_at s.pieces) (length s.pieces) o s.status) e h.status)
      (subst (λ (o : Option Point). IsQueue (piece_at s.pieces) (length s.pieces) s.pins o s.status queue) e h.queued) final
