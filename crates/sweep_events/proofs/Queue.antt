-- The least point of the queue is the next event.
use Rattle.std.proofs.Common.{◌≡◌, ℕ, ◌<◌, refl, sym, subst, inl, inr, List, [], ◌∷◌, Ordering, Less, Equal, Greater}
use Rattle.std.specs.Prelude.{◌⊎◌, true, Option, None, Some}
use Rattle.std.specs.Ordering.{is_le}
use Rattle.exact_plane.specs.Line.{IsOn}
use Rattle.exact_plane.specs.Point.{Point, IsPoint}
use Rattle.exact_plane.specs.PointOrder.{point_cmp}
use Rattle.exact_plane.specs.PointOrderLaws.{same_point}
use Rattle.exact_plane.specs.Span.{Span, LiesOn, IsAtMost, IsSpan}
use Rattle.exact_plane.proofs.Orders.{at_most_itself, at_most_chain, at_most_both, less_at_most}
use Rattle.plane_graphs.specs.Ascending.{Member}
use Rattle.sweep_events.specs.Status.{status_cmp, waiting_cmp, IsMet, IsWaiting, IsStatus}
use Rattle.sweep_events.specs.Events.{AreMeeting, IsEvent, IsBeyond, IsPointAfter, IsNext, IsQueue, IsStatusAfter}
use Rattle.sweep_events.proofs.Neighbours.{NeighboursMeet, neighbours_in}
use Rattle.sweep_events.proofs.EventSteps.{in_order, not_both, waits, waiting_next, neighbours_at}

module _ (piece : ℕ → Span) (n : ℕ) (pins : List Point) (spans : (i : ℕ) → i < n → IsSpan (piece i)) (pinned : (r : Point) → Member r pins → IsPoint r) where
  abbrev Event : Point → Type 0
  Event = IsEvent piece n pins

  pub event_point : (r : Point) → Event r → IsPoint r
  event_point r (inl e) = by e.is_end
    where
      by : (r ≡ (piece e.place).lower) ⊎ (r ≡ (piece e.place).upper) → IsPoint r
      by (inl f) = subst (λ (t : Point). IsPoint t) (sym f) (spans e.place e.within).lower
      by (inr f) = subst (λ (t : Point). IsPoint t) (sym f) (spans e.place e.within).upper
  event_point r (inr (inl m)) = pinned r m
  event_point r (inr (inr m)) = m.meet.point

  lower_event : (i : ℕ) → i < n → Event (piece i).lower
  lower_event i h = inl (record { place = i; within = h; is_end = inl refl })

  upper_event : (i : ℕ) → i < n → Event (piece i).upper
  upper_event i h = inl (record { place = i; within = h; is_end = inr refl })

  meeting_event : (i j : ℕ) → i < n → j < n → (r : Point) → AreMeeting (piece i) (piece j) r → Event r
  meeting_event i j h k r m = inr (inr (record { one = i; other = j; one_within = h; other_within = k; meet = m }))

  -- ---- after an event p
  module _ (p : Point) (hp : IsPoint p) (places : List ℕ) (queue : List Point) (status : IsStatus piece n p places) (known : IsQueue piece n pins (Some p) places queue)
      (v : Point) (next : IsNext piece n pins (Some p) v) where
    ends_at : (i : ℕ) → i < n → IsMet p (piece i) → IsAtMost v (piece i).upper
    ends_at i h m = next.first (piece i).upper (upper_event i h) m.unended

    starts_at : (i : ℕ) → i < n → point_cmp p (piece i).lower ≡ Less → IsAtMost v (piece i).lower
    starts_at i h k = next.first (piece i).lower (lower_event i h) k

    no_meeting : (i j : ℕ) → i < n → j < n → ((piece i).line ≡ (piece j).line → ⊥) → (r : Point) → IsPoint r → LiesOn (piece i) r → LiesOn (piece j) r → point_cmp p r ≡ Less → point_cmp r v ≡ Less → ⊥
    no_meeting i j h k d r hr a b pr rv = not_both r v rv (next.first r (meeting_event i j h k r (record { point = hr; on_first = a; on_second = b; lines_differ = d })) pr)

    -- pieces of the status keep their order up to the next event
    pub order_for : (i j : ℕ) → i < n → j < n → IsMet p (piece i) → IsMet p (piece j) → status_cmp piece p i j ≡ Less → waiting_cmp piece v i j ≡ Less
    order_for i j ni nj a b = waits piece p v hp (event_point v next.event) next.beyond n no_meeting i j ni nj (spans i ni) (spans j nj) a b (ends_at i ni a) (ends_at j nj b)

    -- what waits for the next event
    pub waits_for : IsWaiting piece n v places
    waits_for =
        waiting_next piece p v hp (event_point v next.event) next.beyond n no_meeting places spans ends_at starts_at status

    -- a meeting at v of pieces that begin before v is one of neighbours
    of_neighbours : (i j : ℕ) → i < n → j < n → AreMeeting (piece i) (piece j) v → point_cmp (piece i).lower v ≡ Less → point_cmp (piece j).lower v ≡ Less → Member v queue
    of_neighbours i j h k m a b =
        let w = waits_for in
        found (neighbours_at piece v places (λ x e. (spans x ((w.met x).0 e).0).line) w.ascends i j ((w.met i).1 (h, a, m.on_first.upto)) ((w.met j).1 (k, b, m.on_second.upto)) m.on_first.on m.on_second.on m.lines_differ)
      where
        on_span : (x : ℕ) → Member x places → IsOn (piece x).line v → LiesOn (piece x) v
        on_span x e o = let s = ((waits_for).met x).0 e in record { on = o; from = less_at_most (piece x).lower v s.1; upto = s.2 }

        found : NeighboursMeet (λ i. IsOn (piece i).line v) (λ i j. (piece i).line ≡ (piece j).line) places → Member v queue
        found f =
            let e = neighbours_in places f.one f.other f.neighbours in
            known.meetings f.one f.other v f.neighbours (record { point = event_point v next.event; on_first = on_span f.one e.0 f.through_one; on_second = on_span f.other e.1 f.through_other; lines_differ = f.differ }) next.beyond

    starts_there : (i : ℕ) → i < n → IsAtMost (piece i).lower v → (point_cmp (piece i).lower v ≡ Less) ⊎ Member v queue
    starts_there i h a = at (point_cmp (piece i).lower v) refl a
      where
        at : (o : Ordering) → point_cmp (piece i).lower v ≡ o → is_le (point_cmp (piece i).lower v) ≡ true → (point_cmp (piece i).lower v ≡ Less) ⊎ Member v queue
        at Less e a = inl e
        at Equal e a = inr (known.ends i v h (inl (sym (same_point (piece i).lower v e))) next.beyond)
        at Greater e a = cc

    -- the next event is in the queue
    pub next_queued : Member v queue
    next_queued = by next.event
      where
        by : Event v → Member v queue
        by (inl e) = known.ends e.place v e.within e.is_end next.beyond
        by (inr (inl m)) = known.pins_in v m next.beyond
        by (inr (inr m)) = elim (starts_there m.one m.one_within m.meet.on_first.from) [
          | inr q ↦ q
          | inl a ↦ elim (starts_there m.other m.other_within m.meet.on_second.from) [
            | inr q ↦ q
            | inl b ↦ of_neighbours m.one m.other m.one_within m.other_within m.meet a b
          ]
        ]

  -- ---- at the beginning
  module _ (queue : List Point) (known : IsQueue piece n pins None [] queue) (v : Point) (next : IsNext piece n pins None v) where
    pub first_queued : Member v queue
    first_queued = by next.event
      where
        by : Event v → Member v queue
        by (inl e) = known.ends e.place v e.within e.is_end tt
        by (inr (inl m)) = known.pins_in v m tt
        by (inr (inr m)) =
            let e = at_most_both v (piece m.one).lower (next.first (piece m.one).lower (lower_event m.one m.one_within) tt) m.meet.on_first.from in
            known.ends m.one v m.one_within (inl e) tt

  -- ---- the least of the queue
  pub queued : (last : Option Point) (places : List ℕ) (queue : List Point) → IsPointAfter last → IsStatusAfter piece n last places → IsQueue piece n pins last places queue → (v : Point) → IsNext piece n pins last v → Member v queue
  queued None places queue hp s k v next = first_queued queue (subst (λ (xs : List ℕ). IsQueue piece n pins None xs queue) s k) v next
  queued (Some p) places queue hp s k v next = next_queued p hp places queue s k v next

  nowhere : (v : Point) → Member v [] → ⊥
  nowhere v h = h

  -- what comes first of finitely many events to come
  pub data FirstOf (last : Option Point) (vs : List Point) : Type 0 where
    no_more : ((r : Point) → Member r vs → IsBeyond last r → ⊥) → FirstOf last vs
    first : (v : Point) → Member v vs → IsBeyond last v → ((r : Point) → Member r vs → IsBeyond last r → IsAtMost v r) → FirstOf last vs

  pub is_beyond : (last : Option Point) (r : Point) → IsBeyond last r ⊎ (IsBeyond last r → ⊥)
  is_beyond None r = inl tt
  is_beyond (Some p) r = elim (in_order r p) [ inl a ↦ inr (λ (h : point_cmp p r ≡ Less). not_both p r h a) | inr b ↦ inl b ]

  pub first_of : (last : Option Point) (vs : List Point) → FirstOf last vs
  first_of last [] = no_more (λ r m b. m)
  first_of last (x ∷ vs) = step (is_beyond last x) (first_of last vs)
    where
      step : IsBeyond last x ⊎ (IsBeyond last x → ⊥) → FirstOf last vs → FirstOf last (x ∷ vs)
      step (inr off) (no_more f) = no_more (λ r m b. elim m [ inl e ↦ off (subst (λ (t : Point). IsBeyond last t) e b) | inr k ↦ f r k b ])
      step (inr off) (first v m b f) = first v (inr m) b (λ r k c. elim k [ inl e ↦ absurd (off (subst (λ (t : Point). IsBeyond last t) e c)) | inr i ↦ f r i c ])
      step (inl on) (no_more f) = first x (inl refl) on (λ r k c. elim k [ inl e ↦ subst (λ (t : Point). IsAtMost x t) (sym e) (at_most_itself x) | inr i ↦ absurd (f r i c) ])
      step (inl on) (first v m b f) = elim (in_order x v) [
        | inl a ↦ first x (inl refl) on (λ r k c. elim k [ inl e ↦ subst (λ (t : Point). IsAtMost x t) (sym e) (at_most_itself x) | inr i ↦ at_most_chain x v r a (f r i c) ])
        | inr a ↦ first v (inr m) b (λ r k c. elim k [ inl e ↦ subst (λ (t : Point). IsAtMost v t) (sym e) (less_at_most v x a) | inr i ↦ f r i c ])
      ]

  -- the events are those of a list
  module _ (vs : List Point) (listed : (r : Point) → Event r → Member r vs) (event : (r : Point) → Member r vs → Event r) (last : Option Point) (places : List ℕ) (queue : List Point) (hp : IsPointAfter last) (status : IsStatusAfter piece n last places) (known : IsQueue piece n pins last places queue) where
    -- the least point of the queue is the next event
    pub least_is_next : (q : Point) → Member q queue → ((r : Point) → Member r queue → IsAtMost q r) → IsNext piece n pins last q
    least_is_next q m least = by (first_of last vs)
      where
        by : FirstOf last vs → IsNext piece n pins last q
        by (no_more f) = let s = known.sound q m in absurd (f q (listed q s.0) s.1)
        by (first v k b f) =
            let s = known.sound q m in
            let next : IsNext piece n pins last v = record { event = event v k; beyond = b; first = λ r e c. f r (listed r e) c } in
            let a = least v (queued last places queue hp status known v next) in
            record { event = s.0; beyond = s.1; first = λ r e c. at_most_chain q v r a (f r (listed r e) c) }

    -- and where the queue is empty, there is none
    pub none_left : queue ≡ [] → (r : Point) → Event r → IsBeyond last r → ⊥
    none_left e r h b = by (first_of last vs)
      where
        by : FirstOf last vs → ⊥
        by (no_more f) = f r (listed r h) b
        by (first v k c f) = nowhere v (subst (λ (xs : List Point). Member v xs) e (queued last places queue hp status known v (record { event = event v k; beyond = c; first = λ r e c. f r (listed r e) c })))
