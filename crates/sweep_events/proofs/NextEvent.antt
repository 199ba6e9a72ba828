-- What a call for the next event makes of a sweep, by what its calls told.
use Rattle.std.proofs.Common.{◌≡◌, ℕ, ◌<◌, ◌+◌, ◌-◌, refl, ap, sym, subst, arith, inl, inr, true, List, length, get_or, Ordering, Less, Equal, Greater}
use Rattle.std.specs.List.{splice, count_by}
use Rattle.std.specs.Prelude.{◌⊎◌, Option, None, Some}
use Rattle.std.specs.Ordering.{is_lt}
use Rattle.exact_plane.specs.Point.{Point, IsPoint}
use Rattle.exact_plane.specs.PointOrder.{point_cmp}
use Rattle.exact_plane.specs.PointOrderLaws.{point_cmp_total}
use Rattle.exact_plane.specs.Span.{Span}
use Rattle.plane_graphs.specs.Ascending.{Member}
use Rattle.plane_graphs.proofs.Ascending.{from_member}
use Rattle.plane_graphs.proofs.Sorting.{member_at}
use Rattle.std.specs.Cmp.{tied_itself}
use Rattle.slab_faces.proofs.Sums.{fewer_than}
use Rattle.sweep_events.specs.EventList.{all_events, is_beyond, events_left}
use Rattle.sweep_events.proofs.EventsListed.{listed}
use Rattle.sweep_events.specs.Events.{IsEvent, IsBeyond}
use Rattle.sweep_events.specs.Places.{piece_at}
use Rattle.sweep_events.specs.Seams.{MeetAtSeam, IsGrown, AreThere}
use Rattle.sweep_events.specs.Status.{IsWaiting, IsStatus}
use Rattle.sweep_events.specs.Sweep.{Swept, IsSweep, IsNextOf}
use Rattle.sweep_events.specs.Exchange.{IsExchange}
use Rattle.sweep_events.specs.Begun.{queue_of, IsPassed, AreBegun}
use Rattle.sweep_events.specs.Starts.{AreStarts}
use Rattle.sweep_events.specs.declared.places.Start.{Start}
use Rattle.sweep_events.proofs.AfterEvent.{status_after}
use Rattle.sweep_events.proofs.BegunPieces.{more, kept_after, there_after, new_after}
use Rattle.sweep_events.proofs.Queue.{event_point}
use Rattle.sweep_events.proofs.Exchanged.{waiting_of, moved, moved_sweep}

pub next_point : (s : Swept) (keys : List Point) → IsSweep s keys → (q : Point) → IsNextOf s q → IsPoint q
next_point s keys h q next = event_point (piece_at s.pieces) (length s.pieces) s.pins h.spans h.pinned q next.event

pub waits_at : (s : Swept) (keys : List Point) → IsSweep s keys → (q : Point) → IsNextOf s q → (ps : List Span) (xs : List ℕ) → ps ≡ s.pieces → xs ≡ s.status → IsWaiting (piece_at ps) (length ps) q xs
waits_at s keys h q next ps xs e f =
    subst (λ (ys : List ℕ). IsWaiting (piece_at ps) (length ps) q ys) (sym f) (subst (λ (qs : List Span). IsWaiting (piece_at qs) (length qs) q s.status) (sym e) (waiting_of s keys h q next))

-- the exchange, of what the sweep holds
pub exchange_of : (s : Swept) (q : Point) (ps : List Span) (xs : List ℕ) (lo hi top : ℕ) (came run : List ℕ) → ps ≡ s.pieces → xs ≡ s.status → run ≡ came → IsExchange ps q xs (splice xs lo hi came) lo top → IsExchange s.pieces q s.status (splice s.status lo hi run) lo top
exchange_of s q ps xs lo hi top came run e f g t =
    subst (λ (rs : List ℕ). IsExchange s.pieces q s.status (splice s.status lo hi rs) lo top) (sym g)
    (subst (λ (ys : List ℕ). IsExchange s.pieces q ys (splice ys lo hi came) lo top) f (subst (λ (qs : List Span). IsExchange qs q xs (splice xs lo hi came) lo top) e t))

module _ (s : Swept) (keys : List Point) (h : IsSweep s keys) (q : Point) (next : IsNextOf s q) (after : List ℕ) (first second : ℕ) (exchange : IsExchange s.pieces q s.status after first second) where
  status_is : IsStatus (piece_at s.pieces) (length s.pieces) q after
  status_is =
      subst (λ (xs : List ℕ). IsStatus (piece_at s.pieces) (length s.pieces) q xs) (sym exchange.after_is)
      (status_after (piece_at s.pieces) (length s.pieces) h.spans q exchange.low exchange.old exchange.mid exchange.high
      (subst (λ (xs : List ℕ). IsWaiting (piece_at s.pieces) (length s.pieces) q xs) exchange.before_is (waiting_of s keys h q next)) exchange.split exchange.run exchange.sloped)

  pub within : (i : ℕ) → Member i after → i < length s.pieces
  within i m = ((status_is.met i).0 m).0

  abbrev AtSeams : Point → Type 0
  AtSeams r = MeetAtSeam s.pieces after first r ⊎ MeetAtSeam s.pieces after second r

  seam_event : (seam : ℕ) (r : Point) → MeetAtSeam s.pieces after seam r → IsEvent (piece_at s.pieces) (length s.pieces) s.pins r
  seam_event seam r m = inr (inr (record {
    one = get_or after (seam - 1) 0;
    other = get_or after seam 0;
    one_within = within (get_or after (seam - 1) 0) (member_at after (seam - 1) 0 (let a = m.above in let b = m.within in omega (arith, a, b)));
    other_within = within (get_or after seam 0) (member_at after seam 0 m.within);
    meet = m.meet;
  }))

  seams_event : (r : Point) → AtSeams r → IsEvent (piece_at s.pieces) (length s.pieces) s.pins r
  seams_event r (inl m) = seam_event first r m
  seams_event r (inr m) = seam_event second r m

  further : (o : Option Point) → IsBeyond o q → (r : Point) → point_cmp q r ≡ Less → IsBeyond o r
  further None b r k = tt
  further (Some p) b r k = point_cmp_total.trans p q r b k

  module _ (later : List Point) (grown : IsGrown AtSeams q keys later) where
    -- the sweep with more in its queue is one
    pub grown_sweep : IsSweep s later
    grown_sweep = record {
      spans = h.spans;
      pinned = h.pinned;
      last_point = h.last_point;
      status = h.status;
      queued = record {
        sound = λ r m. elim (grown.comes r m) [ inl a ↦ h.queued.sound r a | inr b ↦ (seams_event r b.0, further s.last next.beyond r b.1) ];
        ends = λ i r k e b. grown.stays r (h.queued.ends i r k e b);
        pins_in = λ r m b. grown.stays r (h.queued.pins_in r m b);
        meetings = λ i j r n m b. grown.stays r (h.queued.meetings i j r n m b);
      };
    }

  -- and after the event, by what was put into its queue and what was passed
  module _ (starts : List Start) (ok : AreStarts s.pieces starts) (old : List Point) (n : ℕ) (queue_is : keys ≡ queue_of old starts n) (begun : AreBegun s.last starts n) where
    pub h' : IsSweep s (queue_of old starts n)
    h' = subst (λ (xs : List Point). IsSweep s xs) queue_is h

    pub passed_on : (later passed : List Point) → IsGrown AtSeams q old later → IsPassed q later passed → AreThere (MeetAtSeam s.pieces after first) q later → AreThere (MeetAtSeam s.pieces after second) q later →
        (m : ℕ) → m ≡ n + more s starts ok old n h' begun q next → IsSweep (moved s q after) (queue_of passed starts m)
    passed_on later passed grown gone f g m e =
        subst (λ k. IsSweep (moved s q after) (queue_of passed starts k)) (sym e)
        (moved_sweep s (queue_of old starts n) h' q next after first second exchange (queue_of passed starts (n + more s starts ok old n h' begun q next))
        (kept_after s starts ok old n h' begun q next AtSeams later passed grown gone)
        (there_after s starts ok old n h' begun q next AtSeams later passed grown gone (MeetAtSeam s.pieces after first) f)
        (there_after s starts ok old n h' begun q next AtSeams later passed grown gone (MeetAtSeam s.pieces after second) g)
        (new_after s starts ok old n h' begun q next AtSeams later passed grown gone seams_event))

-- after an event fewer are to come
pub left_falls : (s now : Swept) (keys : List Point) → IsSweep s keys → s ≡ now → (q : Point) → IsNextOf s q → (new : Swept) → new.pieces ≡ s.pieces → new.pins ≡ s.pins → new.last ≡ Some q → events_left new < events_left now
unfolding events_left
left_falls s now keys h is q next new e f l =
    subst (λ (u : Swept). count_by (is_beyond new.last) (all_events (piece_at new.pieces) (length new.pieces) new.pins) < count_by (is_beyond u.last) (all_events (piece_at u.pieces) (length u.pieces) u.pins)) is
    (subst (λ (o : Option Point). count_by (is_beyond o) (all_events (piece_at new.pieces) (length new.pieces) new.pins) < before) (sym l)
    (subst (λ (ps : List Span). count_by (is_beyond (Some q)) (all_events (piece_at ps) (length ps) new.pins) < before) (sym e)
    (subst (λ (rs : List Point). count_by (is_beyond (Some q)) (all_events (piece_at s.pieces) (length s.pieces) rs) < before) (sym f)
    (fewer_than (is_beyond (Some q)) (is_beyond s.last) all q (from_member all q (listed (piece_at s.pieces) (length s.pieces) s.pins h.spans h.pinned q next.event)) (ap is_lt (tied_itself point_cmp_total q)) (test_in s.last q next.beyond)
    (λ r c t. test_in s.last r (further_on s.last next.beyond r (test_out (Some q) r t)))))))
  where
    all : List Point
    all = all_events (piece_at s.pieces) (length s.pieces) s.pins

    before : ℕ
    before = count_by (is_beyond s.last) (all_events (piece_at s.pieces) (length s.pieces) s.pins)

    is_less : (o : Ordering) → is_lt o ≡ true → o ≡ Less
    is_less Less t = refl
    is_less Equal t = cc
    is_less Greater t = cc

    test_in : (o : Option Point) (r : Point) → IsBeyond o r → is_beyond o r ≡ true
    test_in None r b = refl
    test_in (Some p) r b = ap is_lt b

    test_out : (o : Option Point) (r : Point) → is_beyond o r ≡ true → IsBeyond o r
    test_out None r t = tt
    test_out (Some p) r t = is_less (point_cmp p r) t

    further_on : (o : Option Point) → IsBeyond o q → (r : Point) → point_cmp q r ≡ Less → IsBeyond o r
    further_on None b r k = tt
    further_on (Some p) b r k = point_cmp_total.trans p q r b k

-- the queue with what was put in, of what the sweep holds
module _ (s : Swept) (ps : List Span) (xs : List ℕ) (lo hi : ℕ) (run : List ℕ) (e : ps ≡ s.pieces) (f : xs ≡ s.status) (q : Point) where
  pub grown_of : (first second : ℕ) (old new : List Point) → IsGrown (λ r. MeetAtSeam ps (splice xs lo hi run) first r ⊎ MeetAtSeam ps (splice xs lo hi run) second r) q old new → IsGrown (λ r. MeetAtSeam s.pieces (splice s.status lo hi run) first r ⊎ MeetAtSeam s.pieces (splice s.status lo hi run) second r) q old new
  grown_of first second old new g =
      subst (λ (ys : List ℕ). IsGrown (λ r. MeetAtSeam s.pieces (splice ys lo hi run) first r ⊎ MeetAtSeam s.pieces (splice ys lo hi run) second r) q old new) f
      (subst (λ (qs : List Span). IsGrown (λ r. MeetAtSeam qs (splice xs lo hi run) first r ⊎ MeetAtSeam qs (splice xs lo hi run) second r) q old new) e g)

  pub there_of : (seam : ℕ) (new : List Point) → AreThere (MeetAtSeam ps (splice xs lo hi run) seam) q new → AreThere (MeetAtSeam s.pieces (splice s.status lo hi run) seam) q new
  there_of seam new g = subst (λ (ys : List ℕ). AreThere (MeetAtSeam s.pieces (splice ys lo hi run) seam) q new) f (subst (λ (qs : List Span). AreThere (MeetAtSeam qs (splice xs lo hi run) seam) q new) e g)

-- the sweep with a list in its status that is the same
pub same_status : (s : Swept) (queue : List Point) (xs : List ℕ) → xs ≡ s.status → IsSweep s queue → IsSweep (record { pieces = s.pieces; pins = s.pins; last = s.last; status = xs }) queue
same_status s queue xs e h = subst (λ (ys : List ℕ). IsSweep (record { pieces = s.pieces; pins = s.pins; last = s.last; status = ys }) queue) (sym e) h

-- the places that are to stand in the status are places of pieces
pub places_of : (s : Swept) (after : List ℕ) (ps : List Span) (xs : List ℕ) (lo hi : ℕ) (run : List ℕ) → ps ≡ s.pieces → xs ≡ s.status → after ≡ splice s.status lo hi run → ((i : ℕ) → Member i after → i < length s.pieces) → (i : ℕ) → Member i (splice xs lo hi run) → i < length ps
places_of s after ps xs lo hi run e f g h i m = subst (λ (qs : List Span). i < length qs) (sym e) (h i (subst (λ (zs : List ℕ). Member i zs) (sym g) (subst (λ (ys : List ℕ). Member i (splice ys lo hi run)) f m)))
