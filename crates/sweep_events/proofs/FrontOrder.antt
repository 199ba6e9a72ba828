-- The order of lines on the front: it changes for two lines only where they meet, and points on either side tell it.
use Rattle.std.proofs.Common.{◌≡◌, [], ◌∷◌, ℤ, pos, ◌+ℤ◌, ◌-ℤ◌, ◌*ℤ◌, ◌<ℤ◌, ◌≤ℤ◌, neg_ℤ, refl, ap, sym, ◌∙◌, subst, arith, inl, inr, Ordering, Less, Equal, Greater}
use Rattle.std.specs.Prelude.{◌⊎◌, true}
use Rattle.std.specs.Ordering.{int_cmp, ordering_then, ordering_reverse, is_le}
use Rattle.std.proofs.lemmas.Int.{ints, by_lt_z}
use Rattle.integers.proofs.Compare.{less_out, less_in, equal_out, equal_in}
use Rattle.integers.proofs.Reify.{ring, sides}
use Rattle.integers.proofs.Signs.{cancel_zero, weak}
use Rattle.integers.proofs.Classes.{then_equal}
use Rattle.exact_plane.proofs.Meetings.{parallel_one}
use Rattle.exact_plane.specs.Line.{Line, side_of, IsLine, IsOn}
use Rattle.exact_plane.specs.Plane.{Before}
use Rattle.exact_plane.specs.Point.{Point, IsPoint}
use Rattle.exact_plane.specs.PointOrder.{point_cmp}
use Rattle.exact_plane.specs.PointOrderLaws.{point_cmp_total, same_point}
use Rattle.exact_plane.specs.Span.{Span, LiesOn, IsAtMost, IsSpan}
use Rattle.exact_plane.proofs.Orders.{at_most_chain, less_at_most}
use Rattle.exact_plane.proofs.PlaneLaws.{before_of, crosses_to_left, Crossing}
use Rattle.sweep_events.specs.Front.{across, upward, lean, lex, level_cmp, before_cmp, after_cmp}
use Rattle.sweep_events.proofs.TwoNumbers.{IsAhead, IsWeak, weaken, none, never_both, lex_in, lex_level, lex_back, mixed, forward_ahead, Lexed, lexed}
use Rattle.sweep_events.proofs.TwoNumbers.Lexed.{ahead, level, behind}

-- ---- points in order
pub apart : (p q : Point) → IsPoint p → IsPoint q → point_cmp p q ≡ Less → IsAhead (q.x *ℤ p.w -ℤ p.x *ℤ q.w) (q.y *ℤ p.w -ℤ p.y *ℤ q.w)
apart p q hp hq h = by (before_of p q hp hq h)
  where
    by : Before p.x p.y p.w q.x q.y q.w → IsAhead (q.x *ℤ p.w -ℤ p.x *ℤ q.w) (q.y *ℤ p.w -ℤ p.y *ℤ q.w)
    by (inl a) = inl (omega (arith, ints))
    by (inr a) = let e = a.0 in let f = a.1 in inr (omega (arith, ints), omega (arith, ints))

pub apart_weak : (p q : Point) → IsPoint p → IsPoint q → IsAtMost p q → IsWeak (q.x *ℤ p.w -ℤ p.x *ℤ q.w) (q.y *ℤ p.w -ℤ p.y *ℤ q.w)
apart_weak p q hp hq h = at (point_cmp p q) refl h
  where
    at : (o : Ordering) → point_cmp p q ≡ o → is_le (point_cmp p q) ≡ true → IsWeak (q.x *ℤ p.w -ℤ p.x *ℤ q.w) (q.y *ℤ p.w -ℤ p.y *ℤ q.w)
    at Less e h = weaken _ _ (apart p q hp hq e)
    at Equal e h = subst (λ (r : Point). IsWeak (r.x *ℤ p.w -ℤ p.x *ℤ r.w) (r.y *ℤ p.w -ℤ p.y *ℤ r.w)) (same_point p q e) (inr (omega (arith, ints), omega (arith, ints)))
    at Greater e h = cc

-- ---- the numbers that tell the order

-- they are linear in the point
pub across_moves : (l m : Line) (p q : Point) → across l m q *ℤ p.w ≡ across l m p *ℤ q.w +ℤ (q.x *ℤ p.w -ℤ p.x *ℤ q.w) *ℤ lean l m
across_moves l m p q = ring (l.a ∷ l.b ∷ l.c ∷ m.a ∷ m.b ∷ m.c ∷ p.x ∷ p.y ∷ p.w ∷ q.x ∷ q.y ∷ q.w ∷ []) (search sides depth 40 fits 20000) tt

pub upward_moves : (l m : Line) (p q : Point) → upward l m q *ℤ p.w ≡ upward l m p *ℤ q.w +ℤ (q.y *ℤ p.w -ℤ p.y *ℤ q.w) *ℤ lean l m
upward_moves l m p q = ring (l.a ∷ l.b ∷ l.c ∷ m.a ∷ m.b ∷ m.c ∷ p.x ∷ p.y ∷ p.w ∷ q.x ∷ q.y ∷ q.w ∷ []) (search sides depth 40 fits 20000) tt

-- p is above l or on it, m is above p or through it, and not both are through p
pub opposite : (l m : Line) (p : Point) → IsLine l → IsLine m → pos 0 ≤ℤ side_of l p → side_of m p ≤ℤ pos 0 → (pos 0 <ℤ side_of l p) ⊎ (side_of m p <ℤ pos 0) → IsAhead (across l m p) (upward l m p)
opposite l m p hl hm h k (inl s) =
    mixed (pos 1) (across l m p) (upward l m p) (side_of l p) m.b (neg_ℤ m.a) (neg_ℤ (side_of m p)) l.b (neg_ℤ l.a) (omega (arith, ints))
    (turn_x (side_of l p) m.b (side_of m p) l.b) (turn_y (side_of l p) m.a (side_of m p) l.a)
    s (omega (arith, ints)) (forward_ahead m.a m.b hm.runs) (weaken _ _ (forward_ahead l.a l.b hl.runs))
  where
    turn_x : (s b t d : ℤ) → (b *ℤ s -ℤ d *ℤ t) *ℤ pos 1 ≡ b *ℤ s +ℤ d *ℤ neg_ℤ t
    turn_x s b t d = ring (s ∷ b ∷ t ∷ d ∷ []) (search sides depth 40 fits 20000) tt

    turn_y : (s a t c : ℤ) → (c *ℤ t -ℤ a *ℤ s) *ℤ pos 1 ≡ neg_ℤ a *ℤ s +ℤ neg_ℤ c *ℤ neg_ℤ t
    turn_y s a t c = ring (s ∷ a ∷ t ∷ c ∷ []) (search sides depth 40 fits 20000) tt
opposite l m p hl hm h k (inr s) =
    mixed (pos 1) (across l m p) (upward l m p) (neg_ℤ (side_of m p)) l.b (neg_ℤ l.a) (side_of l p) m.b (neg_ℤ m.a) (omega (arith, ints))
    (turn_x (side_of l p) m.b (side_of m p) l.b) (turn_y (side_of l p) m.a (side_of m p) l.a)
    (omega (arith, ints)) h (forward_ahead l.a l.b hl.runs) (weaken _ _ (forward_ahead m.a m.b hm.runs))
  where
    turn_x : (s b t d : ℤ) → (b *ℤ s -ℤ d *ℤ t) *ℤ pos 1 ≡ d *ℤ neg_ℤ t +ℤ b *ℤ s
    turn_x s b t d = ring (s ∷ b ∷ t ∷ d ∷ []) (search sides depth 40 fits 20000) tt

    turn_y : (s a t c : ℤ) → (c *ℤ t -ℤ a *ℤ s) *ℤ pos 1 ≡ neg_ℤ c *ℤ neg_ℤ t +ℤ neg_ℤ a *ℤ s
    turn_y s a t c = ring (s ∷ a ∷ t ∷ c ∷ []) (search sides depth 40 fits 20000) tt

-- what compares as less is not behind, whatever breaks ties
pub not_behind : (x y : ℤ) (u : Ordering) → ordering_then (lex x y) u ≡ Less → IsAhead (neg_ℤ x) (neg_ℤ y) → ⊥
not_behind x y u h k = clash (lex x y) (lex_back x y k) h
  where
    clash : (o : Ordering) → o ≡ Greater → ordering_then o u ≡ Less → ⊥
    clash Less e f = cc
    clash Equal e f = cc
    clash Greater e f = cc

pub then_assoc : (o t u : Ordering) → ordering_then (ordering_then o t) u ≡ ordering_then o (ordering_then t u)
then_assoc Less t u = refl
then_assoc Equal t u = refl
then_assoc Greater t u = refl

-- of two lines in order on the front of p, the upper one passes at p or above where the lower one passes at p or above, and the other way round
pub upper_side : (l m : Line) (p : Point) (u : Ordering) → IsLine l → IsLine m → ordering_then (level_cmp p l m) u ≡ Less → side_of l p ≤ℤ pos 0 → side_of m p ≤ℤ pos 0
upper_side l m p u hl hm h k =
    by_lt_z (pos 0) (side_of m p)
    (λ s. absurd (not_behind (across l m p) (upward l m p) u h (turned (opposite m l p hm hl (weak s) k (inl s)))))
    (λ s. s)
  where
    turned : IsAhead (across m l p) (upward m l p) → IsAhead (neg_ℤ (across l m p)) (neg_ℤ (upward l m p))
    turned (inl a) = inl (omega (arith, ints))
    turned (inr a) = let e = a.0 in let f = a.1 in inr (omega (arith, ints), omega (arith, ints))

pub lower_side : (l m : Line) (p : Point) (u : Ordering) → IsLine l → IsLine m → ordering_then (level_cmp p l m) u ≡ Less → pos 0 ≤ℤ side_of m p → pos 0 ≤ℤ side_of l p
lower_side l m p u hl hm h k =
    by_lt_z (side_of l p) (pos 0)
    (λ s. absurd (not_behind (across l m p) (upward l m p) u h (turned (opposite m l p hm hl k (below (side_of l p) s) (inr s)))))
    (λ s. s)
  where
    below : (z : ℤ) → z <ℤ pos 0 → z ≤ℤ pos 0
    below z h = omega (arith, ints)

    turned : IsAhead (across m l p) (upward m l p) → IsAhead (neg_ℤ (across l m p)) (neg_ℤ (upward l m p))
    turned (inl a) = inl (omega (arith, ints))
    turned (inr a) = let e = a.0 in let f = a.1 in inr (omega (arith, ints), omega (arith, ints))

-- ---- from one point to the next
-- at a point of l, what tells the order is the side of m
across_on : (l m : Line) (p : Point) → IsOn l p → across l m p ≡ l.b *ℤ neg_ℤ (side_of m p)
across_on l m p e = ap (λ z. m.b *ℤ z -ℤ l.b *ℤ side_of m p) e ∙ ring (l.b ∷ m.b ∷ side_of m p ∷ []) (search sides depth 40 fits 20000) tt

upward_on : (l m : Line) (p : Point) → IsOn l p → upward l m p ≡ neg_ℤ l.a *ℤ neg_ℤ (side_of m p)
upward_on l m p e = ap (λ z. l.a *ℤ side_of m p -ℤ m.a *ℤ z) e ∙ ring (l.a ∷ m.a ∷ side_of m p ∷ []) (search sides depth 40 fits 20000) tt

-- a multiple of what is ahead is ahead only by a positive factor
factor : (x y d e k : ℤ) → IsAhead d e → x ≡ d *ℤ k → y ≡ e *ℤ k → IsAhead x y → pos 0 <ℤ k
factor x y d e k h ex ey a =
    by_lt_z (pos 0) k (λ p. p) (λ p. absurd (no p))
  where
    no : k ≤ℤ pos 0 → ⊥
    no p = by_lt_z k (pos 0)
        (λ n. never_both x y a (mixed (pos 1) (neg_ℤ x) (neg_ℤ y) (neg_ℤ k) d e (pos 0) (pos 0) (pos 0) (omega (arith, ints))
        (exchange x d k ex) (exchange y e k ey) (omega (arith, ints)) (omega (arith, ints)) h none))
        (λ n. let z : k ≡ pos 0 = omega (arith, ints) in flat a (ex ∙ ap (λ w. d *ℤ w) z ∙ zero d) (ey ∙ ap (λ w. e *ℤ w) z ∙ zero e))
      where
        exchange : (x d k : ℤ) → x ≡ d *ℤ k → neg_ℤ x *ℤ pos 1 ≡ d *ℤ neg_ℤ k +ℤ pos 0 *ℤ pos 0
        exchange x d k e = ap (λ z. neg_ℤ z *ℤ pos 1) e ∙ ring (d ∷ k ∷ []) (search sides depth 40 fits 20000) tt

        zero : (d : ℤ) → d *ℤ pos 0 ≡ pos 0
        zero d = ring (d ∷ []) (search sides depth 40 fits 20000) tt

        flat : IsAhead x y → x ≡ pos 0 → y ≡ pos 0 → ⊥
        flat (inl h) e f = omega (arith, ints)
        flat (inr h) e f = let g = h.1 in omega (arith, ints)

-- how far q is beyond p
abbrev dx : Point → Point → ℤ
dx p q = q.x *ℤ p.w -ℤ p.x *ℤ q.w

abbrev dy : Point → Point → ℤ
dy p q = q.y *ℤ p.w -ℤ p.y *ℤ q.w

swapped : (a b : ℤ) → a +ℤ b ≡ b +ℤ a
swapped a b = omega (arith, ints)

moved : (a b d n : ℤ) → a ≡ b +ℤ d *ℤ n → b ≡ a +ℤ d *ℤ neg_ℤ n
moved a b d n e = let r : d *ℤ neg_ℤ n ≡ neg_ℤ (d *ℤ n) = ring (d ∷ n ∷ []) (search sides depth 40 fits 20000) tt in omega (arith, ints)

module _ (l m : Line) (p q : Point) (hp : IsPoint p) (hq : IsPoint q) where
  -- where m is steeper or parallel, what is ahead at p is ahead beyond p
  pub stays_ahead : IsAtMost p q → pos 0 ≤ℤ lean l m → IsAhead (across l m p) (upward l m p) → IsAhead (across l m q) (upward l m q)
  stays_ahead h n a =
      mixed p.w (across l m q) (upward l m q) q.w (across l m p) (upward l m p) (lean l m) (dx p q) (dy p q) hp.range.positive
      (across_moves l m p q) (upward_moves l m p q) hq.range.positive n a (apart_weak p q hp hq h)

  -- where it is steeper, the two are in order just beyond their meeting
  pub gets_ahead : point_cmp p q ≡ Less → pos 0 <ℤ lean l m → IsWeak (across l m p) (upward l m p) → IsAhead (across l m q) (upward l m q)
  gets_ahead h n a =
      mixed p.w (across l m q) (upward l m q) (lean l m) (dx p q) (dy p q) q.w (across l m p) (upward l m p) hp.range.positive
      (across_moves l m p q ∙ swapped (across l m p *ℤ q.w) (dx p q *ℤ lean l m)) (upward_moves l m p q ∙ swapped (upward l m p *ℤ q.w) (dy p q *ℤ lean l m)) n (weak hq.range.positive) (apart p q hp hq h) a

  -- and where l is steeper, what is ahead at q was ahead before
  pub was_ahead : IsAtMost p q → lean l m ≤ℤ pos 0 → IsAhead (across l m q) (upward l m q) → IsAhead (across l m p) (upward l m p)
  was_ahead h n a =
      mixed q.w (across l m p) (upward l m p) p.w (across l m q) (upward l m q) (neg_ℤ (lean l m)) (dx p q) (dy p q) hq.range.positive
      (moved (across l m q *ℤ p.w) (across l m p *ℤ q.w) (dx p q) (lean l m) (across_moves l m p q)) (moved (upward l m q *ℤ p.w) (upward l m p *ℤ q.w) (dy p q) (lean l m) (upward_moves l m p q)) hp.range.positive (turned (lean l m) n) a (apart_weak p q hp hq h)
    where
      turned : (z : ℤ) → z ≤ℤ pos 0 → pos 0 ≤ℤ neg_ℤ z
      turned z h = omega (arith, ints)

-- ---- the two lines the other way round
pub turn_ahead : (l m : Line) (p : Point) → IsAhead (across m l p) (upward m l p) → IsAhead (neg_ℤ (across l m p)) (neg_ℤ (upward l m p))
turn_ahead l m p (inl a) = inl (omega (arith, ints))
turn_ahead l m p (inr a) = let e = a.0 in let f = a.1 in inr (omega (arith, ints), omega (arith, ints))

pub turn_behind : (l m : Line) (p : Point) → IsAhead (neg_ℤ (across l m p)) (neg_ℤ (upward l m p)) → IsAhead (across m l p) (upward m l p)
turn_behind l m p (inl a) = inl (omega (arith, ints))
turn_behind l m p (inr a) = let e = a.0 in let f = a.1 in inr (omega (arith, ints), omega (arith, ints))

pub level_weak : (l m : Line) (p : Point) → across l m p ≡ pos 0 → upward l m p ≡ pos 0 → IsWeak (across m l p) (upward m l p)
level_weak l m p e f = inr (omega (arith, ints), omega (arith, ints))

-- level at r and ahead at p, l steeper: p is before r
pub before_level : (l m : Line) (p r : Point) → IsPoint p → IsPoint r → lean l m <ℤ pos 0 → across l m r ≡ pos 0 → upward l m r ≡ pos 0 → IsAhead (across l m p) (upward l m p) → point_cmp p r ≡ Less
before_level l m p r hp hr n ex ey a = at (point_cmp p r) refl
  where
    level_at : Point → Type 0
    level_at t = IsAhead (across l m t) (upward l m t)

    zeroed : IsAhead (across l m r) (upward l m r) → ⊥
    zeroed (inl h) = omega (arith, ints)
    zeroed (inr h) = let f = h.1 in omega (arith, ints)

    at : (o : Ordering) → point_cmp p r ≡ o → point_cmp p r ≡ Less
    at Less e = e
    at Equal e = absurd (zeroed (subst (λ (t : Point). IsAhead (across l m t) (upward l m t)) (same_point p r e) a))
    at Greater e =
        absurd (never_both (across l m p) (upward l m p) a (turn_ahead l m p (gets_ahead m l r p hr hp (point_cmp_total.antisymm r p ∙ ap ordering_reverse e) (omega (arith, ints)) (level_weak l m r ex ey))))

-- level at r and behind at q, l steeper: r is before q
pub after_level : (l m : Line) (q r : Point) → IsPoint q → IsPoint r → lean l m <ℤ pos 0 → across l m r ≡ pos 0 → upward l m r ≡ pos 0 → IsAhead (neg_ℤ (across l m q)) (neg_ℤ (upward l m q)) → point_cmp r q ≡ Less
after_level l m q r hq hr n ex ey a = at (point_cmp r q) refl
  where
    zeroed : IsAhead (neg_ℤ (across l m r)) (neg_ℤ (upward l m r)) → ⊥
    zeroed (inl h) = omega (arith, ints)
    zeroed (inr h) = let f = h.1 in omega (arith, ints)

    at : (o : Ordering) → point_cmp r q ≡ o → point_cmp r q ≡ Less
    at Less e = e
    at Equal e = absurd (zeroed (subst (λ (t : Point). IsAhead (neg_ℤ (across l m t)) (neg_ℤ (upward l m t))) (sym (same_point r q e)) a))
    at Greater e =
        let h : point_cmp q r ≡ Less = point_cmp_total.antisymm q r ∙ ap ordering_reverse e in
        absurd (zeroed (turn_ahead l m r (stays_ahead m l q r hq hr (less_at_most q r h) (omega (arith, ints)) (turn_behind l m q a))))

-- ---- two spans from p to q, with no common point between: they keep their order
module _ (s t : Span) (hs : IsSpan s) (ht : IsSpan t) (p q : Point) (hp : IsPoint p) (hq : IsPoint q) (pq : point_cmp p q ≡ Less)
    (sp : IsAtMost s.lower p) (tp : IsAtMost t.lower p) (sq : IsAtMost q s.upper) (tq : IsAtMost q t.upper)
    (clear : (s.line ≡ t.line → ⊥) → (r : Point) → IsPoint r → LiesOn s r → LiesOn t r → point_cmp p r ≡ Less → point_cmp r q ≡ Less → ⊥) where
  abbrev l : Line
  l = s.line

  abbrev m : Line
  m = t.line

  unlike : lean l m <ℤ pos 0 → l ≡ m → ⊥
  unlike n e = let z : lean l m ≡ pos 0 = ap (λ (k : Line). lean k m) e ∙ ring (m.a ∷ m.b ∷ []) (search sides depth 40 fits 20000) tt in omega (arith, ints)

  on_level : (r : Point) → IsOn l r → IsOn m r → (across l m r ≡ pos 0) × (upward l m r ≡ pos 0)
  on_level r e f = (
    across_on l m r e ∙ ap (λ z. l.b *ℤ neg_ℤ z) f ∙ ring (l.b ∷ []) (search sides depth 40 fits 20000) tt,
    upward_on l m r e ∙ ap (λ z. neg_ℤ l.a *ℤ neg_ℤ z) f ∙ ring (l.a ∷ []) (search sides depth 40 fits 20000) tt,
  )

  -- a crossing of the lines, between p and q, would be a common point
  no_crossing : lean l m <ℤ pos 0 → IsAhead (across l m p) (upward l m p) → IsAhead (neg_ℤ (across l m q)) (neg_ℤ (upward l m q)) → ⊥
  no_crossing n a b =
      let at_low = was_ahead l m s.lower p hs.lower hp sp (low (lean l m) n) a in
      let at_high = stays_ahead m l q s.upper hq hs.upper sq (up' n) (turn_behind l m q b) in
      let dir = forward_ahead l.a l.b hs.line.runs in
      let right : side_of m s.lower <ℤ pos 0 = under (side_of m s.lower) (factor (across l m s.lower) (upward l m s.lower) l.b (neg_ℤ l.a) (neg_ℤ (side_of m s.lower)) dir (across_on l m s.lower hs.way.lower_on) (upward_on l m s.lower hs.way.lower_on) at_low) in
      let left : pos 0 <ℤ side_of m s.upper = factor (across m l s.upper) (upward m l s.upper) l.b (neg_ℤ l.a) (side_of m s.upper) dir (turned_x s.upper hs.way.upper_on) (turned_y s.upper hs.way.upper_on) at_high in
      let c = crosses_to_left l m hs.line ht.line s.lower s.upper hs.lower hs.upper hs.way.lower_on hs.way.upper_on hs.way.ascending right left in
      meets c
    where
      low : (z : ℤ) → z <ℤ pos 0 → z ≤ℤ pos 0
      low z h = omega (arith, ints)

      up' : lean l m <ℤ pos 0 → pos 0 ≤ℤ lean m l
      up' h = omega (arith, ints)

      under : (z : ℤ) → pos 0 <ℤ neg_ℤ z → z <ℤ pos 0
      under z h = omega (arith, ints)

      turned_x : (r : Point) → IsOn l r → across m l r ≡ l.b *ℤ side_of m r
      turned_x r e = ap (λ z. l.b *ℤ side_of m r -ℤ m.b *ℤ z) e ∙ ring (l.b ∷ m.b ∷ side_of m r ∷ []) (search sides depth 40 fits 20000) tt

      turned_y : (r : Point) → IsOn l r → upward m l r ≡ neg_ℤ l.a *ℤ side_of m r
      turned_y r e = ap (λ z. m.a *ℤ z -ℤ l.a *ℤ side_of m r) e ∙ ring (l.a ∷ m.a ∷ side_of m r ∷ []) (search sides depth 40 fits 20000) tt

      meets : Crossing l m s.lower s.upper → ⊥
      meets c =
          let r = c.place in
          let z = on_level r c.is.on_first c.is.on_second in
          let pr = before_level l m p r hp c.is.point n z.0 z.1 a in
          let rq = after_level l m q r hq c.is.point n z.0 z.1 b in
          clear (unlike n) r c.is.point
          (record { on = c.is.on_first; from = less_at_most s.lower r c.is.after; upto = less_at_most r s.upper c.is.before })
          (record { on = c.is.on_second; from = at_most_chain t.lower p r tp (less_at_most p r pr); upto = at_most_chain r q t.upper (less_at_most r q rq) tq })
          pr rq

  kept : Lexed (across l m p) (upward l m p) → Lexed (across l m q) (upward l m q) → after_cmp p l m ≡ Less → before_cmp q l m ≡ Less
  kept x (ahead b) h = ap (λ o. ordering_then o (int_cmp (lean l m) (pos 0))) (lex_in _ _ b)
  kept (ahead a) (level e f) h =
      by_lt_z (lean l m) (pos 0)
      (λ n. ap (λ o. ordering_then o (int_cmp (lean l m) (pos 0))) (lex_level _ _ e f) ∙ less_in (lean l m) (pos 0) n)
      (λ n. absurd (flat (stays_ahead l m p q hp hq (less_at_most p q pq) n a) e f))
    where
      flat : IsAhead (across l m q) (upward l m q) → across l m q ≡ pos 0 → upward l m q ≡ pos 0 → ⊥
      flat (inl h) e f = omega (arith, ints)
      flat (inr h) e f = let g = h.1 in omega (arith, ints)
  kept (ahead a) (behind b) h =
      by_lt_z (lean l m) (pos 0)
      (λ n. absurd (no_crossing n a b))
      (λ n. absurd (never_both _ _ (stays_ahead l m p q hp hq (less_at_most p q pq) n a) b))
  kept (level e f) y h =
      let g : int_cmp (pos 0) (lean l m) ≡ Less = sym (ap (λ o. ordering_then o (int_cmp (pos 0) (lean l m))) (lex_level _ _ e f)) ∙ h in
      ap (λ o. ordering_then o (int_cmp (lean l m) (pos 0))) (lex_in _ _ (gets_ahead l m p q hp hq pq (less_out (pos 0) (lean l m) g) (inr (e, same_weak f))))
    where
      same_weak : {z : ℤ} → z ≡ pos 0 → pos 0 ≤ℤ z
      same_weak {z} e = omega (arith, ints)
  kept (behind b) y h = absurd (not_behind (across l m p) (upward l m p) (int_cmp (pos 0) (lean l m)) h b)

  -- what is in order just after p is in order just before q
  pub keeps : after_cmp p l m ≡ Less → before_cmp q l m ≡ Less
  keeps = kept (lexed (across l m p) (upward l m p)) (lexed (across l m q) (upward l m q))

-- ---- ties are one line
pub level_out : (x y : ℤ) → lex x y ≡ Equal → (x ≡ pos 0) × (y ≡ pos 0)
level_out x y h = by (lexed x y)
  where
    by : Lexed x y → (x ≡ pos 0) × (y ≡ pos 0)
    by (ahead a) = let e = lex_in x y a in absurd (two (lex x y) e h)
      where
        two : (o : Ordering) → o ≡ Less → o ≡ Equal → ⊥
        two Less e f = cc
        two Equal e f = cc
        two Greater e f = cc
    by (level e f) = (e, f)
    by (behind b) = let e = lex_back x y b in absurd (two (lex x y) e h)
      where
        two : (o : Ordering) → o ≡ Greater → o ≡ Equal → ⊥
        two Less e f = cc
        two Equal e f = cc
        two Greater e f = cc

-- a line's direction times a number is nothing only where the number is
no_factor : (d e k : ℤ) → IsAhead d e → d *ℤ k ≡ pos 0 → e *ℤ k ≡ pos 0 → k ≡ pos 0
no_factor d e k (inl h) f g = cancel_zero {x = k} {k = d} h (ring (d ∷ k ∷ []) (search sides depth 40 fits 20000) tt ∙ f)
no_factor d e k (inr h) f g = cancel_zero {x = k} {k = e} h.1 (ring (e ∷ k ∷ []) (search sides depth 40 fits 20000) tt ∙ g)

pub one_line : (s t : Span) (p : Point) (hs : IsSpan s) (ht : IsSpan t) → IsPoint p → across s.line t.line p ≡ pos 0 → upward s.line t.line p ≡ pos 0 → lean s.line t.line ≡ pos 0 → s.line ≡ t.line
one_line s t p hs ht hp e f n =
    let r = s.lower in
    let x : across s.line t.line r ≡ pos 0 = still (across s.line t.line r) p.w (across s.line t.line p) r.w (dx p r) (lean s.line t.line) hp.range.positive (across_moves s.line t.line p r) e n in
    let y : upward s.line t.line r ≡ pos 0 = still (upward s.line t.line r) p.w (upward s.line t.line p) r.w (dy p r) (lean s.line t.line) hp.range.positive (upward_moves s.line t.line p r) f n in
    let z = no_factor s.line.b (neg_ℤ s.line.a) (neg_ℤ (side_of t.line r)) (forward_ahead s.line.a s.line.b hs.line.runs) (sym (across_on s.line t.line r hs.way.lower_on) ∙ x) (sym (upward_on s.line t.line r hs.way.lower_on) ∙ y) in
    parallel_one s.line t.line r hs.line ht.line hs.lower.range.positive n hs.way.lower_on (nothing (side_of t.line r) z)
  where
    still : (a w b v d n : ℤ) → pos 0 <ℤ w → a *ℤ w ≡ b *ℤ v +ℤ d *ℤ n → b ≡ pos 0 → n ≡ pos 0 → a ≡ pos 0
    still a w b v d n h e f g = cancel_zero {x = a} h (e ∙ (λ i. f i *ℤ v +ℤ d *ℤ g i) ∙ ring (v ∷ d ∷ []) (search sides depth 40 fits 20000) tt)

    nothing : (z : ℤ) → neg_ℤ z ≡ pos 0 → z ≡ pos 0
    nothing z e = omega (arith, ints)

pub tied_one_line : (s t : Span) (p : Point) → IsSpan s → IsSpan t → IsPoint p → after_cmp p s.line t.line ≡ Equal → s.line ≡ t.line
tied_one_line s t p hs ht hp h =
    let e = then_equal (level_cmp p s.line t.line) (int_cmp (pos 0) (lean s.line t.line)) h in
    let z = level_out _ _ e.0 in
    one_line s t p hs ht hp z.0 z.1 (sym (equal_out (pos 0) (lean s.line t.line) e.1))

-- one line is tied with itself
pub itself_level : (l : Line) (p : Point) → level_cmp p l l ≡ Equal
itself_level l p = lex_level (across l l p) (upward l l p) (omega (arith, ints)) (omega (arith, ints))

pub itself_before : (l : Line) (p : Point) → before_cmp p l l ≡ Equal
itself_before l p = ap (λ o. ordering_then o (int_cmp (lean l l) (pos 0))) (itself_level l p) ∙ equal_in (lean l l) (pos 0) (omega (arith, ints))

pub itself_after : (l : Line) (p : Point) → after_cmp p l l ≡ Equal
itself_after l p = ap (λ o. ordering_then o (int_cmp (pos 0) (lean l l))) (itself_level l p) ∙ equal_in (pos 0) (lean l l) (omega (arith, ints))

-- ---- at q
-- two lines of which one doesn't pass through q are in one order before and after q
pub cross_back : (l m : Line) (q : Point) → side_of l q *ℤ lean l m ≡ l.a *ℤ across l m q +ℤ l.b *ℤ upward l m q
cross_back l m q = ring (l.a ∷ l.b ∷ l.c ∷ m.a ∷ m.b ∷ m.c ∷ q.x ∷ q.y ∷ q.w ∷ []) (search sides depth 40 fits 20000) tt

pub no_zero : (s n : ℤ) → (s ≡ pos 0 → ⊥) → s *ℤ n ≡ pos 0 → n ≡ pos 0
no_zero s n off e =
    by_lt_z (pos 0) s
    (λ h. cancel_zero {x = n} {k = s} h (ring (n ∷ s ∷ []) (search sides depth 40 fits 20000) tt ∙ e))
    (λ h. by_lt_z s (pos 0)
    (λ k. cancel_zero {x = n} {k = neg_ℤ s} (above s k) (ring (n ∷ s ∷ []) (search sides depth 40 fits 20000) tt ∙ ap neg_ℤ e))
    (λ k. absurd (off (flat s h k))))
  where
    above : (s : ℤ) → s <ℤ pos 0 → pos 0 <ℤ neg_ℤ s
    above s h = omega (arith, ints)

    flat : (s : ℤ) → s ≤ℤ pos 0 → pos 0 ≤ℤ s → s ≡ pos 0
    flat s h k = omega (arith, ints)

pub not_behind_twice : (x y : ℤ) (t u : Ordering) → ordering_then (ordering_then (lex x y) t) u ≡ Less → IsAhead (neg_ℤ x) (neg_ℤ y) → ⊥
not_behind_twice x y t u h k = clash (lex x y) (lex_back x y k) h
  where
    clash : (o : Ordering) → o ≡ Greater → ordering_then (ordering_then o t) u ≡ Less → ⊥
    clash Less e f = cc
    clash Equal e f = cc
    clash Greater e f = cc

pub not_meeting : (l m : Line) (q : Point) (u : Ordering) → (side_of l q ≡ pos 0 → ⊥) → ordering_then (before_cmp q l m) u ≡ Less → ordering_then (after_cmp q l m) u ≡ Less
not_meeting l m q u off h = by (lexed (across l m q) (upward l m q))
  where
    by : Lexed (across l m q) (upward l m q) → ordering_then (after_cmp q l m) u ≡ Less
    by (ahead a) = ap (λ o. ordering_then (ordering_then o (int_cmp (pos 0) (lean l m))) u) (lex_in _ _ a)
    by (level e f) =
        let z : lean l m ≡ pos 0 = no_zero (side_of l q) (lean l m) off (cross_back l m q ∙ (λ i. l.a *ℤ e i +ℤ l.b *ℤ f i) ∙ ring (l.a ∷ l.b ∷ []) (search sides depth 40 fits 20000) tt) in
        let b : before_cmp q l m ≡ Equal = ap (λ o. ordering_then o (int_cmp (lean l m) (pos 0))) (lex_level _ _ e f) ∙ equal_in (lean l m) (pos 0) z in
        let a : after_cmp q l m ≡ Equal = ap (λ o. ordering_then o (int_cmp (pos 0) (lean l m))) (lex_level _ _ e f) ∙ equal_in (pos 0) (lean l m) (sym z) in
        ap (λ o. ordering_then o u) a ∙ sym (ap (λ o. ordering_then o u) b) ∙ h
    by (behind b) = absurd (not_behind_twice (across l m q) (upward l m q) (int_cmp (lean l m) (pos 0)) u h b)

-- lines on opposite sides of q, or one of them through it, are in order just after q
pub opposite_after : (l m : Line) (q : Point) (u : Ordering) → IsLine l → IsLine m → pos 0 ≤ℤ side_of l q → side_of m q ≤ℤ pos 0 → (pos 0 <ℤ side_of l q) ⊎ (side_of m q <ℤ pos 0) → ordering_then (after_cmp q l m) u ≡ Less
opposite_after l m q u hl hm h k s = ap (λ o. ordering_then (ordering_then o (int_cmp (pos 0) (lean l m))) u) (lex_in _ _ (opposite l m q hl hm h k s))

-- lines through q are in the order of their slopes just after q
pub through_after : (l m : Line) (q : Point) → IsOn l q → IsOn m q → after_cmp q l m ≡ int_cmp (pos 0) (lean l m)
through_after l m q e f =
    ap (λ o. ordering_then o (int_cmp (pos 0) (lean l m)))
    (lex_level (across l m q) (upward l m q) (across_on l m q e ∙ ap (λ z. l.b *ℤ neg_ℤ z) f ∙ ring (l.b ∷ []) (search sides depth 40 fits 20000) tt)
    (upward_on l m q e ∙ ap (λ z. neg_ℤ l.a *ℤ neg_ℤ z) f ∙ ring (l.a ∷ []) (search sides depth 40 fits 20000) tt))
